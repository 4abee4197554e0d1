-- A run of what was compiled, as an answer; and how far it read.
use Rattle.std.proofs.Common.{◌≡◌, ◌∙◌, inl, inr, ℕ, ◌<◌, ◌≤◌, List, Option, refl, sym, ap, subst, arith}
use Rattle.std.proofs.lemmas.Bool.{cases_lt}
use Rattle.bsv_io.specs.Reading.{Current, Reading, bytes_given, given_of}
use Rattle.bsv_io.specs.Writing.{Writing}
use Rattle.bsv_design.specs.scheme.Schemes.{Outline}
use Rattle.bsv_tree.specs.meaning.Schemes.{tree_scheme}
use Rattle.bsv_tree.specs.tree.Trees.{TreeData}
use Rattle.bsv_flow.specs.declared.refusal.Refusal.{Refusal}
use Rattle.bsv_flow.specs.declared.scheduling.Compiled.{Compiled}
use Rattle.bsv_flow.specs.Compilings.{IsCompiled, IsPlanned}
use Rattle.bsv_flow.specs.Schedulings.{subject}
use Rattle.bsv_flow.specs.Sources.{read_limit}
use Rattle.bsv_flow.proofs.Planned.{compiled_planned, one_tree_planned}
use Rattle.bsv_top.specs.declared.status.Status.TheVariants as status
use Rattle.bsv_top.specs.declared.stop.Stop.{Stop}
use Rattle.bsv_top.specs.declared.stop.Stop.TheVariants as stop
use Rattle.bsv_top.specs.Answers as a
use Rattle.bsv_top.specs.Answers.{Answer, Asks, sim_words, trace_fault_line}
use Rattle.bsv_top.specs.LaidOut.{IsLaidOut}
use Rattle.bsv_top.specs.Outcomes as o
use Rattle.bsv_top.specs.Outcomes.{IsDoneBy, IsUnread, OutputStarted, StopsReport}
use Rattle.bsv_top.specs.Places as places
use Rattle.bsv_top.specs.Places.{IsTraceWithin, ReadsWithin, piece_limit}
use Rattle.bsv_run.specs.Reports.{report}
use Rattle.bsv_top.specs.Running as running
use Rattle.bsv_top.specs.Running.{Follows, IsStartedOf, IsDoneOf, IsFaultyOf, IsFollowed, IsInterruptedOf, its_outlines, scheduled_of}
use Rattle.bsv_top.specs.Stops.{IsStopOf}
use Rattle.bsv_top.specs.Traces.{HasBadLine}
use Rattle.bsv_top.proofs.Answering as answering
use Rattle.bsv_top.proofs.Lifting as lifting

module _ (file : List ℕ) (contents : List ℕ → List ℕ) (top trace : List ℕ) (c : Compiled) (x : IsCompiled file contents top c) where
  abbrev words : List (List ℕ)
  words = sim_words file top trace

  abbrev tree : TreeData
  tree = x.compiled.tree

  planned : IsPlanned file contents top tree c.schedule
  planned = compiled_planned file contents top c x

  laid : IsLaidOut tree
  laid = record { design = c.design; alike = x.compiled.design.alike }

  -- ---- answers

  pub simulated_done : (w next : Writing) → IsDoneOf (scheduled_of c) w (contents trace) next → IsDoneBy words contents w next
  simulated_done w next h =
      let done = lifting.done_here tree c.design c.schedule x.compiled.design.alike x.compiled.design.parts w (contents trace) next h in
      record {
        accepted = λ f t asked. record { file = file; top = top; asks = Asks.sim trace refl; tree = tree; made = c.schedule; planned = planned; laid = laid };
        output = report (subject tree) done.rows;
        answer = a.Answer.done tree c.schedule done.qs done.rows refl planned laid x.compiled.design.verilog.clocked done.clean done.runs;
        put = done.put;
      }

  pub simulated_started : (w next : Writing) → IsStartedOf (scheduled_of c) w (contents trace) next → OutputStarted words contents w next
  simulated_started w next h =
      answering.started_output words contents file top trace refl tree c.schedule planned laid w next
      (lifting.started_here tree c.design c.schedule x.compiled.design.alike x.compiled.design.parts w (contents trace) next h)

  pub simulated_interrupted : (w next : Writing) (at : Option Current) → IsInterruptedOf (scheduled_of c) w (contents trace) at next → StopsReport file top trace contents at w next
  simulated_interrupted w next at h = record {
    tree = tree;
    made = c.schedule;
    planned = planned;
    put = lifting.interrupted_here tree c.design c.schedule x.compiled.design.alike x.compiled.design.parts w (contents trace) next at h;
  }

  simulated_bad : (w next : Writing) (number : ℕ) → IsFaultyOf (scheduled_of c) w (contents trace) next number → IsStopOf words contents w next (stop.BadLine number)
  simulated_bad w next number h =
      let bad = lifting.faulty_here tree c.design c.schedule x.compiled.design.alike x.compiled.design.parts w (contents trace) next number h in (
        report (subject tree) bad.rows,
        subst (λ (n : ℕ). Answer words contents status.TraceFault (report (subject tree) bad.rows) (trace_fault_line n)) (sym bad.number_is)
            (a.Answer.trace_fault tree c.schedule bad.qs bad.rows refl planned laid x.compiled.design.verilog.clocked bad.bad bad.runs),
        bad.put,
      )

  pub simulated_stop : (w next : Writing) (s : Stop) → ((number : ℕ) → s ≡ stop.BadLine number → IsFaultyOf (scheduled_of c) w (contents trace) next number) → ((r : Refusal) → s ≡ stop.Refused r → ⊥)
      → ((number : ℕ) → s ≡ stop.BadListLine number → ⊥) → ((count : ℕ) → s ≡ stop.BadTraces count → ⊥)
      → ((name : List ℕ) → s ≡ stop.Unread name → name ≡ trace) → IsStopOf words contents w next s
  simulated_stop w next (stop.Refused r) bad own listed counted unread = absurd (own r refl)
  simulated_stop w next (stop.Unread name) bad own listed counted unread =
      subst (λ (n : List ℕ). IsStopOf words contents w next (stop.Unread n)) (sym (unread name refl)) (o.FaultText.of_trace file top tree c.schedule refl planned)
  simulated_stop w next stop.Unwritable bad own listed counted unread = tt
  simulated_stop w next stop.OutOfMemory bad own listed counted unread = tt
  simulated_stop w next (stop.BadLine number) bad own listed counted unread = simulated_bad w next number (bad number refl)
  simulated_stop w next (stop.BadListLine number) bad own listed counted unread = absurd (listed number refl)
  simulated_stop w next (stop.BadTraces count) bad own listed counted unread = absurd (counted count refl)

  -- ---- how far was read

  pub trace_within : (r : Reading) → IsFollowed (its_outlines (scheduled_of c)) piece_limit trace contents r → IsTraceWithin file top trace contents r
  trace_within r h = record {
    current = h.current;
    end = h.end;
    bad = λ other made qs planning bad.
        h.bad qs
        (subst (λ (os : List Outline). HasBadLine os (contents trace) qs)
        (ap (λ (t : TreeData). (tree_scheme t).elements) (one_tree_planned file contents top other tree made c.schedule planning planned) ∙ x.compiled.design.alike.elements) bad);
  }

  module _ (first second third : Reading) (loaded : read_limit < bytes_given second → second.current ≡ first.current) where
    still : third.current ≡ second.current → ReadsWithin file top trace contents first third
    still same =
        elim (cases_lt read_limit (bytes_given second)) [
          | inl far ↦ places.ReadsWithin.unread (same ∙ loaded far)
          | inr near ↦ places.ReadsWithin.source (subst (λ (at : Option Current). given_of at ≤ read_limit) (sym same) near)
        ]

    -- sources were loaded, and then the trace was read
    pub run_within : Follows (its_outlines (scheduled_of c)) trace contents second third → ReadsWithin file top trace contents first third
    run_within (running.Follows.unread same) = still same
    run_within (running.Follows.nothing none) = places.ReadsWithin.source (omega (arith, none))
    run_within (running.Follows.followed h) = places.ReadsWithin.run (trace_within third h)
