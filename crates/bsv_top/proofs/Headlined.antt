-- The headline of what is accepted and can be laid out.
use Rattle.std.proofs.Common.{◌≡◌, ℕ, false, List, refl, subst}
use Rattle.bsv_design.specs.declared.schedule.Schedule.{Schedule}
use Rattle.bsv_design.specs.scheme.Schemes.{Scheme, Asking}
use Rattle.bsv_design.specs.scheme.States.{opening}
use Rattle.bsv_tree.specs.meaning.Schemes.{tree_scheme}
use Rattle.bsv_tree.specs.tree.Trees.{TreeData}
use Rattle.bsv_clock.specs.Grounds.{IsLawful, IsScheduleOf}
use Rattle.bsv_clock.proofs.Clocks.{clock_fed}
use Rattle.bsv_clock.proofs.OneRun.{opening_fits, same_runs}
use Rattle.bsv_clock.proofs.Steadily.{steady_scheme}
use Rattle.bsv_flow.specs.Clocked.{IsWellClocked}
use Rattle.bsv_flow.specs.Compilings.{IsPlanned}
use Rattle.bsv_flow.proofs.Planned.{one_tree_planned}
use Rattle.bsv_top.specs.declared.status.Status.{Status}
use Rattle.bsv_top.specs.declared.status.Status.TheVariants as status
use Rattle.bsv_top.specs.declared.stop.Stop.{Stop}
use Rattle.bsv_top.specs.declared.stop.Stop.TheVariants as stop
use Rattle.bsv_top.specs.Answers as a
use Rattle.bsv_top.specs.Answers.{Answer, Asks, MadeAnswer, bad_traces_line, list_fault_line, trace_fault_line}
use Rattle.bsv_top.specs.Headline.{Headline, IsRunOver}
use Rattle.bsv_top.specs.LaidOut.{IsLaidOut}
use Rattle.bsv_top.specs.Outcomes.{Accepts, IsAccepted}
use Rattle.bsv_top.specs.Stops.{IsStopOf, status_of}
use Rattle.bsv_run.specs.Traces.{lines_of}
use Rattle.bsv_top.specs.Traces.{IsClean, trace_limit}
use Rattle.bsv_top.proofs.Grounds as grounds
use Rattle.bsv_run.proofs.Happening.{some_run}
use Rattle.bsv_top.proofs.Spelled.{same_asked}
use Rattle.bsv_io.specs.Writing.{Writing}

module _ (contents : List ℕ → List ℕ) (file top : List ℕ) (tree : TreeData) (made : Schedule) (planned : IsPlanned file contents top tree made) (laid : IsLaidOut tree) where
  abbrev S : Scheme
  S = tree_scheme tree

  lawful : IsLawful S
  lawful = grounds.lawful_here tree made laid.design laid.alike planned.planned.scheduled

  scheduled : IsScheduleOf S made
  scheduled = grounds.scheduled_here tree made laid.design laid.alike planned.planned.scheduled

  well : IsWellClocked S made
  well = grounds.clocked_here tree made laid.design laid.alike planned.planned.scheduled

  run_over : (trace : List ℕ) (qs : List Asking) → IsClean S.elements (contents trace) qs → IsRunOver contents file top trace tree made qs
  run_over trace qs clean =
      let fit = grounds.all_fit tree made laid.design laid.alike planned.planned.scheduled trace_limit 0 (lines_of (contents trace)) qs clean in
      let few = grounds.few_here tree made laid.design laid.alike planned.planned.scheduled in
      let run = some_run false S made lawful scheduled few (opening S.kinds) qs (opening_fits S.kinds) fit in
      let steady = steady_scheme false S lawful in
      record {
        fit = fit;
        rows = run.rows;
        runs = run.continues;
        one = λ others more. same_runs false S made steady lawful scheduled (λ q s together. clock_fed false S made q s together steady) qs run.rows others fit run.continues more;
        printed = a.Answer.done tree made qs run.rows refl planned laid well clean run.continues;
        shown = λ v is. record { some = is.runs.some qs fit; told = λ tolds runs. is.runs.told qs run.rows tolds fit run.continues runs };
      }

  pub headline : Headline contents file top tree made
  headline = record { clocked = well; traces = run_over }

-- ---- of what words ask for

module _ (words : List (List ℕ)) (contents : List ℕ → List ℕ) where
  pub accepted_headline : IsAccepted words contents → (file top : List ℕ) (tree : TreeData) (made : Schedule) → Asks words file top → IsPlanned file contents top tree made
      → Headline contents file top tree made
  accepted_headline x file top tree made asks planned =
      let same = same_asked words x.file x.top file top x.asks asks in
      let here = subst (λ (t : List ℕ). IsPlanned file contents t x.tree x.made) same.1 (subst (λ (f : List ℕ). IsPlanned f contents x.top x.tree x.made) same.0 x.planned) in
      headline contents file top tree made planned (subst IsLaidOut (one_tree_planned file contents top x.tree tree x.made made here planned) x.laid)

  -- a made design has no bad line
  made_whole : (n : ℕ) (s : Status) (output text : List ℕ) → MadeAnswer n s output text → s ≡ status.TraceFault → ⊥
  made_whole n s output text (a.MadeAnswer.refused r h) e = let no_value : ⊥ = cc in no_value
  made_whole n s output text (a.MadeAnswer.no_program l built none) e = let no_value : ⊥ = cc in no_value
  made_whole n s output text (a.MadeAnswer.done tree made rows p laid runs) e = let no_value : ⊥ = cc in no_value

  -- what has a report up to a bad line is accepted
  accepted_at : (s : Status) (output text : List ℕ) → Answer words contents s output text → s ≡ status.TraceFault → IsAccepted words contents
  accepted_at s output text (a.Answer.usage none) e = absurd (let n : ⊥ = cc in n)
  accepted_at s output text (a.Answer.refused r k h) e = absurd (let n : ⊥ = cc in n)
  accepted_at s output text (a.Answer.no_program l k built none) e = absurd (let n : ⊥ = cc in n)
  accepted_at s output text (a.Answer.made is h) e = absurd (made_whole _ s output text h e)
  accepted_at s output text (a.Answer.scheduled tree made is p) e = absurd (let n : ⊥ = cc in n)
  accepted_at s output text (a.Answer.written tree made v is p has) e = absurd (let n : ⊥ = cc in n)
  accepted_at s output text (a.Answer.done tree made qs rows is p laid well clean runs) e = absurd (let n : ⊥ = cc in n)
  accepted_at s output text (a.Answer.trace_fault {file = f} {top = t} {trace = r} tree made qs rows is p laid well bad runs) e =
      record { file = f; top = t; asks = Asks.sim r is; tree = tree; made = made; planned = p; laid = laid }
  accepted_at s output text (a.Answer.suite {file = f} {top = t} {list = l} tree made is p laid well told) e =
      record { file = f; top = t; asks = Asks.suite l is; tree = tree; made = made; planned = p; laid = laid }

  pub accepted_stop : (out out' : Writing) (s : Stop) → IsStopOf words contents out out' s → Accepts (status_of s) → IsAccepted words contents
  accepted_stop out out' (stop.Refused r) known is = absurd is
  accepted_stop out out' (stop.Unread name) known is = absurd is
  accepted_stop out out' stop.Unwritable known is = absurd is
  accepted_stop out out' stop.OutOfMemory known is = absurd is
  accepted_stop out out' (stop.BadLine number) known is = accepted_at status.TraceFault known.0 (trace_fault_line number) known.1 refl
  accepted_stop out out' (stop.BadListLine number) known is = accepted_at status.TraceFault known.0 (list_fault_line number) known.1 refl
  accepted_stop out out' (stop.BadTraces count) known is = accepted_at status.TraceFault known.0 (bad_traces_line count) known.1 refl

-- ---- the other statuses

pub accepts_no_usage : (s : Status) → Accepts s → s ≡ status.Usage → ⊥
accepts_no_usage s h e = subst Accepts e h

pub accepts_no_fault : (s : Status) → Accepts s → s ≡ status.WriteFault → ⊥
accepts_no_fault s h e = subst Accepts e h
