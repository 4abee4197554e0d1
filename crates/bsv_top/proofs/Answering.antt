-- What a run over a trace answers.
use Rattle.std.proofs.Common.{◌≡◌, ℕ, ◌+◌, false, List, [], ◌++◌, length, refl, sym, subst, arith}
use Rattle.bsv_prim.specs.declared.part.Part.{Part}
use Rattle.bsv_design.specs.declared.schedule.Schedule.{Schedule}
use Rattle.bsv_design.specs.scheme.Schemes.{Scheme, Asking}
use Rattle.bsv_tree.specs.meaning.Schemes.{tree_scheme}
use Rattle.bsv_design.specs.scheme.States.{FitsKinds, opening}
use Rattle.bsv_tree.specs.tree.Trees.{TreeData}
use Rattle.bsv_io.specs.Writing.{Writing}
use Rattle.bsv_clock.specs.Grounds.{IsLawful, IsScheduleOf}
use Rattle.bsv_clock.specs.Runs.{AllFit, Row, Continues, Runs}
use Rattle.bsv_clock.proofs.OneRun.{opening_fits}
use Rattle.bsv_flow.specs.Clocked.{IsWellClocked}
use Rattle.bsv_flow.specs.Compilings.{IsPlanned}
use Rattle.bsv_flow.specs.Schedulings.{subject}
use Rattle.bsv_top.specs.declared.status.Status.{Status}
use Rattle.bsv_top.specs.declared.status.Status.TheVariants as status
use Rattle.bsv_top.specs.Answers as a
use Rattle.bsv_top.specs.Answers.{Answer, HasAnswer, sim_words, trace_fault_line}
use Rattle.bsv_top.specs.LaidOut.{IsLaidOut}
use Rattle.bsv_top.specs.Outcomes.{OutputStarted, started}
use Rattle.bsv_run.specs.Reports.{report, state_after}
use Rattle.bsv_run.specs.Running.{IsStarted}
use Rattle.bsv_run.specs.Traces.{AreAsked, AreAskedToBad, lines_of}
use Rattle.bsv_top.specs.Traces.{IsClean, trace_limit}
use Rattle.bsv_run.proofs.Asked.{Verdict, asked_append, bad_append, total, verdict}
use Rattle.bsv_top.proofs.Grounds as grounds
use Rattle.bsv_run.proofs.Happening.{Goes, rows_fit, some_run}
use Rattle.bsv_run.proofs.Runs.{started_further, continues_append}

module _ (words : List (List ℕ)) (contents : List ℕ → List ℕ) (file top trace : List ℕ) (spelled : words ≡ sim_words file top trace)
    (tree : TreeData) (made : Schedule) (planned : IsPlanned file contents top tree made) (laid : IsLaidOut tree) where
  abbrev S : Scheme
  S = tree_scheme tree

  abbrev from : List Part
  from = opening S.kinds

  lawful : IsLawful S
  lawful = grounds.lawful_here tree made laid.design laid.alike planned.planned.scheduled

  scheduled : IsScheduleOf S made
  scheduled = grounds.scheduled_here tree made laid.design laid.alike planned.planned.scheduled

  well : IsWellClocked S made
  well = grounds.clocked_here tree made laid.design laid.alike planned.planned.scheduled

  all_fit : (start : ℕ) (lines : List (List ℕ)) (qs : List Asking) → AreAsked trace_limit S.elements start lines qs → AllFit S qs
  all_fit = grounds.all_fit tree made laid.design laid.alike planned.planned.scheduled trace_limit

  all_fit_to_bad : (start : ℕ) (lines : List (List ℕ)) (qs : List Asking) → AreAskedToBad trace_limit S.elements start lines qs → AllFit S qs
  all_fit_to_bad = grounds.all_fit_to_bad tree made laid.design laid.alike planned.planned.scheduled trace_limit

  -- from each state that fits the run goes on
  goes : (s : List Part) (qs : List Asking) → FitsKinds S.kinds s → AllFit S qs → Goes false S made s qs
  goes = some_run false S made lawful scheduled (grounds.few_here tree made laid.design laid.alike planned.planned.scheduled)

  -- ---- a run that goes on to the end of the trace

  pub record Ends (rows : List Row) : Type 0 where
    pub decided : Status
    pub more : List Row
    pub text : List ℕ
    pub answer : Answer words contents decided (report (subject tree) (rows ++ more)) text

  module _ (front rest : List (List ℕ)) (qs : List Asking) (rows : List Row) (lines : lines_of (contents trace) ≡ front ++ rest) (asked : AreAsked trace_limit S.elements 0 front qs)
      (runs : Runs false S made qs rows) where
    abbrev end : ℕ
    end = total front

    there : end ≡ 0 + total front
    there = omega arith

    behind : (rs : List Asking) → AllFit S rs → Goes false S made (state_after from rows) rs
    behind rs all = goes (state_after from rows) rs (rows_fit false S made lawful scheduled from qs rows (opening_fits S.kinds) (all_fit 0 front qs asked) runs) all

    whole : (rs : List Asking) (more : List Row) → Continues false S made (state_after from rows) rs more → Runs false S made (qs ++ rs) (rows ++ more)
    whole rs more h = continues_append false S made from qs rs rows more runs h

    ends_by : Verdict trace_limit S.elements (grounds.methods_here tree made laid.design laid.alike planned.planned.scheduled) end rest → Ends rows
    ends_by (Verdict.clean rs h) =
        let further = behind rs (all_fit end rest rs h) in
        record {
          decided = status.Done;
          more = further.rows;
          text = [];
          answer = a.Answer.done tree made (qs ++ rs) (rows ++ further.rows) spelled planned laid well
              (subst (λ (ls : List (List ℕ)). AreAsked trace_limit S.elements 0 ls (qs ++ rs)) (sym lines) (asked_append trace_limit S.elements 0 end front rest qs rs there asked h))
              (whole rs further.rows further.continues);
        }
    ends_by (Verdict.bad rs h) =
        let further = behind rs (all_fit_to_bad end rest rs h) in
        record {
          decided = status.TraceFault;
          more = further.rows;
          text = trace_fault_line (length (qs ++ rs) + 1);
          answer = a.Answer.trace_fault tree made (qs ++ rs) (rows ++ further.rows) spelled planned laid well
              (subst (λ (ls : List (List ℕ)). AreAskedToBad trace_limit S.elements 0 ls (qs ++ rs)) (sym lines) (bad_append trace_limit S.elements 0 end front rest qs rs there asked h))
              (whole rs further.rows further.continues);
        }

    pub ends : Ends rows
    ends = ends_by (verdict trace_limit S.elements (grounds.methods_here tree made laid.design laid.alike planned.planned.scheduled) end rest)

  -- what was put of its report
  pub started_output : (start w : Writing) → IsStarted trace_limit (subject tree) made start (contents trace) w → OutputStarted words contents start w
  started_output start w h =
      let all = ends h.front h.rest h.qs h.rows h.lines h.asked h.runs in
      started all.text all.answer (started_further (subject tree) h.rows all.more start w h.prefix)

  -- there is an answer
  pub some_answer : HasAnswer words contents
  some_answer =
      let all = ends [] (lines_of (contents trace)) [] [] refl tt tt in
      record { decided = all.decided; output = report (subject tree) all.more; text = all.text; answer = all.answer }

  -- a trace whose lines ask for requests has a report
  pub clean_answer : (qs : List Asking) → IsClean S.elements (contents trace) qs → (output : List ℕ) × Answer words contents status.Done output []
  clean_answer qs clean =
      let run = goes from qs (opening_fits S.kinds) (all_fit 0 (lines_of (contents trace)) qs clean) in
      (report (subject tree) run.rows, a.Answer.done tree made qs run.rows spelled planned laid well clean run.continues)
