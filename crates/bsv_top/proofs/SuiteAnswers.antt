-- What a suite answers.
use Rattle.std.proofs.Common.{◌≡◌, inl, inr, ℕ, ◌+◌, ◌<◌, false, List, [], ◌∷◌, ◌++◌, length, refl, sym, subst, arith}
use Rattle.std.proofs.lemmas.Bool.{cases_lt}
use Rattle.bsv_design.specs.declared.schedule.Schedule.{Schedule}
use Rattle.bsv_design.specs.scheme.Schemes.{Scheme, Asking}
use Rattle.bsv_design.specs.scheme.States.{opening}
use Rattle.bsv_tree.specs.meaning.Schemes.{tree_scheme}
use Rattle.bsv_tree.specs.tree.Trees.{TreeData}
use Rattle.bsv_io.specs.Writing.{Writing, AppendsPrefix}
use Rattle.bsv_io.proofs.Appended.{AppendsPrefix-more}
use Rattle.bsv_trace.specs.Lines.{AreMethods}
use Rattle.bsv_clock.specs.Grounds.{IsLawful, IsScheduleOf}
use Rattle.bsv_clock.specs.Runs.{AllFit}
use Rattle.bsv_clock.proofs.OneRun.{opening_fits}
use Rattle.bsv_flow.specs.Clocked.{IsWellClocked}
use Rattle.bsv_flow.specs.Compilings.{IsPlanned}
use Rattle.bsv_flow.specs.Schedulings.{subject}
use Rattle.bsv_run.specs.Reports.{report}
use Rattle.bsv_run.specs.Traces.{lines_of}
use Rattle.bsv_run.proofs.Asked as asked
use Rattle.bsv_run.proofs.Happening.{Goes, some_run}
use Rattle.bsv_suite.specs.Lists.{NamesTraces}
use Rattle.bsv_suite.specs.Sections.{IsReported, section_limit}
use Rattle.bsv_suite.specs.Suites.{AreTold, IsSuiteStarted, bad_traces, suite_text}
use Rattle.bsv_suite.specs.Texts.{Told}
use Rattle.bsv_suite.proofs.Naming as naming
use Rattle.bsv_suite.proofs.Suited.{text_append, told_append}
use Rattle.bsv_top.specs.declared.status.Status.{Status}
use Rattle.bsv_top.specs.declared.status.Status.TheVariants as status
use Rattle.bsv_top.specs.Answers as a
use Rattle.bsv_top.specs.Answers.{Answer, HasAnswer, bad_traces_line, list_fault_line, suite_words}
use Rattle.bsv_top.specs.LaidOut.{IsLaidOut}
use Rattle.bsv_top.specs.Outcomes.{OutputStarted, started}
use Rattle.bsv_top.proofs.Grounds as grounds

module _ (words : List (List ℕ)) (contents : List ℕ → List ℕ) (file top list : List ℕ) (spelled : words ≡ suite_words file top list)
    (tree : TreeData) (made : Schedule) (planned : IsPlanned file contents top tree made) (laid : IsLaidOut tree) where
  abbrev S : Scheme
  S = tree_scheme tree

  lawful : IsLawful S
  lawful = grounds.lawful_here tree made laid.design laid.alike planned.planned.scheduled

  scheduled : IsScheduleOf S made
  scheduled = grounds.scheduled_here tree made laid.design laid.alike planned.planned.scheduled

  well : IsWellClocked S made
  well = grounds.clocked_here tree made laid.design laid.alike planned.planned.scheduled

  methods : AreMethods S.elements
  methods = grounds.methods_here tree made laid.design laid.alike planned.planned.scheduled

  -- from the opening state there is a run
  goes : (qs : List Asking) → AllFit S qs → Goes false S made (opening S.kinds) qs
  goes qs all = some_run false S made lawful scheduled (grounds.few_here tree made laid.design laid.alike planned.planned.scheduled) (opening S.kinds) qs (opening_fits S.kinds) all

  -- each trace has a report
  pub record Reports (trace : List ℕ) : Type 0 where
    pub text : List ℕ
    pub bad : ℕ
    pub reported : IsReported (subject tree) made trace text bad

  reports_by : (trace : List ℕ) → asked.Verdict section_limit S.elements methods 0 (lines_of trace) → Reports trace
  reports_by trace (asked.Verdict.clean qs h) =
      let run = goes qs (grounds.all_fit tree made laid.design laid.alike planned.planned.scheduled section_limit 0 (lines_of trace) qs h) in
      record { text = report (subject tree) run.rows; bad = 0; reported = inl (record { qs = qs; rows = run.rows; clean = h; runs = run.continues; text_is = refl; bad_is = refl }) }
  reports_by trace (asked.Verdict.bad qs h) =
      let run = goes qs (grounds.all_fit_to_bad tree made laid.design laid.alike planned.planned.scheduled section_limit 0 (lines_of trace) qs h) in
      record { text = report (subject tree) run.rows; bad = length qs + 1; reported = inr (record { qs = qs; rows = run.rows; line = h; runs = run.continues; text_is = refl; bad_is = refl }) }

  reports : (trace : List ℕ) → Reports trace
  reports trace = reports_by trace (asked.verdict section_limit S.elements methods 0 (lines_of trace))

  tolds_of : List (List ℕ) → List Told
  tolds_of [] = []
  tolds_of (name ∷ names) = record { name = name; text = (reports (contents name)).text; bad = (reports (contents name)).bad } ∷ tolds_of names

  all_told : (names : List (List ℕ)) → AreTold (subject tree) made contents names (tolds_of names)
  unfolding tolds_of
  all_told [] = tt
  all_told (name ∷ names) = (refl, (reports (contents name)).reported, all_told names)

  -- ---- answers

  pub record Ends (tolds : List Told) : Type 0 where
    pub decided : Status
    pub text : List ℕ
    pub answer : Answer words contents decided (suite_text tolds) text

  pub told_answer : (names : List (List ℕ)) (tolds : List Told) → NamesTraces (contents list) names → AreTold (subject tree) made contents names tolds → bad_traces tolds ≡ 0
      → Answer words contents status.Done (suite_text tolds) []
  told_answer names tolds named told none = a.Answer.suite tree made spelled planned laid well (a.SuiteAnswer.done names tolds named told none)

  pub bad_answer : (names : List (List ℕ)) (tolds : List Told) → NamesTraces (contents list) names → AreTold (subject tree) made contents names tolds → 0 < bad_traces tolds
      → Answer words contents status.TraceFault (suite_text tolds) (bad_traces_line (bad_traces tolds))
  bad_answer names tolds named told some = a.Answer.suite tree made spelled planned laid well (a.SuiteAnswer.trace_fault names tolds named told some)

  ends : (names : List (List ℕ)) (tolds : List Told) → NamesTraces (contents list) names → AreTold (subject tree) made contents names tolds → Ends tolds
  ends names tolds named told =
      elim (cases_lt 0 (bad_traces tolds)) [
        | inl some ↦ record { decided = status.TraceFault; text = bad_traces_line (bad_traces tolds); answer = bad_answer names tolds named told some }
        | inr none ↦ record { decided = status.Done; text = []; answer = told_answer names tolds named told (omega (arith, none)) }
      ]

  answer_by : naming.Verdict 0 (lines_of (contents list)) → HasAnswer words contents
  answer_by (naming.Verdict.clean names named) =
      let all = ends names (tolds_of names) named (all_told names) in
      record { decided = all.decided; output = suite_text (tolds_of names); text = all.text; answer = all.answer }
  answer_by (naming.Verdict.bad names bad) =
      record {
        decided = status.TraceFault;
        output = [];
        text = list_fault_line (length names + 1);
        answer = a.Answer.suite tree made spelled planned laid well (a.SuiteAnswer.bad_list (length names + 1) (record { names = names; bad = bad; number_is = refl }));
      }

  -- there is an answer
  pub suite_answer : HasAnswer words contents
  suite_answer = answer_by (naming.verdict 0 (lines_of (contents list)))

  -- what was put of what is told
  pub suite_started : (names : List (List ℕ)) (start w : Writing) → NamesTraces (contents list) names → IsSuiteStarted (subject tree) made contents names start w → OutputStarted words contents start w
  suite_started names start w named h =
      let more = tolds_of h.rest in
      let told = subst (λ (ns : List (List ℕ)). AreTold (subject tree) made contents ns (h.tolds ++ more)) (sym h.names_are)
      (told_append (subject tree) made contents h.front h.rest h.tolds more h.told (all_told h.rest)) in
      let all = ends names (h.tolds ++ more) named told in
      started all.text all.answer
      (subst (λ (t : List ℕ). AppendsPrefix t start w) (sym (text_append h.tolds more)) (AppendsPrefix-more (suite_text h.tolds) (suite_text more) start w h.prefix))
