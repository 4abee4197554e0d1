-- What is answered to a suite is one answer.
use Rattle.std.proofs.Common.{◌≡◌, ◌∙◌, inl, inr, ℕ, ◌+◌, ◌<◌, false, List, [], ◌∷◌, length, refl, sym, ap, ap₂, subst, arith}
use Rattle.bsv_design.specs.declared.schedule.Schedule.{Schedule}
use Rattle.bsv_design.specs.scheme.Schemes.{Asking}
use Rattle.bsv_tree.specs.meaning.Schemes.{tree_scheme}
use Rattle.bsv_tree.specs.tree.Trees.{TreeData}
use Rattle.bsv_trace.specs.Lines.{AreMethods}
use Rattle.bsv_clock.specs.Runs.{Row, Runs}
use Rattle.bsv_flow.specs.Compilings.{IsPlanned}
use Rattle.bsv_flow.specs.Schedulings.{subject}
use Rattle.bsv_run.specs.Traces.{lines_of}
use Rattle.bsv_run.proofs.Asked as asked
use Rattle.bsv_suite.specs.Lists.{HasBadLineAt, NamesTraces}
use Rattle.bsv_suite.specs.Sections.{IsReported, section_limit}
use Rattle.bsv_suite.specs.Suites.{AreTold, bad_traces, suite_text}
use Rattle.bsv_suite.specs.Texts.{Told}
use Rattle.bsv_suite.proofs.Naming as naming
use Rattle.bsv_top.specs.declared.status.Status.{Status}
use Rattle.bsv_top.specs.Answers as a
use Rattle.bsv_top.specs.Answers.{SuiteAnswer, bad_traces_line, list_fault_line}
use Rattle.bsv_top.specs.LaidOut.{IsLaidOut}
use Rattle.bsv_top.proofs.Grounds as grounds
use Rattle.bsv_top.proofs.SameReports.{runs_same}

told_is : (t u : Told) → t.name ≡ u.name → t.text ≡ u.text → t.bad ≡ u.bad → t ≡ u
told_is t u name text bad = λ i. record { name = name i; text = text i; bad = bad i }

pub record SameSuite (s s' : Status) (output more text said : List ℕ) : Type 0 where
  pub status_is : s ≡ s'
  pub output_is : output ≡ more
  pub text_is : text ≡ said

module _ (file top : List ℕ) (contents : List ℕ → List ℕ) (tree : TreeData) (made : Schedule) (planned : IsPlanned file contents top tree made) (laid : IsLaidOut tree) where
  methods : AreMethods (tree_scheme tree).elements
  methods = grounds.methods_here tree made laid.design laid.alike planned.planned.scheduled

  runs_for : (qs rs : List Asking) (others : List Row) → rs ≡ qs → Runs false (tree_scheme tree) made rs others → Runs false (tree_scheme tree) made qs others
  runs_for qs rs others same runs = subst (λ (xs : List Asking). Runs false (tree_scheme tree) made xs others) same runs

  -- a trace has one report
  reported_once : (trace text more : List ℕ) (bad worse : ℕ) → IsReported (subject tree) made trace text bad → IsReported (subject tree) made trace more worse → (text ≡ more) × (bad ≡ worse)
  reported_once trace text more bad worse (inl h) (inl k) =
      let same = asked.asked_once section_limit (tree_scheme tree).elements methods 0 (lines_of trace) k.qs h.qs k.clean h.clean in
      let fit = grounds.all_fit tree made laid.design laid.alike planned.planned.scheduled section_limit 0 (lines_of trace) h.qs h.clean in (
        h.text_is ∙ runs_same file top contents tree made planned laid h.qs h.rows k.rows fit h.runs (runs_for h.qs k.qs k.rows same k.runs) ∙ sym k.text_is,
        h.bad_is ∙ sym k.bad_is,
      )
  reported_once trace text more bad worse (inl h) (inr k) = absurd (asked.not_both section_limit (tree_scheme tree).elements 0 (lines_of trace) h.qs k.qs h.clean k.line)
  reported_once trace text more bad worse (inr h) (inl k) = absurd (asked.not_both section_limit (tree_scheme tree).elements 0 (lines_of trace) k.qs h.qs k.clean h.line)
  reported_once trace text more bad worse (inr h) (inr k) =
      let same = asked.bad_once section_limit (tree_scheme tree).elements methods 0 (lines_of trace) k.qs h.qs k.line h.line in
      let fit = grounds.all_fit_to_bad tree made laid.design laid.alike planned.planned.scheduled section_limit 0 (lines_of trace) h.qs h.line in (
        h.text_is ∙ runs_same file top contents tree made planned laid h.qs h.rows k.rows fit h.runs (runs_for h.qs k.qs k.rows same k.runs) ∙ sym k.text_is,
        h.bad_is ∙ ap (λ (xs : List Asking). length xs + 1) (sym same) ∙ sym k.bad_is,
      )

  told_once : (names : List (List ℕ)) (ts us : List Told) → AreTold (subject tree) made contents names ts → AreTold (subject tree) made contents names us → ts ≡ us
  told_once [] [] [] h k = refl
  told_once [] [] (u ∷ us) h k = absurd k
  told_once [] (t ∷ ts) us h k = absurd h
  told_once (name ∷ names) [] us h k = absurd h
  told_once (name ∷ names) (t ∷ ts) [] h k = absurd k
  told_once (name ∷ names) (t ∷ ts) (u ∷ us) h k =
      let one = reported_once (contents name) t.text u.text t.bad u.bad h.1 k.1 in
      ap₂ (λ (x : Told) (xs : List Told). x ∷ xs) (told_is t u (h.0 ∙ sym k.0) one.0 one.1) (told_once names ts us h.2 k.2)

  module _ (list : List ℕ) where
    -- what a list without a bad line tells
    tolds_once : (names others : List (List ℕ)) (ts us : List Told) → NamesTraces list names → NamesTraces list others → AreTold (subject tree) made contents names ts
        → AreTold (subject tree) made contents others us → ts ≡ us
    tolds_once names others ts us h k told said =
        told_once names ts us told
        (subst (λ (ns : List (List ℕ)). AreTold (subject tree) made contents ns us) (naming.named_once 0 (lines_of list) others names k h) said)

    apart : {A : Type 0} (number : ℕ) (names : List (List ℕ)) → HasBadLineAt list number → NamesTraces list names → A
    apart number names bad clean = absurd (naming.not_both 0 (lines_of list) names bad.names clean bad.bad)

    some_or_none : {A : Type 0} (ts us : List Told) → ts ≡ us → bad_traces ts ≡ 0 → 0 < bad_traces us → A
    some_or_none ts us same none some = absurd (omega (arith, none, some, ap bad_traces same))

    pub suite_once : (s s' : Status) (output more text said : List ℕ) → SuiteAnswer (subject tree) made contents list s output text → SuiteAnswer (subject tree) made contents list s' more said
        → SameSuite s s' output more text said
    suite_once s s' output more text said (a.SuiteAnswer.bad_list number bad) (a.SuiteAnswer.bad_list other worse) =
        let names = naming.bad_once 0 (lines_of list) bad.names worse.names bad.bad worse.bad in
        let same : number ≡ other = bad.number_is ∙ ap (λ (ns : List (List ℕ)). length ns + 1) names ∙ sym worse.number_is in
        record { status_is = refl; output_is = refl; text_is = ap list_fault_line same }
    suite_once s s' output more text said (a.SuiteAnswer.bad_list number bad) (a.SuiteAnswer.done names ts h told none) = apart number names bad h
    suite_once s s' output more text said (a.SuiteAnswer.bad_list number bad) (a.SuiteAnswer.trace_fault names ts h told some) = apart number names bad h
    suite_once s s' output more text said (a.SuiteAnswer.done names ts h told none) (a.SuiteAnswer.bad_list number bad) = apart number names bad h
    suite_once s s' output more text said (a.SuiteAnswer.done names ts h told none) (a.SuiteAnswer.done others us k too also) =
        record { status_is = refl; output_is = ap suite_text (tolds_once names others ts us h k told too); text_is = refl }
    suite_once s s' output more text said (a.SuiteAnswer.done names ts h told none) (a.SuiteAnswer.trace_fault others us k too some) =
        some_or_none ts us (tolds_once names others ts us h k told too) none some
    suite_once s s' output more text said (a.SuiteAnswer.trace_fault names ts h told some) (a.SuiteAnswer.bad_list number bad) = apart number names bad h
    suite_once s s' output more text said (a.SuiteAnswer.trace_fault names ts h told some) (a.SuiteAnswer.done others us k too none) =
        some_or_none us ts (tolds_once others names us ts k h too told) none some
    suite_once s s' output more text said (a.SuiteAnswer.trace_fault names ts h told some) (a.SuiteAnswer.trace_fault others us k too also) =
        let same = tolds_once names others ts us h k told too in
        record { status_is = refl; output_is = ap suite_text same; text_is = ap (λ (xs : List Told). bad_traces_line (bad_traces xs)) same }
