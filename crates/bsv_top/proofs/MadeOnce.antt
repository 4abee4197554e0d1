-- Two answers of one made design are one.
use Rattle.std.proofs.Common.{◌≡◌, ◌∙◌, ℕ, ◌+◌, false, List, [], ◌∷◌, length, codes, refl, sym, ap, ap₂, subst}
use Rattle.bsv_prim.specs.declared.part.Part.{Part}
use Rattle.bsv_design.specs.declared.schedule.Schedule.{Schedule}
use Rattle.bsv_design.specs.scheme.States.{opening}
use Rattle.bsv_tree.specs.meaning.Schemes.{tree_scheme}
use Rattle.bsv_tree.specs.tree.Trees.{TreeData}
use Rattle.bsv_clock.specs.Runs.{Row, Runs, TellRunsAlike}
use Rattle.bsv_clock.proofs.Clocks.{clock_fed}
use Rattle.bsv_clock.proofs.OneRun.{same_runs}
use Rattle.bsv_clock.proofs.Steadily.{steady_scheme}
use Rattle.bsv_clock.specs.Subjects.{Subject}
use Rattle.bsv_flow.specs.Compilings.{IsPlanned}
use Rattle.bsv_flow.specs.Schedulings.{subject}
use Rattle.bsv_flow.proofs.Planned.{one_tree_planned, one_made_planned}
use Rattle.bsv_flow.proofs.Trees as trees
use Rattle.bsv_top.specs.declared.status.Status.{Status}
use Rattle.bsv_top.specs.Answers as a
use Rattle.bsv_top.specs.Answers.{MadeAnswer}
use Rattle.bsv_top.specs.LaidOut.{IsLaidOut}
use Rattle.bsv_top.specs.Made.{fired_count, held_at, made_contents, made_file, made_top, nothing_for, summary, summary_of}
use Rattle.bsv_top.specs.OneAnswer.{IsSameText}
use Rattle.bsv_run.specs.Reports.{state_after}
use Rattle.bsv_top.proofs.Decides.{not_refused, not_other}
use Rattle.bsv_top.proofs.Grounds as grounds
use Rattle.bsv_top.proofs.MadeRun.{nothing_fits}

-- ---- summaries of runs that tell the same

count_same : (rows others : List Row) → TellRunsAlike rows others → fired_count rows ≡ fired_count others
count_same [] [] h = refl
count_same [] (other ∷ others) h = absurd h
count_same (row ∷ rows) [] h = absurd h
count_same (row ∷ rows) (other ∷ others) h = ap₂ (λ (m n : ℕ). m + n) (ap (λ (xs : List ℕ). length xs) h.0.list) (count_same rows others h.2)

state_same : (s t : List Part) (rows others : List Row) → s ≡ t → TellRunsAlike rows others → state_after s rows ≡ state_after t others
state_same s t [] [] e h = e
state_same s t [] (other ∷ others) e h = absurd h
state_same s t (row ∷ rows) [] e h = absurd h
state_same s t (row ∷ rows) (other ∷ others) e h = state_same row.after other.after rows others h.1 h.2

summary_same : (n : ℕ) (s : Subject) (rows others : List Row) → TellRunsAlike rows others → summary n s rows ≡ summary n s others
summary_same n s rows others h =
    ap (λ (count : ℕ). summary_of n (length s.scheme.elements) (length s.scheme.kinds) count (held_at (codes "s") s.parts (state_after (opening s.scheme.kinds) rows))) (count_same rows others h)
    ∙ ap (λ (parts : List Part). summary_of n (length s.scheme.elements) (length s.scheme.kinds) (fired_count others) (held_at (codes "s") s.parts parts))
    (state_same (opening s.scheme.kinds) (opening s.scheme.kinds) rows others refl h)

-- ---- two answers

pub record SameMade (s s' : Status) (output more text said : List ℕ) : Type 0 where
  pub status_is : s ≡ s'
  pub output_is : output ≡ more
  pub text_is : IsSameText text said

module _ (n : ℕ) where
  abbrev Accepted : TreeData → Schedule → Type 0
  Accepted tree made = IsPlanned made_file (made_contents n) made_top tree made

  abbrev RunsMade : TreeData → Schedule → List Row → Type 0
  RunsMade tree made rows = Runs false (tree_scheme tree) made (nothing_for 100 (tree_scheme tree)) rows

  runs_same : (tree : TreeData) (made : Schedule) → Accepted tree made → IsLaidOut tree → (rows others : List Row) → RunsMade tree made rows → RunsMade tree made others
      → summary n (subject tree) rows ≡ summary n (subject tree) others
  runs_same tree made planned laid rows others one two =
      let lawful = grounds.lawful_here tree made laid.design laid.alike planned.planned.scheduled in
      let scheduled = grounds.scheduled_here tree made laid.design laid.alike planned.planned.scheduled in
      let steady = steady_scheme false (tree_scheme tree) lawful in
      summary_same n (subject tree) rows others
      (same_runs false (tree_scheme tree) made steady lawful scheduled (λ q s together. clock_fed false (tree_scheme tree) made q s together steady)
      (nothing_for 100 (tree_scheme tree)) rows others (nothing_fits tree made n planned laid 100) one two)

  pub made_once : (s s' : Status) (output more text said : List ℕ) → MadeAnswer n s output text → MadeAnswer n s' more said → SameMade s s' output more text said
  made_once s s' output more text said (a.MadeAnswer.refused r h) (a.MadeAnswer.refused e g) =
      record { status_is = refl; output_is = refl; text_is = IsSameText.refused (trees.of_building made_file (made_contents n) made_top r e h g) }
  made_once s s' output more text said (a.MadeAnswer.refused r h) (a.MadeAnswer.no_program l built none) = absurd (trees.apart made_file (made_contents n) made_top l r built h)
  made_once s s' output more text said (a.MadeAnswer.refused r h) (a.MadeAnswer.done tree made rows p laid runs) = absurd (not_refused made_file made_top (made_contents n) r h tree made p)
  made_once s s' output more text said (a.MadeAnswer.no_program l built none) (a.MadeAnswer.refused r h) = absurd (trees.apart made_file (made_contents n) made_top l r built h)
  made_once s s' output more text said (a.MadeAnswer.no_program l built none) (a.MadeAnswer.no_program k also other) = record { status_is = refl; output_is = refl; text_is = IsSameText.equal }
  made_once s s' output more text said (a.MadeAnswer.no_program l built none) (a.MadeAnswer.done tree made rows p laid runs) =
      absurd (not_other made_file made_top (made_contents n) l built none tree made p)
  made_once s s' output more text said (a.MadeAnswer.done tree made rows p laid runs) (a.MadeAnswer.refused r h) = absurd (not_refused made_file made_top (made_contents n) r h tree made p)
  made_once s s' output more text said (a.MadeAnswer.done tree made rows p laid runs) (a.MadeAnswer.no_program l built none) =
      absurd (not_other made_file made_top (made_contents n) l built none tree made p)
  made_once s s' output more text said (a.MadeAnswer.done tree made rows p laid runs) (a.MadeAnswer.done u other others q again run) =
      let tree_is = one_tree_planned made_file (made_contents n) made_top u tree other made q p in
      let made_is = one_made_planned made_file (made_contents n) made_top u tree other made q p in
      let here = subst (λ (m : Schedule). RunsMade tree m others) made_is (subst (λ (t : TreeData). RunsMade t other others) tree_is run) in
      record {
        status_is = refl;
        output_is = runs_same tree made p laid rows others runs here ∙ ap (λ (t : TreeData). summary n (subject t) others) (sym tree_is);
        text_is = IsSameText.equal;
      }
