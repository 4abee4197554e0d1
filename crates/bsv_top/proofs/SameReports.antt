-- Runs of one tree over the same requests have one report.
use Rattle.std.proofs.Common.{◌≡◌, ◌∙◌, ℕ, ◌+◌, false, List, [], ◌∷◌, ◌++◌, refl, ap, ap₂}
use Rattle.std.specs.Prelude.{codes}
use Rattle.std.specs.List.{flat_map}
use Rattle.bsv_bits.specs.Words.{Bits}
use Rattle.bsv_prim.specs.declared.part.Part.{Part}
use Rattle.bsv_design.specs.declared.fired.Fired.{Fired}
use Rattle.bsv_design.specs.declared.schedule.Schedule.{Schedule}
use Rattle.bsv_design.specs.scheme.Schemes.{Asking}
use Rattle.bsv_design.specs.scheme.States.{opening}
use Rattle.bsv_tree.specs.meaning.Schemes.{tree_scheme}
use Rattle.bsv_tree.specs.tree.Trees.{TreeData}
use Rattle.bsv_trace.specs.Texts.{blocked_line, clock_text, event_lines, list_line, number_line, opening_text, result_line, state_lines, stopped_line}
use Rattle.bsv_clock.specs.Events.{TellAlike}
use Rattle.bsv_clock.specs.Runs.{AllFit, Row, Runs, TellRunsAlike}
use Rattle.bsv_clock.specs.Subjects.{Subject, element_name}
use Rattle.bsv_clock.proofs.Clocks.{clock_fed}
use Rattle.bsv_clock.proofs.OneRun.{same_runs}
use Rattle.bsv_clock.proofs.Steadily.{steady_scheme}
use Rattle.bsv_flow.specs.Compilings.{IsPlanned}
use Rattle.bsv_flow.specs.Schedulings.{subject}
use Rattle.bsv_run.specs.Reports.{clocks_text, report}
use Rattle.bsv_top.specs.LaidOut.{IsLaidOut}
use Rattle.bsv_top.proofs.Grounds as grounds

-- ---- reports of runs that tell the same

-- the lines of what happened, by the lists of it
abbrev lines_by : (ℕ → List ℕ) → List ℕ → List (ℕ × ℕ) → List ℕ → List (ℕ × Bits) → List ℕ
lines_by named list stopped blocked results =
    list_line (codes "fired") named list ++ flat_map (stopped_line named) stopped ++ flat_map (blocked_line named) blocked ++ flat_map (result_line named) results

fired_same : (named : ℕ → List ℕ) (f e : Fired) → TellAlike f e → event_lines named f ≡ event_lines named e
unfolding event_lines
fired_same named f e h =
    ap (λ (xs : List ℕ). lines_by named xs f.stopped.items f.blocked.items f.results.items) h.list
    ∙ ap (λ (xs : List (ℕ × ℕ)). lines_by named e.list.items xs f.blocked.items f.results.items) h.stopped
    ∙ ap (λ (xs : List ℕ). lines_by named e.list.items e.stopped.items xs f.results.items) h.blocked
    ∙ ap (λ (xs : List (ℕ × Bits)). lines_by named e.list.items e.stopped.items e.blocked.items xs) h.results

clock_same : (s : Subject) (number : ℕ) (row other : Row) → TellAlike row.fired other.fired → row.after ≡ other.after
    → clock_text (element_name s.scheme) number row.fired s.parts row.after ≡ clock_text (element_name s.scheme) number other.fired s.parts other.after
unfolding clock_text
clock_same s number row other told after =
    ap₂ (λ (events : List ℕ) (parts : List Part). number_line number ++ events ++ state_lines s.parts parts) (fired_same (element_name s.scheme) row.fired other.fired told) after

rows_same : (s : Subject) (number : ℕ) (rows others : List Row) → TellRunsAlike rows others → clocks_text s number rows ≡ clocks_text s number others
rows_same s number [] [] h = refl
rows_same s number [] (other ∷ others) h = absurd h
rows_same s number (row ∷ rows) [] h = absurd h
rows_same s number (row ∷ rows) (other ∷ others) h =
    ap₂ (λ (x y : List ℕ). x ++ y) (clock_same s number row other h.0 h.1) (rows_same s (number + 1) rows others h.2)

pub report_same : (s : Subject) (rows others : List Row) → TellRunsAlike rows others → report s rows ≡ report s others
unfolding report
report_same s rows others h = ap (λ (t : List ℕ). opening_text s.parts (opening s.scheme.kinds) ++ t) (rows_same s 1 rows others h)

-- ---- two runs of one tree

module _ (file top : List ℕ) (contents : List ℕ → List ℕ) (tree : TreeData) (made : Schedule) (planned : IsPlanned file contents top tree made) (laid : IsLaidOut tree) where
  pub runs_same : (qs : List Asking) (rows others : List Row) → AllFit (tree_scheme tree) qs → Runs false (tree_scheme tree) made qs rows → Runs false (tree_scheme tree) made qs others
      → report (subject tree) rows ≡ report (subject tree) others
  runs_same qs rows others all one two =
      let lawful = grounds.lawful_here tree made laid.design laid.alike planned.planned.scheduled in
      let scheduled = grounds.scheduled_here tree made laid.design laid.alike planned.planned.scheduled in
      report_same (subject tree) rows others
      (same_runs false (tree_scheme tree) made (steady_scheme false (tree_scheme tree) lawful) lawful scheduled
      (λ q s together. clock_fed false (tree_scheme tree) made q s together (steady_scheme false (tree_scheme tree) lawful)) qs rows others all one two)
