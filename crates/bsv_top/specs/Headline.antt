-- The headline: one run of an accepted design over a trace, which `sim` prints and which each module that `verilog` writes
-- shows (Hoe and Arvind 2004; IEEE 1364-2005, continuous and nonblocking assignment).
use Rattle.std.specs.Prelude.{ℕ, false, List, []}
use Rattle.bsv_design.specs.declared.schedule.Schedule.{Schedule}
use Rattle.bsv_design.specs.scheme.Schemes.{Scheme, Asking}
use Rattle.bsv_design.specs.scheme.States.{opening}
use Rattle.bsv_tree.specs.meaning.Schemes.{tree_scheme}
use Rattle.bsv_tree.specs.tree.Trees.{TreeData}
use Rattle.bsv_clock.specs.Runs.{AllFit, Row, Runs, TellRunsAlike}
use Rattle.bsv_vtext.specs.Signals.{VModuleData}
use Rattle.bsv_vgen.specs.Runs.{HasModuleRun, ModuleRow, ModuleRuns, TellsFrom}
use Rattle.bsv_flow.specs.Clocked.{IsWellClocked}
use Rattle.bsv_flow.specs.Schedulings.{IsVerilogOf, subject}
use Rattle.bsv_top.specs.declared.status.Status.TheVariants as status
use Rattle.bsv_top.specs.Answers.{Answer, sim_words}
use Rattle.bsv_run.specs.Reports.{report}
use Rattle.bsv_top.specs.Traces.{IsClean}

-- A module shows a run, its inputs driven by the requests: it has clocks with these inputs, and whatever words solve its
-- assignments in them, clock by clock they tell what happens, and its registers show the state after it
pub record ShowsRun (S : Scheme) (v : VModuleData) (qs : List Asking) (rows : List Row) : Type 0 where
  pub some : ∥ HasModuleRun S v qs ∥₁
  pub told : (tolds : List ModuleRow) → ModuleRuns S v qs tolds → TellsFrom false S v (opening S.kinds) qs rows tolds

-- a trace whose lines ask for these requests, in `sim` and in `verilog`
pub record IsRunOver (contents : List ℕ → List ℕ) (file top trace : List ℕ) (tree : TreeData) (made : Schedule) (qs : List Asking) : Type 0 where
  -- what the lines ask for fits
  pub fit : AllFit (tree_scheme tree) qs
  -- there is a run of the source over it, and each other one tells the same
  pub rows : List Row
  pub runs : Runs false (tree_scheme tree) made qs rows
  pub one : (others : List Row) → Runs false (tree_scheme tree) made qs others → TellRunsAlike rows others
  -- its report is the answer to `sim`
  pub printed : Answer (sim_words file top trace) contents status.Done (report (subject tree) rows) []
  -- and each module whose text is an answer to `verilog` shows it
  pub shown : (v : VModuleData) → IsVerilogOf tree made v → ShowsRun (tree_scheme tree) v qs rows

-- an accepted design: every attribute is obeyed, each state that fits has one clock, and each trace without a bad line is run
pub record Headline (contents : List ℕ → List ℕ) (file top : List ℕ) (tree : TreeData) (made : Schedule) : Type 0 where
  pub clocked : IsWellClocked (tree_scheme tree) made
  pub traces : (trace : List ℕ) (qs : List Asking) → IsClean (tree_scheme tree).elements (contents trace) qs
      → IsRunOver contents file top trace tree made qs
