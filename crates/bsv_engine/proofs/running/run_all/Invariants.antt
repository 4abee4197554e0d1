use Rattle.std.proofs.Common.{drop, length, ◌≤◌}
use Rattle.bsv_engine.specs.Running.{HasRoom, Keeps}
use Rattle.bsv_engine.specs.Runs.{AllStand, AllWithin}
use Rattle.bsv_engine.proofs.running.run_all.Given as goal

-- the runs that are left stand for the nodes from the place on, and the words before it are kept, where all runs stand
abbrev pub invariant-loop-run : goal.invariant-loop-run
invariant-loop-run l = record {
  within : AllWithin (length l.given.nodes.now) l.place (drop l.run-index l.runs);
  place : l.place ≤ length l.given.nodes.now;
  room : HasRoom l.given l.narrow l.wide;
  stand : AllStand l.given.widths.now l.given.nodes.now 0 (length l.given.nodes.now) l.runs
      → AllStand l.given.widths.now l.given.nodes.now l.place (length l.given.nodes.now) (drop l.run-index l.runs);
  keeps : AllStand l.given.widths.now l.given.nodes.now 0 (length l.given.nodes.now) l.runs
      → Keeps l.given 0 l.place l.fn.narrow l.fn.wide l.narrow l.wide;
}
