use Rattle.std.proofs.Common.{length, ◌-◌, ◌≤◌}
use Rattle.bsv_engine.specs.Runs.{AllStand}
use Rattle.bsv_engine.proofs.making.make_runs.Given as goal

-- the runs stand for the nodes so far
abbrev pub invariant-loop-place : goal.invariant-loop-place
invariant-loop-place l = record {
  stand : AllStand l.widths l.nodes 0 l.place l.runs;
  place : l.place ≤ length l.nodes;
}

abbrev pub decreases-loop-place : goal.decreases-loop-place
decreases-loop-place l = length l.nodes - l.place
