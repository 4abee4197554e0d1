use Rattle.std.proofs.Common.{◌≡◌, length}
use Rattle.bsv_engine.specs.Runs.{Stand}
use Rattle.bsv_engine.proofs.step.taken.Given as goal

-- the steps stand for the nodes so far
abbrev pub invariant-loop-place : goal.invariant-loop-place
invariant-loop-place g l = record {
  stand : Stand g.S.Step.right g.S.Step.stands_for l.before l.own l.nodes l.steps;
  count : length l.steps ≡ l.place;
}
