use Rattle.std.proofs.Common.{◌≡◌, ◌++◌, map, take, drop}
use Rattle.bsv_engine.proofs.step.run.Given as goal

-- the words of the steps so far stand in front
abbrev pub invariant-loop-place : goal.invariant-loop-place
invariant-loop-place g l = l.rest ≡ map (g.S.Step.number l.seen) (take l.place l.steps) ++ drop l.place l.fn.rest
