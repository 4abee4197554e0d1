use Rattle.std.proofs.Common.{◌≡◌, ◌++◌, map, take, drop}
use Rattle.bsv_engine.specs.Runs.{lower}
use Rattle.bsv_engine.proofs.step.load.Given as goal

-- the words of the places so far stand in front
abbrev pub invariant-loop-next : goal.invariant-loop-next
invariant-loop-next l = l.rest ≡ map (lower l.words) (take l.next l.places) ++ drop l.next l.fn.rest
