use Rattle.std.proofs.Common.{length}
use Rattle.bsv_lockstep.proofs.agreeing.has_repeat.Given as goal

abbrev pub decreases-loop-node : goal.decreases-loop-node
decreases-loop-node l = length l.rest
