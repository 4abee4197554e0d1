use Rattle.std.proofs.Common.{◌≡◌, length}
use Rattle.bsv_sim.specs.Stoppers.{noted}
use Rattle.bsv_sim.proofs.stoppers.note_all.Given as goal

abbrev pub invariant-loop-number : goal.invariant-loop-number
invariant-loop-number l = noted l.stoppers l.rest l.by ≡ noted l.initial.stoppers l.stopped l.by

abbrev pub decreases-loop-number : goal.decreases-loop-number
decreases-loop-number l = length l.rest
