use Rattle.std.proofs.Common.{◌≡◌, length}
use Rattle.bsv_net.specs.Nets.{nexts_fit}
use Rattle.bsv_net.proofs.checks.nexts_fit.Given as goal

abbrev pub decreases-loop-next : goal.decreases-loop-next
decreases-loop-next l = length l.rest

abbrev pub invariant-loop-next : goal.invariant-loop-next
invariant-loop-next l = nexts_fit l.widths l.rest l.left ≡ nexts_fit l.widths l.nexts l.registers
