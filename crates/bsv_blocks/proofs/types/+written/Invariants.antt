-- Within one depth each function calls those of a lower rank.
use Rattle.std.proofs.Common.{◌+◌, ◌*◌}
use Rattle.bsv_blocks.proofs.types.+written.Given as goal

abbrev pub decreases-written : goal.decreases-written
decreases-written l = 10 * l.depth + 0

abbrev pub decreases-argument : goal.decreases-argument
decreases-argument l = 10 * l.depth + 1

abbrev pub decreases-applied : goal.decreases-applied
decreases-applied l = 10 * l.depth + 2

abbrev pub decreases-outer : goal.decreases-outer
decreases-outer l = 10 * l.depth + 3
