use Rattle.std.proofs.Common.{length}
use Rattle.bsv_vcd.proofs.titles.last_name.Given as goal

abbrev pub decreases-loop-byte : goal.decreases-loop-byte
decreases-loop-byte l = length l.rest
