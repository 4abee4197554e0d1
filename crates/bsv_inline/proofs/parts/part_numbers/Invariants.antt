use Rattle.std.proofs.Common.{◌≡◌, ◌++◌, length}
use Rattle.bsv_inline.proofs.PartNumbers.{numbers_from}
use Rattle.bsv_inline.proofs.parts.part_numbers.Given as goal

abbrev pub decreases-loop-instance : goal.decreases-loop-instance
decreases-loop-instance l = length l.rest

abbrev pub invariant-loop-instance : goal.invariant-loop-instance
invariant-loop-instance l = numbers_from 0 l.instances ≡ l.numbers ++ numbers_from l.count l.rest
