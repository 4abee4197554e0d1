use Rattle.std.proofs.Common.{◌≡◌, ◌<◌, ◌^◌, length}
use Rattle.bsv_bits.specs.DigitValues.{value_from}
use Rattle.bsv_bits.proofs.digit_values.value_of.Given as goal

abbrev pub invariant-loop-rest : goal.invariant-loop-rest
invariant-loop-rest l = (value_from l.radix 0 l.digits ≡ value_from l.radix l.value l.rest) × (l.value < 2 ^ 128)

abbrev pub decreases-loop-rest : goal.decreases-loop-rest
decreases-loop-rest l = length l.rest
