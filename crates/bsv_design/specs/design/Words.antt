-- Words that are read: a list of words by its places, and a truth.
use Rattle.std.specs.Prelude.{◌==◌, Bool, false, Option, Some, None}
use Rattle.bsv_bits.specs.Words.{Bits, bit}

abbrev pub or_zero : Option Bits → Bits
or_zero None = bit false
or_zero (Some w) = w

abbrev pub is_one : Bits → Bool
is_one w = w.value == 1
