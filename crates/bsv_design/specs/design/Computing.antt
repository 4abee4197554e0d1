-- What steps compute of words (Bluespec reference guide, "Bit, UInt and Int"). Words that do not belong together, which
-- no typed design has, give the first one.
use Rattle.std.specs.Prelude.{ℕ, ◌+◌, ◌^◌, ◌==◌, nat_le, nat_lt, false, ◌&&◌, ◌||◌, if◌then◌else◌}
use Rattle.bsv_bits.specs.Words.{Bits, bit, word_slice, word_concat, word_extend}
use Rattle.bsv_bits.specs.Signed.{word_sign_extend}
use Rattle.bsv_bits.specs.Operators.{operate, is_shift}
use Rattle.bsv_bits.specs.declared.operator.Operator.{Operator}

-- the word of so many bits that is this number
unfoldable pub word : ℕ → ℕ → Bits
word width number = if nat_le 1 width && nat_le width 128 && nat_lt number (2 ^ width) then record { width = width; value = number } else bit false

unfoldable pub between : Operator → Bits → Bits → Bits
between o a b = if is_shift o || a.width == b.width then operate o a b else a

-- the second one where the first one is 1, else the third one
abbrev pub picked : Bits → Bits → Bits → Bits
picked test a b = if test.value == 1 then a else b

-- the bits from low to high
unfoldable pub sliced : Bits → ℕ → ℕ → Bits
sliced a high low = if nat_le low high && nat_lt high a.width then word_slice a high low else a

-- the bits of the first one above those of the second one
unfoldable pub joined : Bits → Bits → Bits
joined a low = if nat_le (a.width + low.width) 128 then word_concat a low else a

unfoldable pub extended : Bits → ℕ → Bits
extended a width = if nat_le a.width width && nat_le width 128 then word_extend a width else a

unfoldable pub sign_extended : Bits → ℕ → Bits
sign_extended a width = if nat_le a.width width && nat_le width 128 then word_sign_extend a width else a
