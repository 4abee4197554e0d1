-- Words as signed numbers, in two's complement (Bluespec reference guide, Int#(n); IEEE 1364-2005, 4.1).
use Rattle.std.specs.Prelude.{ℕ, ◌-◌, ◌%◌, ◌^◌, Bool, if◌then◌else◌, nat_le, int_lt, ℤ, pos, negsuc}
use Rattle.std.specs.Int.{int_shr}
use Rattle.bsv_bits.specs.Words.{Bits, reduced}

-- the most significant bit is 1
abbrev pub is_negative : Bits → Bool
is_negative a = nat_le (2 ^ (a.width - 1)) a.value

-- the integer that a word stands for: its value, less 2 to the width where the most significant bit is 1
-- (negsuc n is -(n + 1))
abbrev pub signed_value : Bits → ℤ
signed_value a = if is_negative a then negsuc (2 ^ a.width - 1 - a.value) else pos a.value

-- an integer taken modulo 2 to the width
abbrev pub wrapped : ℕ → ℤ → Bits
wrapped width (pos n) = reduced width n
wrapped width (negsuc n) = record { width = width; value = 2 ^ width - 1 - n % 2 ^ width }

-- the first word is below the second, as signed numbers
abbrev pub word_less_signed : Bits → Bits → Bool
word_less_signed a b = int_lt (signed_value a) (signed_value b)

-- the integer divided by 2 to the amount and rounded down; an amount of the width or more gives all sign bits
abbrev pub word_sar : Bits → Bits → Bits
word_sar a amount = wrapped a.width (int_shr (signed_value a) amount.value)

-- the same integer in more bits
abbrev pub word_sign_extend : Bits → ℕ → Bits
word_sign_extend a width = wrapped width (signed_value a)
