-- Words: a width from 1 to 128 and a value below 2 to that width. Operators are whole-number
-- arithmetic taken modulo 2 to the width (Bluespec reference guide, Bit#(n); IEEE 1364-2005, 4.1).
use Rattle.std.specs.Prelude.{ℕ, ◌+◌, ◌-◌, ◌*◌, ◌/◌, ◌%◌, ◌^◌, ◌<◌, ◌≤◌, Bool, if◌then◌else◌, nat_eq, nat_lt, bit_and, bit_or, bit_xor}

-- a word as contracts see it
pub record Bits : Type 0 where
  pub width : ℕ
  pub value : ℕ

-- the width is 1 to 128, and the value is below 2 to the width
pub record IsWord (w : Bits) : Type 0 where
  pub some : 1 ≤ w.width
  pub most : w.width ≤ 128
  pub below : w.value < 2 ^ w.width

-- a number taken modulo 2 to the width
abbrev pub reduced : ℕ → ℕ → Bits
reduced width number = record { width = width; value = number % 2 ^ width }

-- the word 0 of so many bits
abbrev pub zero_word : ℕ → Bits
zero_word width = record { width = width; value = 0 }

-- a truth value as one bit
abbrev pub bit : Bool → Bits
bit truth = record { width = 1; value = (if truth then 1 else 0) }

-- the sum of two words of one width
abbrev pub word_add : Bits → Bits → Bits
word_add a b = reduced a.width (a.value + b.value)

-- the difference: the first plus what the second lacks of 2 to the width
abbrev pub word_sub : Bits → Bits → Bits
word_sub a b = reduced a.width (a.value + (2 ^ a.width - b.value))

-- the product
abbrev pub word_mul : Bits → Bits → Bits
word_mul a b = reduced a.width (a.value * b.value)

-- what the word lacks of 0
abbrev pub word_neg : Bits → Bits
word_neg a = reduced a.width (2 ^ a.width - a.value)

-- the operators that go bit by bit
abbrev pub word_and : Bits → Bits → Bits
word_and a b = record { width = a.width; value = bit_and a.value b.value }

abbrev pub word_or : Bits → Bits → Bits
word_or a b = record { width = a.width; value = bit_or a.value b.value }

abbrev pub word_xor : Bits → Bits → Bits
word_xor a b = record { width = a.width; value = bit_xor a.value b.value }

-- each bit turned: what the value lacks of the word whose bits are all 1
abbrev pub word_not : Bits → Bits
word_not a = record { width = a.width; value = 2 ^ a.width - 1 - a.value }

-- the words are equal
abbrev pub word_same : Bits → Bits → Bool
word_same a b = nat_eq a.value b.value

-- the first word is below the second, as unsigned numbers
abbrev pub word_less : Bits → Bits → Bool
word_less a b = nat_lt a.value b.value

-- times 2 to the amount; an amount of the width or more gives 0, since 2 to the width divides the product
abbrev pub word_shl : Bits → Bits → Bits
word_shl a amount = reduced a.width (a.value * 2 ^ amount.value)

-- divided by 2 to the amount; an amount of the width or more gives 0, since the value is smaller
abbrev pub word_shr : Bits → Bits → Bits
word_shr a amount = record { width = a.width; value = a.value / 2 ^ amount.value }

-- the bits from low to high, both among them
abbrev pub word_slice : Bits → ℕ → ℕ → Bits
word_slice a high low = reduced (high - low + 1) (a.value / 2 ^ low)

-- the bits of the first word above those of the second
abbrev pub word_concat : Bits → Bits → Bits
word_concat a low = record { width = a.width + low.width; value = a.value * 2 ^ low.width + low.value }

-- the same number in more bits
abbrev pub word_extend : Bits → ℕ → Bits
word_extend a width = record { width = width; value = a.value }
