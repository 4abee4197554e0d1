-- The number that digits are, in decimal, in hexadecimal and in other bases: of the numbers of a program (Bluespec
-- reference guide, "Integer literals") and of a trace. A `_` among the digits counts for nothing; a trace has none.
use Rattle.std.specs.Prelude.{ℕ, ◌+◌, ◌-◌, ◌*◌, ◌==◌, nat_le, if◌then◌else◌, List, [], ◌∷◌}

-- the value of a digit: `0` to `9`, then `A` to `F` or `a` to `f`
abbrev pub digit_value : ℕ → ℕ
digit_value b = if nat_le b 57 then b - 48 else (if nat_le b 70 then b - 55 else b - 87)

-- a number with one more digit after it, where `_` counts for nothing
abbrev pub with_digit : ℕ → ℕ → ℕ → ℕ
with_digit radix number b = if b == 95 then number else number * radix + digit_value b

-- a number with more digits after it
abbrev pub value_from : ℕ → ℕ → List ℕ → ℕ
value_from radix number [] = number
value_from radix number (b ∷ digits) = value_from radix (with_digit radix number b) digits

-- the number that digits are
unfoldable pub value_of : ℕ → List ℕ → ℕ
value_of radix digits = value_from radix 0 digits
