-- What a number says: its value, its base and its size (Bluespec reference guide, "Integer literals").
use Rattle.std.specs.Prelude.{ℕ, ◌^◌, ◌<◌, ◌≤◌, Bool, ◌&&◌, ◌||◌, ◌==◌, nat_le, nat_lt, if◌then◌else◌, List, [], ◌∷◌, take, drop, Option, Some, None}
use Rattle.std.specs.Char.{is_ascii_digit, is_ascii_hexdigit}
use Rattle.std.specs.List.{list_all, prefix_len}
use Rattle.bsv_ast.specs.declared.text.Base.{Base}
use Rattle.bsv_ast.specs.declared.text.Base.TheVariants.{Binary, Octal, Decimal, Hexadecimal}
use Rattle.bsv_ast.specs.declared.text.Literal.{Literal}
use Rattle.bsv_bits.specs.DigitValues.{value_of}
use Rattle.bsv_lex.specs.Bytes.{is_decimal, first_is}

-- the base that a letter names, in either case
abbrev pub base_of : ℕ → Option Base
base_of b =
    if b == 104 || b == 72 then Some Hexadecimal
    else (if b == 100 || b == 68 then Some Decimal
    else (if b == 111 || b == 79 then Some Octal
    else (if b == 98 || b == 66 then Some Binary
    else None)))

-- how many digits the base has
abbrev pub radix : Base → ℕ
radix Binary = 2
radix Octal = 8
radix Decimal = 10
radix Hexadecimal = 16

-- a number without a base is in decimal
abbrev pub radix_of : Option Base → ℕ
radix_of None = 10
radix_of (Some base) = radix base

-- a digit of the base
abbrev pub is_digit_of : Base → ℕ → Bool
is_digit_of Binary b = nat_le 48 b && nat_le b 49
is_digit_of Octal b = nat_le 48 b && nat_le b 55
is_digit_of Decimal b = is_ascii_digit b
is_digit_of Hexadecimal b = is_ascii_hexdigit b

-- a digit of the base or `_`
abbrev pub continues : Base → ℕ → Bool
continues base b = is_digit_of base b || b == 95

-- without a size, a value is below 2^128
abbrev pub unsized : Option Base → ℕ → Option Literal
unsized base value = if nat_lt value (2 ^ 128) then Some (record { value = value; base = base; size = None }) else None

-- a size is 1 to 128, and the value fits it
abbrev pub sized : Base → ℕ → ℕ → Option Literal
sized base size value =
    if nat_le 1 size && nat_le size 128 && nat_lt value (2 ^ size)
    then Some (record { value = value; base = Some base; size = Some size })
    else None

-- a digit, then digits and `_`
abbrev pub decimal : List ℕ → Option Literal
decimal digits = if first_is is_ascii_digit digits then unsized None (value_of (radix_of None) digits) else None

-- digits of a base, after a size or after nothing
abbrev pub with_size : List ℕ → Base → List ℕ → Option Literal
with_size [] base digits = unsized (Some base) (value_of (radix_of (Some base)) digits)
with_size (b ∷ size) base digits =
    if is_ascii_digit b then sized base (value_of 10 (b ∷ size)) (value_of (radix base) digits) else None

-- one or more digits of the base and `_`, of which the first is a digit
abbrev pub is_digits : Base → List ℕ → Bool
is_digits base digits = first_is (is_digit_of base) digits && list_all (continues base) digits

-- a size or nothing, a base, and its digits
abbrev pub based : List ℕ → Option Base → List ℕ → Option Literal
based size None digits = None
based size (Some base) digits = if is_digits base digits then with_size size base digits else None

-- the number of two parts: the decimal digits and `_` in front, and what begins with `'` and a base
abbrev pub in_parts : List ℕ → List ℕ → Option Literal
in_parts front [] = decimal front
in_parts front (quote ∷ []) = None
in_parts front (quote ∷ letter ∷ digits) = if quote == 39 then based front (base_of letter) digits else None

-- the number that a text is
unfoldable pub literal : List ℕ → Option Literal
literal text = in_parts (take (prefix_len is_decimal text) text) (drop (prefix_len is_decimal text) text)

-- a value is below 2^128, and with a size of 1 to 128 it fits that size
abbrev pub IsFitting : Option ℕ → ℕ → Type 0
IsFitting None value = value < 2 ^ 128
IsFitting (Some size) value = (1 ≤ size) × (size ≤ 128) × (value < 2 ^ size)
