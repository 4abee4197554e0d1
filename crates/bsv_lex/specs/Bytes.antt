-- The classes of bytes of which tokens are made, beside those of names (Bluespec reference guide, "Lexical
-- elements").
use Rattle.std.specs.Prelude.{ℕ, Bool, false, not, ◌&&◌, ◌||◌, ◌==◌, nat_le, List, [], ◌∷◌}
use Rattle.std.specs.Char.{is_ascii_digit}

-- space, tab, CR, LF and form feed
abbrev pub is_blank : ℕ → Bool
is_blank b = b == 32 || b == 9 || b == 13 || b == 10 || b == 12

-- a digit or `_`
abbrev pub is_decimal : ℕ → Bool
is_decimal b = is_ascii_digit b || b == 95

-- what a comment that ends with its line holds: any byte but LF
abbrev pub in_line : ℕ → Bool
in_line b = not (b == 10)

-- what a text holds: the bytes from 0x20 to 0x7e, without `"` and `\`
abbrev pub in_text : ℕ → Bool
in_text b = nat_le 32 b && nat_le b 126 && not (b == 34 || b == 92)

-- the first byte, if there is one, passes the test
abbrev pub first_is : (ℕ → Bool) → List ℕ → Bool
first_is p [] = false
first_is p (b ∷ bytes) = p b
