-- How a word prints: its width in decimal, 'h, and its value in lower-case hexadecimal, with a fourth
-- of the width, rounded up, as the number of digits (a sized constant of IEEE 1364-2005, 3.5.1).
use Rattle.std.specs.Prelude.{ℕ, zero, suc, ◌+◌, ◌/◌, ◌%◌, List, [], ◌∷◌, ◌++◌, if◌then◌else◌, nat_lt, codes, decimal}
use Rattle.bsv_bits.specs.Words.{Bits}

-- the character of a digit: 0 to 9, then a to f
abbrev pub hex_glyph : ℕ → ℕ
hex_glyph digit = if nat_lt digit 10 then 48 + digit else 87 + digit

-- the last so many hexadecimal digits of a number
abbrev pub hex_digits : ℕ → ℕ → List ℕ
hex_digits zero number = []
hex_digits (suc count) number = hex_digits count (number / 16) ++ hex_glyph (number % 16) ∷ []

-- how many digits a word of so many bits has
abbrev pub digit_count : ℕ → ℕ
digit_count width = (width + 3) / 4

unfoldable pub constant_text : Bits → List ℕ
constant_text w = decimal w.width ++ codes "'h" ++ hex_digits (digit_count w.width) w.value
