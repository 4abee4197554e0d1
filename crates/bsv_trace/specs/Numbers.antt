-- The numbers of a trace: digits in decimal, or `0x` and digits in hexadecimal, of either case.
use Rattle.std.specs.Prelude.{◌≢◌, ℕ, IsTrue, List, [], ◌∷◌}
use Rattle.std.specs.List.{list_all}
use Rattle.std.specs.Char.{is_ascii_digit, is_ascii_hexdigit}
use Rattle.bsv_bits.specs.DigitValues.{value_of}

-- the number that a text is
pub data IsNumber : List ℕ → ℕ → Type 0 where
  decimal : {digits : List ℕ} → digits ≢ [] → IsTrue (list_all is_ascii_digit digits) → IsNumber digits (value_of 10 digits)
  hexadecimal : {digits : List ℕ} → digits ≢ [] → IsTrue (list_all is_ascii_hexdigit digits) → IsNumber (48 ∷ 120 ∷ digits) (value_of 16 digits)
