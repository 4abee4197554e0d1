-- How values with bits pack into one number (Bluespec reference guide, "Bits", and "Deriving"): side by side, the
-- first one most significant.
use Rattle.std.specs.Prelude.{ℕ, ◌+◌, ◌*◌, ◌^◌, ◌<◌, List, [], ◌∷◌, Option, Some, None}

-- a value with bits: how many they are, and the number that they are
pub record Bits : Type 0 where
  pub width : ℕ
  pub number : ℕ

abbrev pub bits_together : List Bits → ℕ
bits_together [] = 0
bits_together (x ∷ xs) = x.width + bits_together xs

-- the fields of a struct in their order, as one number
abbrev pub packed : List Bits → ℕ
packed [] = 0
packed (x ∷ xs) = x.number * 2 ^ bits_together xs + packed xs

-- a value of a Maybe whose payload has this width: the tag is on top, and Invalid has the payload 0
abbrev pub packed_maybe : ℕ → Option ℕ → ℕ
packed_maybe width None = packed (record { width = 1; number = 0 } ∷ record { width = width; number = 0 } ∷ [])
packed_maybe width (Some payload) = packed (record { width = 1; number = 1 } ∷ record { width = width; number = payload } ∷ [])

-- each number fits its width
abbrev pub AllFit : List Bits → Type 0
AllFit [] = Unit {0}
AllFit (x ∷ xs) = (x.number < 2 ^ x.width) × AllFit xs
