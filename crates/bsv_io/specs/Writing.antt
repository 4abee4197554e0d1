-- What a sink tells of itself.
use Rattle.std.specs.Prelude.{◌≡◌, ℕ, ◌+◌, ◌%◌, ◌^◌, List, [], ◌∷◌, ◌++◌, Option}
use Rattle.std.specs.Option.{option_map}
use Rattle.std.specs.List.{flat_map}
use Rattle.std.specs.Borrow.{Bor}
use Rattle.bsv_io.specs.Prefixes.{IsPrefix}

-- the bytes that were put, where they are told; their number, where it is told; the count of faults
pub record Writing : Type 0 where
  pub bytes : Option (List ℕ)
  pub taken : Option ℕ
  pub faults : ℕ

-- the number after these bytes: each byte raises it by one, and after 2^64 - 1 comes 0
unfoldable pub count_after : List ℕ → ℕ → ℕ
count_after [] number = number
count_after (byte ∷ bytes) number = count_after bytes ((number + 1) % 2 ^ 64)

-- the bytes come after those that were put before, and are counted
abbrev pub appended : List ℕ → Writing → Writing
appended bytes w = record w { bytes = option_map (λ (before : List ℕ). before ++ bytes) w.bytes; taken = option_map (count_after bytes) w.taken }

-- a prefix of the bytes comes after those that were put before; of their number nothing is said
pub record AppendsPrefix (bytes : List ℕ) (old new : Writing) : Type 0 where
  pub front : List ℕ
  pub prefix : IsPrefix front bytes
  pub put : new.bytes ≡ (appended front old).bytes

-- a text that comes in pieces
abbrev pub joined : List (Bor (List ℕ)) → List ℕ
joined pieces = flat_map (λ (piece : Bor (List ℕ)). piece.now) pieces
