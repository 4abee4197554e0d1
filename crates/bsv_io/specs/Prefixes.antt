-- Prefixes of texts.
use Rattle.std.specs.Prelude.{◌≡◌, ℕ, List, ◌++◌}

-- the text begins with the front
pub record IsPrefix (front whole : List ℕ) : Type 0 where
  pub rest : List ℕ
  pub joined : whole ≡ front ++ rest
