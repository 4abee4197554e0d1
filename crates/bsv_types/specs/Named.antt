-- The methods of an interface by their names (Bluespec reference guide, "Interface declarations").
use Rattle.std.specs.Prelude.{◌≡◌, ℕ, ◌+◌, List, [], ◌∷◌, Option, Some, None, if◌then◌else◌}
use Rattle.std.specs.Str.{bytes_eq}
use Rattle.std.specs.Map.{lookup}
use Rattle.bsv_types.specs.declared.definitions.MethodHeader.{MethodHeader}

-- the place of the first method of this name, where the first of all has this number
abbrev pub place_from : ℕ → List ℕ → List MethodHeader → Option ℕ
place_from number name [] = None
place_from number name (h ∷ hs) = if bytes_eq name h.name then Some number else place_from (number + 1) name hs

-- the place of the first method of this name
abbrev pub place_of : List ℕ → List MethodHeader → Option ℕ
place_of name hs = place_from 0 name hs

-- a table whose keys have these bytes has the place of the first method of each name, and no other name
abbrev pub HasPlaces : {K : Type 0} → List (K × ℕ) → (K → List ℕ) → List MethodHeader → Type 0
HasPlaces table bytes hs = (name : List ℕ) → lookup (λ key. bytes_eq name (bytes key)) table ≡ place_of name hs
