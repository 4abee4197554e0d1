-- Paths of instances: names from the top to an instance, joined by dots.
use Rattle.std.specs.Prelude.{◌≡◌, ℕ, IsTrue, List, [], ◌∷◌, ◌++◌, codes}
use Rattle.std.specs.List.{list_all}
use Rattle.bsv_ast.specs.Names.{is_lower}

-- names with a dot between each two
abbrev pub joined : List (List ℕ) → List ℕ
joined [] = []
joined (name ∷ []) = name
joined (name ∷ names) = name ++ (codes "." ++ joined names)

-- Lower names that are no keywords, joined by dots; none for the top
pub record IsPath (path : List ℕ) : Type 0 where
  pub names : List (List ℕ)
  pub lower : IsTrue (list_all is_lower names)
  pub is : path ≡ joined names

-- the path leads from the other one to an instance inside it
pub record IsInside (outer path : List ℕ) : Type 0 where
  pub names : List (List ℕ)
  pub first : List ℕ
  pub rest : List (List ℕ)
  pub outer_is : outer ≡ joined names
  pub path_is : path ≡ joined (names ++ first ∷ rest)
  pub lower : IsTrue (list_all is_lower (names ++ first ∷ rest))

-- the name of what is in an instance, by its path
abbrev pub with_dot : List ℕ → List ℕ → List ℕ
with_dot [] name = name
with_dot path name = path ++ (codes "." ++ name)
