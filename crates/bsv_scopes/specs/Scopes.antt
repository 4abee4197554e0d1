-- One scope as the list of its entries, and scopes in scopes as the list of these, the innermost first.
use Rattle.std.specs.Prelude.{ℕ, ◌+◌, Bool, false, not, if◌then◌else◌, List, [], ◌∷◌, ◌++◌, length, Option, Some, None, option_map}
use Rattle.std.specs.Option.{option_or}
use Rattle.std.specs.List.{list_any}
use Rattle.std.specs.Map.{keys_of}
use Rattle.std.specs.Str.{bytes_eq}

-- the names of one scope in the order in which they were defined, each with what it stands for
abbrev pub Entries : Type 0 → Type 0
Entries V = List (List ℕ × V)

-- whether a list of names has the name
abbrev pub is_listed : List ℕ → List (List ℕ) → Bool
is_listed name names = list_any (bytes_eq name) names

module _ {V : Type 0} where
  -- what the first entry of the name stands for
  abbrev pub found : List ℕ → Entries V → Option V
  found name [] = None
  found name (e ∷ es) = if bytes_eq name e.0 then Some e.1 else found name es

  abbrev pub is_defined : List ℕ → Entries V → Bool
  is_defined name es = is_listed name (keys_of es)

  -- the place of the first entry of the name
  abbrev pub number_of : List ℕ → Entries V → Option ℕ
  number_of name [] = None
  number_of name (e ∷ es) = if bytes_eq name e.0 then Some 0 else option_map (λ n. n + 1) (number_of name es)

  -- one entry more
  abbrev pub with_name : List ℕ → V → Entries V → Entries V
  with_name name v es = es ++ (name, v) ∷ []

  -- one entry more, where the name has none: the first definition stays
  abbrev pub with_new : List ℕ → V → Entries V → Entries V
  with_new name v es = if is_defined name es then es else with_name name v es

  -- what the name stands for in the innermost scope that has it
  abbrev pub find_in : List ℕ → List (Entries V) → Option V
  find_in name [] = None
  find_in name (es ∷ outer) = option_or (found name es) (find_in name outer)

  -- one scope more, inside the others
  abbrev pub opened : List (Entries V) → List (Entries V)
  opened scopes = [] ∷ scopes

  -- without the innermost scope
  abbrev pub closed : List (Entries V) → List (Entries V)
  closed [] = []
  closed (es ∷ outer) = outer

  -- how many names the scopes have together
  abbrev pub in_scope : List (Entries V) → ℕ
  in_scope [] = 0
  in_scope (es ∷ outer) = length es + in_scope outer

  -- whether the name can be defined: there is a scope, and the innermost one does not have the name
  abbrev pub is_new_in : List ℕ → List (Entries V) → Bool
  is_new_in name [] = false
  is_new_in name (es ∷ outer) = not (is_defined name es)

  -- with the name in the innermost scope, where it is new there
  abbrev pub defined_in : List ℕ → V → List (Entries V) → List (Entries V)
  defined_in name v [] = []
  defined_in name v (es ∷ outer) = with_new name v es ∷ outer
