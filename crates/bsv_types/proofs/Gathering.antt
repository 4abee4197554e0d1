-- Names from left to right.
use Rattle.std.proofs.Common.{ℕ, ◌≡◌, List, [], ◌∷◌, ◌++◌, Option, Some, None, option_map, refl, sym, ap, append_assoc}
use Rattle.bsv_types.specs.AttributeTexts.{Names, one_more}

-- names in front of others
abbrev pub behind : List (List ℕ) → Names → Names
behind front names = (front ++ names.0, names.1)

abbrev pub with_names : List (List ℕ) → Option Names → Option Names
with_names front rest = option_map (behind front) rest

pub names_start : (o : Option Names) → with_names [] o ≡ o
names_start None = refl
names_start (Some names) = refl

pub names_more : (front : List (List ℕ)) (name : List ℕ) (o : Option Names) → with_names front (option_map (one_more name) o) ≡ with_names (front ++ name ∷ []) o
names_more front name None = refl
names_more front name (Some names) = ap (λ xs. Some (xs, names.1)) (sym (append_assoc front (name ∷ []) names.0))

pub ruleset gathering = (names_start, names_more)
