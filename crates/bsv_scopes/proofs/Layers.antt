-- Scopes in a list, the innermost last.
use Rattle.std.proofs.Common.{◌≡◌, List, [], ◌∷◌, ◌++◌, map, reverse, ap, ◌∙◌}
use Rattle.std.proofs.lemmas.List.{map-append, reverse-append}
use Rattle.bsv_scopes.specs.declared.scope.Scope.{Scope}
use Rattle.bsv_scopes.specs.Seen.{entries}

-- one scope more
pub scopes_last : {V : Type 0} (xs : List (Scope V)) (x : Scope V) → reverse (map entries (xs ++ x ∷ [])) ≡ entries x ∷ reverse (map entries xs)
scopes_last xs x = ap reverse (map-append entries xs (x ∷ [])) ∙ reverse-append (map entries xs) (entries x ∷ [])

pub ruleset layers = (scopes_last)
