-- The names of a scope, without what they stand for.
use Rattle.std.proofs.Common.{ℕ, ◌≡◌, Bool, true, false, List, [], ◌∷◌, ◌++◌, refl, if◌then◌else◌}
use Rattle.std.proofs.lemmas.List.{map-append}
use Rattle.std.specs.Map.{keys_of}
use Rattle.bsv_scopes.specs.Scopes.{Entries, is_defined, with_name, with_new}
use Rattle.bsv_scopes.specs.Given.{with_new_name}

chosen : {V : Type 0} (b : Bool) (name : List ℕ) (v : V) (es : Entries V) →
    keys_of (if b then es else with_name name v es) ≡ (if b then keys_of es else keys_of es ++ name ∷ [])
chosen true name v es = refl
chosen false name v es = map-append (λ e. e.0) es ((name, v) ∷ [])

pub keys_with_new : {V : Type 0} (name : List ℕ) (v : V) (es : Entries V) → keys_of (with_new name v es) ≡ with_new_name name (keys_of es)
keys_with_new name v es = chosen (is_defined name es) name v es

pub ruleset defined = (keys_with_new)
