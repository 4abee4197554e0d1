-- What a name stands for in the scopes that are seen.
use Rattle.std.proofs.Common.{ℕ, ◌≡◌, Bool, true, false, List, [], ◌∷◌, Option, Some, None, map, option_map, refl, ◌∙◌, ap, if◌then◌else◌}
use Rattle.std.specs.Option.{option_or}
use Rattle.std.specs.Str.{bytes_eq}
use Rattle.bsv_scopes.specs.Scopes.{Entries, found, find_in, closed}
use Rattle.bsv_types.specs.Expressions.{Slot}
use Rattle.bsv_context.specs.declared.context.Variable.{Variable}
use Rattle.bsv_context.specs.Seen.{variable, in_layer}

one_entry : (b : Bool) (v : Variable) (rest : Option Variable) (more : Option (ℕ × Slot)) → more ≡ option_map variable rest →
    (if b then Some (variable v) else more) ≡ option_map variable (if b then Some v else rest)
one_entry true v rest more is = refl
one_entry false v rest more is = is

pub found_seen : (name : List ℕ) (es : Entries Variable) → found name (in_layer es) ≡ option_map variable (found name es)
found_seen name [] = refl
found_seen name (e ∷ es) = one_entry (bytes_eq name e.0) e.1 (found name es) (found name (in_layer es)) (found_seen name es)

one_layer : (here : Option Variable) (outer : Option Variable) → option_or (option_map variable here) (option_map variable outer) ≡ option_map variable (option_or here outer)
one_layer None outer = refl
one_layer (Some v) outer = refl

pub find_seen : (name : List ℕ) (ss : List (Entries Variable)) → find_in name (map in_layer ss) ≡ option_map variable (find_in name ss)
find_seen name [] = refl
find_seen name (es ∷ outer) =
    ap (λ o. option_or o (find_in name (map in_layer outer))) (found_seen name es)
    ∙ ap (option_or (option_map variable (found name es))) (find_seen name outer)
    ∙ one_layer (found name es) (find_in name outer)

pub ruleset layers = (find_seen)

pub closed_seen : (ss : List (Entries Variable)) → map in_layer (closed ss) ≡ closed (map in_layer ss)
closed_seen [] = refl
closed_seen (es ∷ outer) = refl

pub ruleset closes = (closed_seen)
