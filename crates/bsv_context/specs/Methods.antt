-- The methods of an interface, by name, and what one gives that only gives a value.
use Rattle.std.specs.Prelude.{ℕ, ◌+◌, List, [], ◌∷◌, Option, Some, None, if◌then◌else◌}
use Rattle.std.specs.Str.{bytes_eq}
use Rattle.bsv_types.specs.Kinds.{Kind}
use Rattle.bsv_types.specs.Methods.{Signature, Effect, value, methods}
use Rattle.bsv_context.specs.Env.{Limits}

-- the method of this name, by its number
abbrev pub method_from : ℕ → List ℕ → List Signature → Option (ℕ × Signature)
method_from number name [] = None
method_from number name (m ∷ ms) = if bytes_eq name m.name then Some (number, m) else method_from (number + 1) name ms

unfoldable pub method_named : Limits → Kind → List ℕ → Option (ℕ × Signature)
method_named g k name = method_from 0 name (methods g.shapes k)

abbrev pub value_of : Effect → Option Kind
value_of (value k) = Some k
value_of _ = None
