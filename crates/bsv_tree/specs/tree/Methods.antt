-- The methods that an interface has, and those of the kinds of primitives: they are the same where they have one name
-- (Bluespec reference guide, "Method calls").
use Rattle.std.specs.Prelude.{ℕ, ◌+◌, Bool, true, false, List, [], ◌∷◌, map, slice_get, Option, Some, None, if◌then◌else◌}
use Rattle.std.specs.Str.{bytes_eq}
use Rattle.bsv_types.specs.declared.types.PartTy.{PartTy}
use Rattle.bsv_types.specs.declared.types.PartTy.TheVariants as part_type
use Rattle.bsv_types.specs.Kinds.{bool}
use Rattle.bsv_types.specs.Methods.{Signature, part_methods, bare_methods}
use Rattle.bsv_design.specs.declared.kind.Kind.{Kind}
use Rattle.bsv_design.specs.declared.kind.Kind.TheVariants as kinds
use Rattle.bsv_design.specs.parts.MethodNames.{method_names}

-- the methods of an interface that the language gives
abbrev pub given_methods : PartTy → List Signature
given_methods part_type.PulseWire = bare_methods part_type.PulseWire
given_methods p = part_methods p bool

abbrev pub interface_names : PartTy → List (List ℕ)
interface_names p = map (λ m. m.name) (given_methods p)

abbrev pub number_from : ℕ → List ℕ → List (List ℕ) → Option ℕ
number_from first name [] = None
number_from first name (n ∷ ns) = if bytes_eq n name then Some first else number_from (first + 1) name ns

abbrev pub named : Kind → Option (List ℕ) → Option ℕ
named k None = None
named k (Some name) = number_from 0 name (method_names k)

-- the number that the kind has for a method of an interface
unfoldable pub part_method : PartTy → Kind → ℕ → Option ℕ
part_method p k number = named k (slice_get (interface_names p) number)

-- the kinds that instances of an interface have
abbrev pub is_kind_of : PartTy → Kind → Bool
is_kind_of part_type.Reg (kinds.Reg k) = true
is_kind_of part_type.Reg (kinds.RegU k) = true
is_kind_of part_type.Wire (kinds.Wire k) = true
is_kind_of part_type.Wire (kinds.DWire k) = true
is_kind_of part_type.RWire (kinds.RWire k) = true
is_kind_of part_type.PulseWire (kinds.Pulse k) = true
is_kind_of part_type.Fifo (kinds.Plain k) = true
is_kind_of part_type.Fifo (kinds.Pipeline k) = true
is_kind_of part_type.Fifo (kinds.Bypass k) = true
is_kind_of part_type.Fifof (kinds.Plain k) = true
is_kind_of part_type.Fifof (kinds.Pipeline k) = true
is_kind_of part_type.Fifof (kinds.Bypass k) = true
is_kind_of _ _ = false
