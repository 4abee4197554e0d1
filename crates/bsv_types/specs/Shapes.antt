-- The widths that definitions carry, and which types are in order: what their numbers stand for is there, and
-- their widths are 1 to 128.
use Rattle.std.specs.Prelude.{ℕ, ◌+◌, ◌-◌, ◌^◌, ◌==◌, min, nat_le, nat_lt, Bool, true, false, ◌&&◌, List, [], ◌∷◌, length, slice_get, Option, Some, None, option_map}
use Rattle.bsv_types.specs.declared.definitions.Enum.{Enum}
use Rattle.bsv_types.specs.declared.definitions.Struct.{Struct}
use Rattle.bsv_types.specs.declared.definitions.Interface.{Interface}
use Rattle.bsv_types.specs.declared.types.PartTy.TheVariants as part_type
use Rattle.bsv_types.specs.Kinds.{Kind, bit, uint, int, bool, enum, struct, maybe, integer, interface, part, bare}

-- what the numbers of types stand for
pub record Shapes : Type 0 where
  pub enums : List Enum
  pub structs : List Struct
  pub interfaces : List Interface

-- widths that no 32 bits hold count as the greatest number that they hold
abbrev pub counted : ℕ → ℕ
counted n = min n 4294967295

abbrev pub plus : Option ℕ → Option ℕ → Option ℕ
plus (Some m) (Some n) = Some (counted (m + n))
plus _ _ = None

-- the width of a type with bits, where that of an enum and of a struct is the one that its definition carries
abbrev pub width_by : List Enum → List Struct → Kind → Option ℕ
width_by es ss (bit n) = Some n
width_by es ss (uint n) = Some n
width_by es ss (int n) = Some n
width_by es ss bool = Some 1
width_by es ss (enum k) = option_map (λ e. e.width) (slice_get es k)
width_by es ss (struct k) = option_map (λ t. t.width) (slice_get ss k)
width_by es ss (maybe k) = plus (Some 1) (width_by es ss k)
width_by es ss _ = None

-- the widths of types together
abbrev pub widths_by : List Enum → List Struct → List Kind → Option ℕ
widths_by es ss [] = Some 0
widths_by es ss (k ∷ ks) = plus (width_by es ss k) (widths_by es ss ks)

-- a width that is there, and is this one
abbrev pub is_width : Option ℕ → ℕ → Bool
is_width None n = false
is_width (Some m) n = m == n

abbrev pub in_range : ℕ → Bool
in_range n = nat_le 1 n && nat_le n 128

abbrev pub has_range : Option ℕ → Bool
has_range None = false
has_range (Some n) = in_range n

-- the width of an enum with so many labels: it holds the last one, and a smaller one does not
abbrev pub is_enum_width : ℕ → ℕ → Bool
is_enum_width width labels = nat_le 2 labels && nat_le 1 width && nat_lt (labels - 1) (2 ^ width) && nat_le (2 ^ (width - 1)) (labels - 1)

-- a type with bits that names no struct from the number `limit` on
abbrev pub is_bits : Shapes → ℕ → Kind → Bool
is_bits s limit (bit n) = in_range n
is_bits s limit (uint n) = in_range n
is_bits s limit (int n) = in_range n
is_bits s limit bool = true
is_bits s limit (enum k) = nat_lt k (length s.enums)
is_bits s limit (struct k) = nat_lt k limit
is_bits s limit (maybe k) = is_bits s limit k && has_range (width_by s.enums s.structs (maybe k))
is_bits s limit _ = false

-- a type of values with bits
abbrev pub has_bits : Shapes → Kind → Bool
has_bits s k = is_bits s (length s.structs) k

-- a type of values
abbrev pub is_value : Shapes → Kind → Bool
is_value s integer = true
is_value s k = has_bits s k

-- a type of instances
abbrev pub is_instance : Shapes → Kind → Bool
is_instance s (interface k) = nat_lt k (length s.interfaces)
is_instance s (part part_type.PulseWire k) = false
is_instance s (part part_type.RWire k) = has_bits s (maybe k)
is_instance s (part p k) = has_bits s k
is_instance s (bare part_type.PulseWire) = true
is_instance s _ = false
