-- How many bits a type has.
use Rattle.std.specs.Prelude.{ℕ, Option, Some, None}
use Rattle.bsv_types.specs.Kinds.{Kind}
use Rattle.bsv_types.specs.Shapes.{Shapes, width_by}

abbrev pub or_width : ℕ → Option ℕ → ℕ
or_width otherwise None = otherwise
or_width otherwise (Some n) = n

-- the bits of a type, which in a typed design has some
unfoldable pub width : Shapes → Kind → ℕ
width s k = or_width 1 (width_by s.enums s.structs k)
