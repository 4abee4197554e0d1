-- How two calls on one part may stand to each other.
use Rattle.std.specs.Prelude.{ℕ, ◌==◌, Bool, false, not, ◌&&◌, List, slice_get, Option, Some, None}
use Rattle.bsv_prim.specs.Table.{goes_before}
use Rattle.bsv_design.specs.declared.kind.Kind.{Kind}
use Rattle.bsv_design.specs.design.Bodies.{Target}
use Rattle.bsv_design.specs.parts.Kinds.{kind_table}
use Rattle.bsv_design.specs.design.Widths.{has_method}
use Rattle.bsv_schedule.specs.declared.relating.related.Relation.{Relation}
use Rattle.bsv_schedule.specs.declared.relating.related.Relation.TheVariants as relation

-- the part has the method
abbrev pub names_method : List Kind → ℕ → ℕ → Bool
names_method ks part m = has_method (slice_get ks part) m

-- two calls of methods on one part, the first one of the first element, stand in the relation
abbrev pub related_by : Relation → Kind → ℕ → ℕ → Bool
related_by relation.Clashes k m n = not (goes_before ((kind_table k).relation m n))
related_by relation.Feeds k m n = (kind_table k).sees m n

abbrev pub related : Relation → Option Kind → ℕ → ℕ → Bool
related w None m n = false
related w (Some k) m n = related_by w k m n

-- a use of the first element and one of the second stand in the relation, on one part
abbrev pub on_one_part : Relation → List Kind → Target → Target → Bool
on_one_part w ks x y = (x.part == y.part) && related w (slice_get ks x.part) x.method y.method
