-- What the attributes of a module and of its rules ask for. They name rules of the module instance, as these are at the
-- end of its body (Bluespec reference guide, "Scheduling attributes").
use Rattle.std.specs.Prelude.{ℕ, Bool, true, false, List, [], ◌∷◌, ◌++◌, map, slice_get, Option, Some, None, Result, Ok, Err, if◌then◌else◌}
use Rattle.std.specs.Str.{bytes_eq}
use Rattle.bsv_fail.specs.Given.{◌>>=◌}
use Rattle.bsv_types.specs.declared.attributes.Attribute.{Attribute as Asked}
use Rattle.bsv_types.specs.declared.attributes.Attribute.TheVariants as asked
use Rattle.bsv_types.specs.declared.modules.Module.{Module}
use Rattle.bsv_types.specs.declared.modules.Rule.{Rule}
use Rattle.bsv_design.specs.declared.attributes.Attribute.{Attribute}
use Rattle.bsv_design.specs.declared.attributes.Attribute.TheVariants as attribute
use Rattle.bsv_tree.specs.declared.tree.BuiltRule.{BuiltRule}
use Rattle.bsv_design.specs.declared.attributes.Pair.{Pair}
use Rattle.bsv_elab.specs.declared.refused.Refused.{Refused}
use Rattle.bsv_elab.specs.declared.refused.Refused.TheVariants as refused
use Rattle.bsv_elab.specs.declared.state.Marks.{Marks}

-- the position of the rule of the name
abbrev pub position_of : Attribute → List BuiltRule → List ℕ → Result ℕ Refused
position_of a [] name = Err (refused.NoSuchRule a name)
position_of a (r ∷ rs) name = if bytes_eq r.name name then Ok r.position else position_of a rs name

-- names in the order of the text
abbrev pub positions_from : Attribute → List BuiltRule → List ℕ → List (List ℕ) → Result (List ℕ) Refused
positions_from a rs found [] = Ok found
positions_from a rs found (n ∷ ns) = position_of a rs n >>= λ p. positions_from a rs (found ++ p ∷ []) ns

unfoldable pub positions : Attribute → List BuiltRule → List (List ℕ) → Result (List ℕ) Refused
positions a rs names = positions_from a rs [] names

abbrev pub pair : Attribute → ℕ → ℕ → Pair
pair a before after = record { attribute = a; before = before; after = after }

-- a list pairs those that stand side by side, from left to right
abbrev pub side_by_side : Attribute → ℕ → List ℕ → List Pair
side_by_side a before [] = []
side_by_side a before (p ∷ ps) = pair a before p ∷ side_by_side a p ps

abbrev pub listed : Attribute → List ℕ → List Pair
listed a [] = []
listed a (p ∷ ps) = side_by_side a p ps

abbrev pub with_each : ℕ → List ℕ → List Pair
with_each left rights = map (pair attribute.Preempts left) rights

-- each on the left with each on the right
abbrev pub each_with_each : List ℕ → List ℕ → List Pair
each_with_each [] rights = []
each_with_each (l ∷ ls) rights = with_each l rights ++ each_with_each ls rights

abbrev pub with_pairs : Marks → List Pair → Marks
with_pairs m ps = record { pairs = m.pairs ++ ps; asserts = m.asserts }

abbrev pub with_assert : Marks → ℕ → Bool → Marks
with_assert m rule fires = record { pairs = m.pairs; asserts = m.asserts ++ record { rule = rule; fires = fires } ∷ [] }

abbrev pub with_list : Attribute → List BuiltRule → Marks → List (List ℕ) → Result Marks Refused
with_list a rs m names = positions a rs names >>= λ ps. Ok (with_pairs m (listed a ps))

abbrev pub with_sides : List BuiltRule → Marks → List (List ℕ) → List (List ℕ) → Result Marks Refused
with_sides rs m lefts rights =
    positions attribute.Preempts rs lefts >>= λ ls. positions attribute.Preempts rs rights >>= λ rights.
    Ok (with_pairs m (each_with_each ls rights))

-- an attribute that comes before the module, or before the rule of a position
abbrev pub marked : List BuiltRule → ℕ → Marks → Asked → Result Marks Refused
marked rs rule m asked.Synthesize = Ok m
marked rs rule m (asked.DescendingUrgency names) = with_list attribute.DescendingUrgency rs m names
marked rs rule m (asked.ExecutionOrder names) = with_list attribute.ExecutionOrder rs m names
marked rs rule m (asked.Preempts lefts rights) = with_sides rs m lefts rights
marked rs rule m asked.FireWhenEnabled = Ok (with_assert m rule true)
marked rs rule m asked.NoImplicitConditions = Ok (with_assert m rule false)

unfoldable pub marked_all : List BuiltRule → ℕ → Marks → List Asked → Result Marks Refused
marked_all rs rule m [] = Ok m
marked_all rs rule m (a ∷ more) = marked rs rule m a >>= λ m. marked_all rs rule m more

abbrev pub attributes_of : Option Rule → List Asked
attributes_of None = []
attributes_of (Some r) = r.attributes

-- the attributes of these rules in turn
unfoldable pub marked_rules : List Rule → List BuiltRule → Marks → List BuiltRule → Result Marks Refused
marked_rules sources rs m [] = Ok m
marked_rules sources rs m (r ∷ more) =
    marked_all rs r.position m (attributes_of (slice_get sources r.rule)) >>= λ m. marked_rules sources rs m more

abbrev pub no_marks : Marks
no_marks = record { pairs = []; asserts = [] }

-- the module's own come first, and then those of its rules
unfoldable pub marks_of : Module → List BuiltRule → Result Marks Refused
marks_of m rs = marked_all rs 0 no_marks m.attributes >>= λ found. marked_rules m.rules rs found rs

abbrev pub both : Marks → Marks → Marks
both m n = record { pairs = m.pairs ++ n.pairs; asserts = m.asserts ++ n.asserts }
