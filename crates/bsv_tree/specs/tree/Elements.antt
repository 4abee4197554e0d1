-- The text of the elements of a tree: the methods of the top, in the order of its interface, and then the rules, in building
-- order; and what a tree has of primitives (Bluespec reference guide, "Rules", "Module and interface instantiation").
use Rattle.std.specs.Prelude.{ℕ, zero, suc, ◌+◌, ◌==◌, nat_lt, Bool, true, false, List, [], ◌∷◌, ◌++◌, take, length, slice_get, Option, Some, None, if◌then◌else◌}
use Rattle.bsv_types.specs.declared.definitions.MethodResult.{MethodResult}
use Rattle.bsv_types.specs.declared.definitions.MethodResult.TheVariants as result
use Rattle.bsv_types.specs.declared.definitions.Param.{Param}
use Rattle.bsv_types.specs.declared.modules.Method.{Method}
use Rattle.bsv_types.specs.declared.modules.Module.{Module}
use Rattle.bsv_types.specs.declared.modules.Rule.{Rule}
use Rattle.bsv_types.specs.Kinds.{kind}
use Rattle.bsv_types.specs.Shapes.{Shapes}
use Rattle.bsv_design.specs.declared.design.NamedPart.{NamedPart}
use Rattle.bsv_design.specs.declared.element.Port.{Port}
use Rattle.bsv_design.specs.declared.element.Role.{Role}
use Rattle.bsv_design.specs.declared.element.Role.TheVariants as role
use Rattle.bsv_design.specs.design.Bodies.{Target}
use Rattle.bsv_design.specs.design.Paths.{with_dot}
use Rattle.bsv_tree.specs.declared.steps.MethodPlace.{MethodPlace}
use Rattle.bsv_tree.specs.declared.tree.Built.{Built}
use Rattle.bsv_tree.specs.declared.tree.BuiltRule.{BuiltRule}
use Rattle.bsv_tree.specs.declared.tree.Instance.{Instance}
use Rattle.bsv_tree.specs.declared.tree.Made.{Made}
use Rattle.bsv_tree.specs.declared.tree.Made.TheVariants as made
use Rattle.bsv_tree.specs.tree.Widths.{width}
use Rattle.bsv_tree.specs.tree.Contexts.{Context, made_of}
use Rattle.bsv_tree.specs.tree.Trees.{TreeData, methods_of, rule_count, site_of}

abbrev pub role_of : MethodResult → Role
role_of (result.Value t) = role.Value
role_of result.Action = role.Action
role_of (result.ActionValue t) = role.ActionValue

abbrev pub port_of : Shapes → Param → Port
port_of s p = record { name = p.name; width = width s (kind p.ty) }

-- the text of an element, and what its names stand for there
pub data Text : Type 0 where
  method : Context → Method → Text
  -- with its path and name
  rule : List ℕ → Context → Rule → Text

-- ---- methods of the top

-- a method sees so many of the variables of its module
abbrev pub method_text : TreeData → Built → Option ℕ → Option Method → Option Text
method_text h b (Some levels) (Some m) = Some (Text.method (site_of h.typed h.instances b.«module» (take levels b.bindings)) m)
method_text h b _ _ = None

abbrev pub top_methods : TreeData → List Method
top_methods h = methods_of (slice_get h.typed.modules h.top)

abbrev pub top_text : TreeData → ℕ → Option Made → Option Text
top_text h n (Some (made.Module b)) = method_text h b (slice_get b.methods n) (slice_get (top_methods h) n)
top_text h n _ = None

-- ---- rules

-- a rule, with its instance
pub record PlacedRule : Type 0 where
  pub path : List ℕ
  pub built : Built
  pub rule : BuiltRule

abbrev pub rule_among : List ℕ → Built → ℕ → List BuiltRule → Option PlacedRule
rule_among path b position [] = None
rule_among path b position (r ∷ rs) =
    if r.position == position then Some (record { path = path; built = b; rule = r }) else rule_among path b position rs

abbrev pub rule_here : ℕ → List ℕ → Made → Option PlacedRule
rule_here position path (made.Primitive p k) = None
rule_here position path (made.Module b) = rule_among path b position b.rules

abbrev pub or_else : Option PlacedRule → Option PlacedRule → Option PlacedRule
or_else (Some r) others = Some r
or_else None others = others

-- the rule of a position
abbrev pub rule_at : List Instance → ℕ → Option PlacedRule
rule_at [] position = None
rule_at (i ∷ is) position = or_else (rule_here position i.path i.made) (rule_at is position)

abbrev pub rule_in : Option Module → ℕ → Option Rule
rule_in None place = None
rule_in (Some m) place = slice_get m.rules place

abbrev pub standing_text : TreeData → PlacedRule → Option Rule → Option Text
standing_text h r None = None
standing_text h r (Some source) =
    Some (Text.rule (with_dot r.path r.rule.name) (site_of h.typed h.instances r.built.«module» r.rule.bindings) source)

abbrev pub rule_text : TreeData → Option PlacedRule → Option Text
rule_text h None = None
rule_text h (Some r) = standing_text h r (rule_in (slice_get h.typed.modules r.built.«module») r.rule.rule)

-- ---- all elements

-- how many elements there are
unfoldable pub element_count : TreeData → ℕ
element_count h = length (top_methods h) + rule_count h.instances

-- what has a position
unfoldable pub text_at : TreeData → ℕ → Option Text
text_at h n =
    if nat_lt n (length (top_methods h)) then top_text h n (made_of (slice_get h.instances 0)) else rule_text h (rule_at h.instances n)

-- the element of a position
abbrev pub element_text : TreeData → ℕ → Option Text
element_text h n = if nat_lt n (element_count h) then text_at h n else None

-- ---- primitives

abbrev pub part_made : List ℕ → Made → List NamedPart
part_made path (made.Primitive p k) = record { path = path; kind = k } ∷ []
part_made path (made.Module b) = []

-- the primitives, in building order
abbrev pub parts_among : List Instance → List NamedPart
parts_among [] = []
parts_among (i ∷ is) = part_made i.path i.made ++ parts_among is

abbrev pub is_part : Made → Bool
is_part (made.Primitive p k) = true
is_part (made.Module b) = false

abbrev pub one_if : Bool → ℕ
one_if true = 1
one_if false = 0

-- how many primitives there are among the first so many instances
abbrev pub parts_before : List Instance → ℕ → ℕ
parts_before is zero = 0
parts_before [] (suc n) = 0
parts_before (i ∷ is) (suc n) = one_if (is_part i.made) + parts_before is n

-- a method of an instance that is a primitive, by the place of that among the primitives
abbrev pub target_of : List Instance → MethodPlace → Target
target_of is m = record { part = parts_before is m.instance; method = m.method }

-- ---- names of methods of modules

abbrev pub method_name : Option Method → List ℕ
method_name None = []
method_name (Some m) = m.name

abbrev pub name_in : List Module → List ℕ → ℕ → Made → List ℕ
name_in ms path number (made.Module b) = with_dot path (method_name (of (slice_get ms b.«module»))) where
  of : Option Module → Option Method
  of None = None
  of (Some m) = slice_get m.methods number
name_in ms path number (made.Primitive p k) = path

-- a method of a module, by its path and name
abbrev pub user_name : List Module → Option Instance → ℕ → List ℕ
user_name ms None number = []
user_name ms (Some i) number = name_in ms i.path number i.made

abbrev pub place_name : List Module → List Instance → MethodPlace → List ℕ
place_name ms is m = user_name ms (slice_get is m.instance) m.method
