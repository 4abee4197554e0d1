-- An instance is made: its arguments come first; then it has a kind or a module, and a name, and is in the tree
-- (Bluespec reference guide, "Module and interface instantiation").
use Rattle.std.specs.Prelude.{ℕ, ◌+◌, ◌==◌, nat_le, nat_lt, Bool, false, ℤ, pos, negsuc, List, [], ◌∷◌, ◌++◌, length, slice_get, Option, Some, None, Result, Ok, Err, if◌then◌else◌}
use Rattle.std.specs.List.{list_any}
use Rattle.bsv_fail.specs.Given.{◌>>=◌}
use Rattle.bsv_bits.specs.Words.{Bits, bit}
use Rattle.bsv_types.specs.declared.definitions.Param.{Param}
use Rattle.bsv_types.specs.declared.expressions.Place.{Place}
use Rattle.bsv_types.specs.declared.makers.Argument.{Argument}
use Rattle.bsv_types.specs.declared.makers.Argument.TheVariants as argument
use Rattle.bsv_types.specs.declared.makers.GivenMaker.{GivenMaker}
use Rattle.bsv_types.specs.declared.makers.GivenMaker.TheVariants as given
use Rattle.bsv_types.specs.declared.makers.Make.{Make}
use Rattle.bsv_types.specs.declared.makers.Maker.{Maker}
use Rattle.bsv_types.specs.declared.makers.Maker.TheVariants as maker
use Rattle.bsv_types.specs.declared.modules.Module.{Module}
use Rattle.bsv_types.specs.Expressions.{expr_type}
use Rattle.bsv_types.specs.Kinds.{Kind as Sort, part, kind}
use Rattle.bsv_types.specs.Methods.{made_part}
use Rattle.bsv_tree.specs.declared.statics.Binding.{Binding}
use Rattle.bsv_tree.specs.declared.statics.Static.{Static}
use Rattle.bsv_tree.specs.declared.statics.Static.TheVariants as static
use Rattle.bsv_tree.specs.declared.tree.Instance.{Instance}
use Rattle.bsv_tree.specs.declared.tree.Made.{Made}
use Rattle.bsv_tree.specs.declared.tree.Made.TheVariants as made
use Rattle.bsv_tree.specs.declared.values.Count.{Count}
use Rattle.bsv_tree.specs.tree.Widths.{width}
use Rattle.bsv_tree.specs.carrying.Frames.{no_variables}
use Rattle.bsv_tree.specs.carrying.Carrying.{module_place}
use Rattle.bsv_design.specs.design.Paths.{with_dot}
use Rattle.bsv_elab.specs.declared.refused.LimitKind.TheVariants as limit
use Rattle.bsv_elab.specs.declared.refused.Refused.{Refused}
use Rattle.bsv_elab.specs.declared.refused.Refused.TheVariants as refused
use Rattle.bsv_elab.specs.declared.state.Grown.{Grown}
use Rattle.bsv_elab.specs.declared.state.Marks.{Marks}
use Rattle.bsv_elab.specs.declared.state.Scope.{Scope}
use Rattle.bsv_elab.specs.declared.state.State.{State}
use Rattle.bsv_elab.specs.declared.state.Done.{Done}
use Rattle.bsv_elab.specs.Names.{new_name}
use Rattle.bsv_elab.specs.MadeKinds.{kind_of}
use Rattle.bsv_elab.specs.Statics.{Here, static_fault, site, count, carried, countable, put_at, at_weight, constant_in, held_as, binding}
use Rattle.bsv_elab.specs.Attributes.{both}

-- ---- arguments

abbrev pub placed_in : Here → Place → State → Result (ℕ × Count) Refused
placed_in here p s = carried (module_place (site here s) p (no_variables false) (count s))

abbrev pub argument_in : Here → Argument → State → Result (Static × State) Refused
argument_in here (argument.Value e) s = constant_in here e s >>= λ r. Ok (held_as (kind (expr_type e)) r.0, r.1)
argument_in here (argument.Instance p) s = placed_in here p s >>= λ r. Ok (static.Place r.0, at_weight r.1.weight s)

unfoldable pub arguments_from : Here → List Static → List Argument → State → Result (List Static × State) Refused
arguments_from here xs [] s = Ok (xs, s)
arguments_from here xs (a ∷ more) s = argument_in here a s >>= λ r. arguments_from here (xs ++ r.0 ∷ []) more r.1

-- from left to right
unfoldable pub arguments : Here → List Argument → State → Result (List Static × State) Refused
arguments here xs s = arguments_from here [] xs s

-- ---- the tree

abbrev pub instance : List ℕ → Made → Instance
instance path m = record { path = path; made = m }

-- the number of the next instance
abbrev pub next_number : Grown → Result ℕ Refused
next_number g = countable (length g.instances)

abbrev pub with_instance : Instance → Grown → Grown
with_instance i g = record g { instances = g.instances ++ i ∷ [] }

abbrev pub with_primitive : Instance → Grown → Grown
with_primitive i g = record g { instances = g.instances ++ i ∷ []; primitives = g.primitives + 1 }

-- the path of the next instance of the name
unfoldable pub named_instance : Here → List ℕ → State → Result (List ℕ × State) Refused
named_instance here name s =
    new_name here.path name s.scope.instances >>= λ n.
    Ok (with_dot here.path n.0, record { grown = s.grown; scope = record s.scope { instances = n.1 } })

-- ---- primitives

-- the width of what an instance of the type holds
abbrev pub width_in : Here → Sort → ℕ
width_in here (part p k) = width here.shapes k
width_in here k = 1

abbrev pub first_number : List Static → ℤ
first_number (static.Number n ∷ xs) = n
first_number xs = pos 0

-- how deep a queue is to be
abbrev pub depth_of : GivenMaker → List Static → ℤ
depth_of given.SizedFifo xs = first_number xs
depth_of given.SizedFifof xs = first_number xs
depth_of given.Fifo1 xs = pos 1
depth_of given.Fifof1 xs = pos 1
depth_of _ xs = pos 2

abbrev pub at_least_one : Refused → ℤ → Result ℕ Refused
at_least_one r (pos n) = if nat_lt 0 n then Ok n else Err r
at_least_one r (negsuc n) = Err r

-- the start value or the default
abbrev pub start_of : List Static → Bits
start_of (static.Bits w ∷ xs) = w
start_of (static.Truth b ∷ xs) = bit b
start_of xs = bit false

unfoldable pub most_depth : ℕ
most_depth = 64

unfoldable pub most_primitives : ℕ
most_primitives = 4096

-- the name is taken, and the depth and the number of primitives are within their limits
abbrev pub within_limits : ℕ → Grown → Result ℕ Refused
within_limits depth g =
    if nat_le depth most_depth then
    (if nat_lt g.primitives most_primitives then next_number g else Err (refused.Limit limit.Instances most_primitives))
    else Err (refused.Limit limit.Depth most_depth)

-- of a depth that there is
abbrev pub sized_primitive : Here → ℕ → ℕ → List ℕ → GivenMaker → List Static → State → Result (ℕ × State) Refused
sized_primitive here bits depth name g xs s =
    named_instance here name s >>= λ n.
    within_limits depth n.1.grown >>= λ number.
    Ok (
      number,
      record {
        grown = with_primitive (instance n.0 (made.Primitive (made_part g) (kind_of g bits depth (start_of xs)))) n.1.grown;
        scope = n.1.scope;
      },
    )

unfoldable pub primitive : Here → ℕ → List ℕ → GivenMaker → List Static → State → Result (ℕ × State) Refused
primitive here bits name g xs s =
    at_least_one (static_fault here) (depth_of g xs) >>= λ depth. sized_primitive here bits depth name g xs s

-- ---- modules

-- what carrying out the body of a module gives, from its parameters
abbrev pub Bodies : Type 0
Bodies = Here → List Binding → Grown → Result Done Refused

abbrev pub is_around : ℕ → List ℕ → Bool
is_around number around = list_any (λ m. m == number) around

-- what stands for an instance while its body is carried out
abbrev pub unbuilt : ℕ → Made
unbuilt number = made.Module (record { «module» = number; bindings = []; rules = []; methods = [] })

abbrev pub parameters : List Param → List Static → List Binding
parameters (p ∷ ps) (x ∷ xs) = binding p.name x ∷ parameters ps xs
parameters _ _ = []

abbrev pub params_of : Option Module → List Param
params_of None = []
params_of (Some m) = m.params

abbrev pub inner : Here → ℕ → List ℕ → Here
inner here number path = record here { within = number; path = path; around = here.around ++ number ∷ [] }

-- the instance comes before those inside it, and its attributes before theirs
abbrev pub behind : ℕ → Instance → Grown → Marks → Scope → State
behind number i g inside scope = record {
  grown = record g { instances = put_at number i g.instances };
  scope = record scope { marks = both scope.marks inside };
}

-- of a path and a number
abbrev pub numbered_child : Bodies → Here → List ℕ → ℕ → List Static → ℕ → State → Result (ℕ × State) Refused
numbered_child bodies here path k xs number s =
    bodies (inner here k path) (parameters (params_of (slice_get here.modules k)) xs) (with_instance (instance path (unbuilt k)) s.grown) >>= λ d.
    Ok (number, behind number (instance path (made.Module d.built)) d.grown d.marks s.scope)

abbrev pub named_child : Bodies → Here → List ℕ → ℕ → List Static → State → Result (ℕ × State) Refused
named_child bodies here path k xs s = next_number s.grown >>= λ number. numbered_child bodies here path k xs number s

-- no module is made inside itself
unfoldable pub child : Bodies → Here → List ℕ → ℕ → List Static → State → Result (ℕ × State) Refused
child bodies here name k xs s =
    if is_around k here.around then Err (refused.Recursion k) else
    (named_instance here name s >>= λ n. named_child bodies here n.0 k xs n.1)

-- ---- both

abbrev pub made_by : Bodies → Here → ℕ → List ℕ → Maker → List Static → State → Result (ℕ × State) Refused
made_by bodies here bits name (maker.Given g) xs s = primitive here bits name g xs s
made_by bodies here bits name (maker.Module k) xs s = child bodies here name k xs s

unfoldable pub make : Bodies → Here → ℕ → List ℕ → Make → State → Result (ℕ × State) Refused
make bodies here bits name m s = arguments here m.arguments s >>= λ r. made_by bodies here bits name m.maker r.0 r.1
