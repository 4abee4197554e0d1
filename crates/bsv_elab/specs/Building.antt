-- Building: the tree of a typed design and of its top, or the first refusal that is met (Bluespec reference guide,
-- "Static elaboration").
use Rattle.std.specs.Prelude.{ℕ, zero, suc, ◌+◌, nat_lt, Bool, true, false, List, [], ◌∷◌, map, replicate, take, length, slice_get, Option, Some, None, Result, Ok, Err, if◌then◌else◌}
use Rattle.std.specs.Str.{bytes_eq}
use Rattle.bsv_fail.specs.Given.{◌>>=◌}
use Rattle.bsv_types.specs.declared.modules.Method.{Method}
use Rattle.bsv_types.specs.declared.modules.Module.{Module}
use Rattle.bsv_types.specs.declared.typed.Typed.{Typed}
use Rattle.bsv_tree.specs.declared.statics.Binding.{Binding}
use Rattle.bsv_tree.specs.declared.tree.Built.{Built}
use Rattle.bsv_tree.specs.declared.tree.Made.TheVariants as made
use Rattle.bsv_tree.specs.declared.values.Fault.TheVariants as fault
use Rattle.bsv_tree.specs.carrying.Carrying.{top_method}
use Rattle.bsv_tree.specs.tree.Trees.{TreeData}
use Rattle.bsv_elab.specs.declared.refused.LimitKind.TheVariants as limit
use Rattle.bsv_elab.specs.declared.refused.Refused.{Refused}
use Rattle.bsv_elab.specs.declared.refused.Refused.TheVariants as refused
use Rattle.bsv_elab.specs.declared.state.Done.{Done}
use Rattle.bsv_elab.specs.declared.state.Grown.{Grown}
use Rattle.bsv_elab.specs.declared.state.Marks.{Marks}
use Rattle.bsv_elab.specs.declared.state.Scope.{Scope}
use Rattle.bsv_elab.specs.declared.state.State.{State}
use Rattle.bsv_elab.specs.Names.{no_names}
use Rattle.bsv_elab.specs.Statics.{Here, static_fault, site_in, carried, countable, put_at}
use Rattle.bsv_elab.specs.Attributes.{no_marks, marks_of, both}
use Rattle.bsv_elab.specs.Making.{Bodies, instance, unbuilt, with_instance, inner}
use Rattle.bsv_elab.specs.Elements.{most_elements, here_module, methods_of}
use Rattle.bsv_elab.specs.Bodies.{run, stmt}

-- ---- the body of a module

abbrev pub opening : Module → List Binding → Grown → State
opening m bs g = record {
  grown = g;
  scope = record {
    bindings = bs;
    widths = replicate (length bs) 0;
    instances = no_names;
    elements = no_names;
    rules = [];
    levels = replicate (length m.methods) 0;
    marks = no_marks;
  };
}

abbrev pub built : ℕ → Scope → Built
built number s = record { «module» = number; bindings = s.bindings; rules = s.rules; methods = s.levels }

-- its own attributes come before those of the instances inside it
abbrev pub done : ℕ → State → Marks → Done
done number s marks = record { built = built number s.scope; grown = s.grown; marks = both marks s.scope.marks }

abbrev pub body_of : Bodies → Here → Option Module → List Binding → Grown → Result Done Refused
body_of bodies here None bs g = Err (static_fault here)
body_of bodies here (Some m) bs g =
    run bodies here (map (stmt bodies here) m.body) (opening m bs g) >>= λ s.
    marks_of m s.scope.rules >>= λ marks. Ok (done here.within s marks)

unfoldable pub most_modules : ℕ
most_modules = 64

-- modules in modules, at most so many deep
unfoldable pub body_at : ℕ → Bodies
body_at zero here bs g = Err (refused.Limit limit.Modules most_modules)
body_at (suc d) here bs g = body_of (body_at d) here (here_module here) bs g

-- ---- the top

-- the place of the module of the name that has no parameters
abbrev pub is_top : List ℕ → Module → Bool
is_top name m = if bytes_eq m.name name then no_params m.params else false where
  no_params : {A : Type 0} → List A → Bool
  no_params [] = true
  no_params (p ∷ ps) = false

abbrev pub top_from : ℕ → List ℕ → List Module → Result ℕ Refused
top_from first name [] = Err refused.NoSuchModule
top_from first name (m ∷ ms) = if is_top name m then countable first else top_from (first + 1) name ms

-- the methods of the top come before all rules. Each weighs, so that they never reach this limit
unfoldable pub first_rule : ℕ → Result ℕ Refused
first_rule methods = if nat_lt (methods + most_elements) 4294967296 then Ok methods else Err (refused.Carried fault.Weight)

abbrev pub first_rule_in : Typed → ℕ → Result ℕ Refused
first_rule_in t number = first_rule (length (methods_of (slice_get t.modules number)))

-- where the top is made
abbrev pub outside : Typed → ℕ → ℕ → Here
outside t number first = record {
  shapes = record { enums = t.enums; structs = t.structs; interfaces = t.interfaces };
  functions = t.functions;
  modules = t.modules;
  within = number;
  path = [];
  around = [];
  first = first;
}

abbrev pub nothing_grown : Grown
nothing_grown = record { instances = []; primitives = 0; rules = 0; weight = 0 }

abbrev pub levels_at : List ℕ → ℕ → ℕ
levels_at ns number = or_none (slice_get ns number) where
  or_none : Option ℕ → ℕ
  or_none None = 0
  or_none (Some n) = n

-- a method of the top, which sees its variables, is an element more
unfoldable pub method_at : Here → Done → ℕ → ℕ → Method → Result ℕ Refused
method_at here d weight number m =
    if nat_lt (d.grown.rules + number) most_elements then
    (carried (top_method (site_in here d.grown (take (levels_at d.built.methods number) d.built.bindings)) m weight) >>= λ w.
    Ok w.1.count.weight)
    else Err (refused.Limit limit.Elements most_elements)

-- the weight after the methods of the top from this number on, in the order of the interface
unfoldable pub methods_from : Here → Done → ℕ → ℕ → List Method → Result ℕ Refused
methods_from here d weight number [] = Ok weight
methods_from here d weight number (m ∷ ms) = method_at here d weight number m >>= λ weight. methods_from here d weight (number + 1) ms

abbrev pub tree : Typed → ℕ → Done → ℕ → TreeData
tree t number d weight = record {
  typed = t;
  top = number;
  instances = put_at 0 (instance [] (made.Module d.built)) d.grown.instances;
  pairs = d.marks.pairs;
  asserts = d.marks.asserts;
  weight = weight;
}

-- the tree as it begins, with the top alone
abbrev pub top_alone : ℕ → Grown
top_alone top = with_instance (instance [] (unbuilt top)) nothing_grown

-- the top is carried out as an instance without parameters, and its methods come last
abbrev pub from_top : Bodies → Here → Result (Done × ℕ) Refused
from_top bodies here =
    bodies (inner here here.within []) [] (top_alone here.within) >>= λ d.
    methods_from here d d.grown.weight 0 (methods_of (here_module here)) >>= λ weight. Ok (d, weight)

abbrev pub carried_out : Typed → List ℕ → Result (ℕ × Done × ℕ) Refused
carried_out t name =
    top_from 0 name t.modules >>= λ number. first_rule_in t number >>= λ first.
    from_top (body_at most_modules) (outside t number first) >>= λ r. Ok (number, r.0, r.1)

unfoldable pub building : Typed → List ℕ → Result TreeData Refused
building t name = carried_out t name >>= λ r. Ok (tree t r.0 r.1 r.2)
