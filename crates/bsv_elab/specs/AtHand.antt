-- For each method of the code the definition of its name, with what is at hand in front.
use Rattle.std.specs.Prelude.{ℕ, ℤ, List, [], map, slice_get, Option, Some, option_map, Result, Ok}
use Rattle.bsv_fail.specs.declared.fail.Fail.{Fail}
use Rattle.bsv_fail.specs.declared.fail.Fail.TheVariants as fail
use Rattle.bsv_fail.specs.Given.{◌>>=◌}
use Rattle.bsv_types.specs.declared.definitions.Param.{Param}
use Rattle.bsv_types.specs.declared.expressions.Expr.{Expr}
use Rattle.bsv_types.specs.declared.makers.Make.{Make}
use Rattle.bsv_types.specs.declared.makers.Maker.{Maker}
use Rattle.bsv_types.specs.declared.modules.Method.{Method}
use Rattle.bsv_types.specs.declared.modules.Module.{Module}
use Rattle.bsv_types.specs.declared.modules.ModuleBranch.{ModuleBranch}
use Rattle.bsv_types.specs.declared.modules.ModuleStmt.{ModuleStmt}
use Rattle.bsv_types.specs.declared.statements.Head.{Head}
use Rattle.bsv_types.specs.Kinds.{Kind as Sort}
use Rattle.bsv_tree.specs.declared.statics.Binding.{Binding}
use Rattle.bsv_tree.specs.declared.statics.Static.{Static}
use Rattle.bsv_tree.specs.declared.values.Fault.{Fault}
use Rattle.bsv_elab.specs.declared.builder.Builder.{Builder}
use Rattle.bsv_elab.specs.declared.refused.Refused.{Refused}
use Rattle.bsv_elab.specs.declared.refused.Refused.TheVariants as refused
use Rattle.bsv_elab.specs.declared.state.Done.{Done}
use Rattle.bsv_elab.specs.declared.state.Grown.{Grown}
use Rattle.bsv_elab.specs.declared.state.Marks.{Marks}
use Rattle.bsv_elab.specs.declared.state.Scope.{Scope}
use Rattle.bsv_elab.specs.declared.state.State.{State}
use Rattle.bsv_elab.specs.Attributes.{marks_of}
use Rattle.bsv_elab.specs.Statics.{Here, Builds, inside}
use Rattle.bsv_elab.specs.Making as making
use Rattle.bsv_elab.specs.Making.{Bodies}
use Rattle.bsv_elab.specs.Bodies as bodies
use Rattle.bsv_elab.specs.Building as building
use Rattle.bsv_elab.specs.Building.{body_at}
use Rattle.bsv_elab.specs.Elements.{here_module, methods_of}

abbrev pub from_carry : Fail Fault → Fail Refused
from_carry fail.Memory = fail.Memory
from_carry (fail.Fault f) = fail.Fault (refused.Carried f)

abbrev pub here : Builder → Here
here b = record {
  shapes = record { enums = b.typed.now.enums; structs = b.typed.now.structs; interfaces = b.typed.now.interfaces };
  functions = b.typed.now.functions;
  modules = b.typed.now.modules;
  within = b.«module»;
  path = b.path.now;
  around = b.around.now;
  first = b.first;
}

abbrev pub inner : Builder → Bodies
inner b = body_at b.depth

abbrev pub stmt : Builder → ModuleStmt → Builds
stmt b x s = bodies.stmt (inner b) (here b) x s

abbrev pub run : Builder → List ModuleStmt → Builds
run b xs s = bodies.run (inner b) (here b) (map (bodies.stmt (inner b) (here b)) xs) s

abbrev pub arm : Builder → ModuleStmt → Builds
arm b x s = inside (bodies.stmt (inner b) (here b) x) s

abbrev pub otherwise : Builder → Option ModuleStmt → Builds
otherwise b last s = bodies.or_nothing (inner b) (here b) (option_map (bodies.stmt (inner b) (here b)) last) s

abbrev pub chain : Builder → Option ModuleStmt → List ModuleBranch → Builds
chain b last bs s =
    bodies.chain (inner b) (here b) (option_map (bodies.stmt (inner b) (here b)) last) (map (bodies.branch (inner b) (here b)) bs) s

abbrev pub turn : Builder → Head → ModuleStmt → Builds
turn b h x s = bodies.turn (inner b) (here b) h (bodies.stmt (inner b) (here b) x) s

abbrev pub turns : Builder → ℕ → Head → ModuleStmt → Builds
turns b n h x s = bodies.turns (inner b) (here b) n h (bodies.stmt (inner b) (here b) x) s

abbrev pub first_and_turns : Builder → Head → ModuleStmt → Builds
first_and_turns b h x s = bodies.first_and_turns (inner b) (here b) h (bodies.stmt (inner b) (here b) x) s

abbrev pub looped : Builder → Head → ModuleStmt → Builds
looped b h x s = bodies.looped (inner b) (here b) h (bodies.stmt (inner b) (here b) x) s

abbrev pub block : Builder → List ModuleStmt → Builds
block b xs s = inside (bodies.run (inner b) (here b) (map (bodies.stmt (inner b) (here b)) xs)) s

abbrev pub declare : Builder → Sort → List ℕ → Expr → Builds
declare b k name e s = bodies.declare (inner b) (here b) k name e s

abbrev pub set : Builder → ℕ → Expr → Builds
set b level e s = bodies.set (inner b) (here b) level e s

abbrev pub make : Builder → ℕ → List ℕ → Make → State → Result (ℕ × State) Refused
make b width name m s = making.make (inner b) (here b) width name m s

abbrev pub made_by : Builder → ℕ → List ℕ → Maker → List Static → State → Result (ℕ × State) Refused
made_by b width name m xs s = making.made_by (inner b) (here b) width name m xs s

abbrev pub child : Builder → List ℕ → ℕ → List Static → State → Result (ℕ × State) Refused
child b name k xs s = making.child (inner b) (here b) name k xs s

abbrev pub numbered_child : Builder → List ℕ → ℕ → List Static → ℕ → State → Result (ℕ × State) Refused
numbered_child b path k xs number s = making.numbered_child (inner b) (here b) path k xs number s

abbrev pub named_child : Builder → List ℕ → ℕ → List Static → State → Result (ℕ × State) Refused
named_child b path k xs s = making.named_child (inner b) (here b) path k xs s

abbrev pub opening_scope : Module → List Binding → Scope
opening_scope m bs = (building.opening m bs building.nothing_grown).scope

abbrev pub array_of : Builder → ℕ → List ℕ → ℤ → Builds
array_of b width name length s = bodies.array_of (inner b) (here b) width name length s

abbrev pub placed_from : Builder → ℕ → ℕ → List ℕ → ℕ → Make → Builds
placed_from b level width name at m s = bodies.placed_from (inner b) (here b) level width name at m s

abbrev pub one_instance : Builder → ℕ → List ℕ → Make → Builds
one_instance b width name m s = bodies.one_instance (inner b) (here b) width name m s

abbrev pub array : Builder → ℕ → List ℕ → Expr → Builds
array b width name e s = bodies.array (inner b) (here b) width name e s

abbrev pub one_place : Builder → ℕ → Expr → Make → Builds
one_place b level e m s = bodies.one_place (inner b) (here b) level e m s

abbrev pub place_from : Builder → ℕ → ℤ → Make → Builds
place_from b level index m s = bodies.place_from (inner b) (here b) level index m s

abbrev pub params_of : Builder → ℕ → List Param
params_of b k = making.params_of (slice_get b.typed.now.modules k)

-- what the attributes of a module and of its rules ask for, after the end of its body
abbrev pub own_body : Builder → Module → State → Result (Marks × State) Refused
own_body b m s =
    bodies.run (inner b) (here b) (map (bodies.stmt (inner b) (here b)) m.body) s >>= λ z.
    marks_of m z.scope.rules >>= λ marks. Ok (marks, z)

abbrev pub body_of : Builder → Module → List Binding → Grown → Result Done Refused
body_of b m bs g = building.body_of (inner b) (here b) (Some m) bs g

abbrev pub body : Builder → List Binding → Grown → Result Done Refused
body b bs g = building.body_of (inner b) (here b) (here_module (here b)) bs g

abbrev pub inner_body : Builder → ℕ → List ℕ → List Binding → Grown → Result Done Refused
inner_body b k path bs g = inner b (making.inner (here b) k path) bs g

abbrev pub own_methods : Builder → List Method
own_methods b = methods_of (here_module (here b))

abbrev pub top_instance : Builder → Result Done Refused
top_instance b = inner_body b b.«module» [] [] (building.top_alone b.«module»)

abbrev pub top : Builder → Result (Done × ℕ) Refused
top b = building.from_top (inner b) (here b)
