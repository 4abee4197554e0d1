-- What the definitions of statements see of the values of the code.
use Rattle.std.specs.Prelude.{◌≡◌, ℕ, List, None, option_map, Result, Ok, Err}
use Rattle.std.specs.Borrow.{Bor}
use Rattle.bsv_ast.specs.declared.text.Span.{Span}
use Rattle.bsv_types.specs.declared.types.Ty.{Ty}
use Rattle.bsv_types.specs.Kinds.{Kind, kind}
use Rattle.bsv_types.specs.Methods.{effect}
use Rattle.bsv_context.specs.declared.fail.Fail.{Fail}
use Rattle.bsv_context.specs.declared.fail.Fail.TheVariants as fail
use Rattle.bsv_statements.specs.declared.fail.BodyFail.{BodyFail}
use Rattle.bsv_statements.specs.declared.fail.BodyFail.TheVariants as body_fail
use Rattle.bsv_statements.specs.declared.bodies.Task as code_task
use Rattle.bsv_statements.specs.declared.bodies.MethodCall.{MethodCall}
use Rattle.bsv_statements.specs.declared.simple.Opening as code_opening
use Rattle.bsv_statements.specs.Bodies.{Or, Task, Called, Opening}
use Rattle.bsv_context.specs.declared.context.Context.{Context}
use Rattle.bsv_context.specs.Env.{Env}
use Rattle.bsv_context.specs.Seen.{limits, function_named, label_named, structure_named, type_names, expected}
use Rattle.bsv_typing.specs.Seen.{instance_of}

-- what a function that fails leaves open: nothing where it says that there is no typing at this place
abbrev pub FailsAt : {Y : Type 0} → BodyFail → Or Y → Type 0
FailsAt body_fail.Memory given = Unit {0}
FailsAt (body_fail.At span) given = given ≡ Err span

-- what a function gives, as it is seen, is what the definition gives, unless memory ran out
abbrev pub GivesAt : {X Y : Type 0} → (X → Y) → Result X BodyFail → Or Y → Type 0
GivesAt view (Ok x) given = given ≡ Ok (view x)
GivesAt view (Err e) given = FailsAt e given

-- a fault that has its place
abbrev pub fail_at : Span → Fail → BodyFail
fail_at span fail.Memory = body_fail.Memory
fail_at span fail.Fault = body_fail.At span

abbrev pub placed : {X : Type 0} → Span → Result X Fail → Result X BodyFail
placed span (Ok x) = Ok x
placed span (Err e) = Err (fail_at span e)

-- what may be named beside variables
abbrev pub fixed : Context → Env
fixed c = record {
  limits = limits c;
  variable = λ name. None;
  function = function_named c;
  label = label_named c;
  structure = structure_named c;
}

-- what a body may do
abbrev pub task_of : code_task.Task → Task
task_of t = record { env = fixed t.context.now; types = type_names t.context.now; acts = t.acts; result = expected t.result; base = t.base }

-- a method with its arguments
abbrev pub called_of : MethodCall → Called
called_of c = (instance_of c.instance, c.method, effect c.effect, c.arguments)

-- a variable by its level, with its type
abbrev pub assigned : ℕ × Bor Ty → ℕ × Kind
assigned v = (v.0, kind v.1.now)

-- a variable by its name, with its type
abbrev pub bound_of : List ℕ × Ty → List ℕ × Kind
bound_of b = (b.0, kind b.1)

abbrev pub opening_of : code_opening.Opening → Opening
opening_of o = record { asked = o.condition; bound = option_map bound_of o.bound }
