-- What calls name: instances, their methods, functions. A method of an interface and a method of a kind are the same
-- where they have one name (Bluespec reference guide, "Method calls").
use Rattle.std.specs.Prelude.{ℕ, false, List, [], take, slice_get, Option, Some, None, Result, Ok, Err, if◌then◌else◌}
use Rattle.bsv_types.specs.declared.definitions.Function.{Function}
use Rattle.bsv_types.specs.declared.modules.Module.{Module}
use Rattle.bsv_types.specs.declared.modules.Method.{Method}
use Rattle.bsv_types.specs.Kinds.{kind}
use Rattle.bsv_tree.specs.declared.statics.Binding.{Binding}
use Rattle.bsv_tree.specs.declared.statics.Static.{Static}
use Rattle.bsv_tree.specs.declared.statics.Static.TheVariants as static
use Rattle.bsv_tree.specs.declared.tree.Built.{Built}
use Rattle.bsv_tree.specs.declared.values.Local.{Local}
use Rattle.bsv_tree.specs.declared.values.Value.{Value}
use Rattle.bsv_tree.specs.declared.values.Work.{Work}
use Rattle.bsv_tree.specs.declared.values.Fault.{Fault}
use Rattle.bsv_tree.specs.declared.values.Fault.TheVariants as fault
use Rattle.bsv_tree.specs.carrying.Values.{held}
use Rattle.bsv_tree.specs.carrying.Working.{Valued}
use Rattle.bsv_tree.specs.tree.Contexts.{Context, Callee, place_in_body, is_integer}

abbrev pub static_fault : Context → Fault
static_fault site = fault.Static site.within

abbrev pub or_fault : {A : Type 0} → Fault → Option A → Result A Fault
or_fault f None = Err f
or_fault f (Some x) = Ok x

-- a variable, by its level: those of the module come first, and then those of the body, after what it returns
abbrev pub in_body : Fault → Option Local → Result Value Fault
in_body f None = Err f
in_body f (Some v) = if v.lost then Err f else Ok v.value

abbrev pub in_module : Fault → Option Binding → Result Value Fault → Result Value Fault
in_module f None body = body
in_module f (Some b) body = or_fault f (held b.value)

unfoldable pub variable : Context → ℕ → List Local → Result Value Fault
variable site level vs =
    in_module (static_fault site) (slice_get site.bindings level)
    (in_body (static_fault site) (slice_get vs (place_in_body site level)))

-- the instance of a variable, and one of an array, which has to be set
abbrev pub placed : Fault → Option Binding → Result ℕ Fault
placed f None = Err f
placed f (Some b) = of b.value where
  of : Static → Result ℕ Fault
  of (static.Place n) = Ok n
  of _ = Err f

abbrev pub set_place : Fault → Option (Option ℕ) → Result ℕ Fault
set_place f (Some (Some n)) = Ok n
set_place f _ = Err f

abbrev pub placed_at : Fault → Option Binding → ℕ → Result ℕ Fault
placed_at f None at = Err f
placed_at f (Some b) at = of b.value where
  of : Static → Result ℕ Fault
  of (static.Places ns) = set_place f (slice_get ns at)
  of _ = Err f

-- a call of this from these values
abbrev pub Caller : Type 0
Caller = Context → Callee → List Value → Work → Valued

-- a function sees its parameters alone
unfoldable pub function_at : Caller → Context → Option Function → List Value → Work → Valued
function_at call site None xs w = Err (static_fault site)
function_at call site (Some f) xs w =
    call (record site { bindings = [] }) (record { name = None; condition = None; body = f.body; integer = is_integer (kind f.result) }) xs w

-- a method of a module sees the variables that come before it, with their values at the end of the body
abbrev pub method_at : Caller → Context → ℕ → Built → ℕ → Option Method → Option ℕ → List Value → Work → Valued
method_at call site instance b number (Some m) (Some levels) xs w =
    call (record site { within = b.«module»; bindings = take levels b.bindings })
    (record { name = Some (record { instance = instance; method = number }); condition = m.condition; body = m.body; integer = false }) xs w
method_at call site instance b number _ _ xs w = Err (static_fault site)

abbrev pub method_in : Caller → Context → ℕ → Built → ℕ → Option Module → List Value → Work → Valued
method_in call site instance b number None xs w = Err (static_fault site)
method_in call site instance b number (Some m) xs w = method_at call site instance b number (slice_get m.methods number) (slice_get b.methods number) xs w

unfoldable pub user_method : Caller → Context → ℕ → Built → ℕ → List Value → Work → Valued
user_method call site instance b number xs w = method_in call site instance b number (slice_get site.modules b.«module») xs w
