-- Values in the bodies of modules, where every expression is static, and the variables that hold them (Bluespec
-- reference guide, "Static elaboration").
use Rattle.std.specs.Prelude.{ℕ, ◌==◌, nat_lt, Bool, false, ℤ, List, [], ◌∷◌, ◌++◌, take, length, slice_get, slice_set, Option, Some, None, Result, Ok, Err, if◌then◌else◌}
use Rattle.bsv_fail.specs.Given.{◌>>=◌, over}
use Rattle.bsv_types.specs.declared.definitions.Function.{Function}
use Rattle.bsv_types.specs.declared.expressions.Expr.{Expr}
use Rattle.bsv_types.specs.declared.modules.Module.{Module}
use Rattle.bsv_types.specs.Kinds.{Kind as Sort, bool}
use Rattle.bsv_types.specs.Shapes.{Shapes}
use Rattle.bsv_tree.specs.declared.statics.Binding.{Binding}
use Rattle.bsv_tree.specs.declared.statics.Static.{Static}
use Rattle.bsv_tree.specs.declared.statics.Static.TheVariants as static
use Rattle.bsv_tree.specs.declared.values.Constant.{Constant}
use Rattle.bsv_tree.specs.declared.values.Constant.TheVariants as constant
use Rattle.bsv_tree.specs.declared.values.Count.{Count}
use Rattle.bsv_tree.specs.declared.values.Fault.{Fault}
use Rattle.bsv_tree.specs.declared.values.Fault.TheVariants as fault
use Rattle.bsv_tree.specs.declared.values.Value.{Value}
use Rattle.bsv_tree.specs.declared.values.Value.TheVariants as value
use Rattle.bsv_tree.specs.declared.values.Work.{Work}
use Rattle.bsv_tree.specs.carrying.Working.{tick, no_steps}
use Rattle.bsv_tree.specs.carrying.Frames.{no_variables}
use Rattle.bsv_tree.specs.tree.Contexts.{Context}
use Rattle.bsv_tree.specs.carrying.Carrying.{module_expr}
use Rattle.bsv_elab.specs.declared.refused.Refused.{Refused}
use Rattle.bsv_elab.specs.declared.refused.Refused.TheVariants as refused
use Rattle.bsv_elab.specs.declared.state.Grown.{Grown}
use Rattle.bsv_elab.specs.declared.state.State.{State}

-- what is at hand in the body of a module
pub record Here : Type 0 where
  pub shapes : Shapes
  pub functions : List Function
  pub modules : List Module
  -- the module, by its place, and the path of its instance
  pub within : ℕ
  pub path : List ℕ
  -- the modules whose bodies are carried out, this one among them
  pub around : List ℕ
  -- the position of the first rule
  pub first : ℕ

-- a part of building
abbrev pub Builds : Type 0
Builds = State → Result State Refused

abbrev pub static_fault : Here → Refused
static_fault here = refused.Carried (fault.Static here.within)

abbrev pub site_in : Here → Grown → List Binding → Context
site_in here g bs = record {
  shapes = here.shapes;
  functions = here.functions;
  modules = here.modules;
  instances = g.instances;
  within = here.within;
  bindings = bs;
}

abbrev pub site : Here → State → Context
site here s = site_in here s.grown s.scope.bindings

abbrev pub count : State → Count
count s = record { weight = s.grown.weight; slots = 0 }

abbrev pub carried : {A : Type 0} → Result A Fault → Result A Refused
carried r = over refused.Carried r

-- a number of things, of which each weighs, so that they never reach this limit
unfoldable pub countable : ℕ → Result ℕ Refused
countable n = if nat_lt n 4294967296 then Ok n else Err (refused.Carried fault.Weight)

-- the weight, after what was carried out
abbrev pub at_weight : ℕ → State → State
at_weight weight s = record { grown = record s.grown { weight = weight }; scope = s.scope }

unfoldable pub weigh : ℕ → Builds
weigh more s = carried (tick (count s) more) >>= λ c. Ok (at_weight c.weight s)

-- the list with another thing at this place, where it has one
unfoldable pub put_at : {A : Type 0} → ℕ → A → List A → List A
put_at at x xs = if nat_lt at (length xs) then slice_set xs at x else xs

-- ---- values

abbrev pub known : Refused → Value → Result Constant Refused
known r (value.Static c) = Ok c
known r (value.Open a) = Err r

abbrev pub carried_in : Here → Expr → State → Result (Value × Work) Refused
carried_in here e s = carried (module_expr (site here s) e (no_variables false) (no_steps (count s)))

unfoldable pub constant_in : Here → Expr → State → Result (Constant × State) Refused
constant_in here e s =
    carried_in here e s >>= λ r. known (static_fault here) r.0 >>= λ c. Ok (c, at_weight r.1.count.weight s)

abbrev pub as_number : Refused → Constant → Result ℤ Refused
as_number r (constant.Number n) = Ok n
as_number r (constant.Bits w) = Err r

unfoldable pub number_in : Here → Expr → State → Result (ℤ × State) Refused
number_in here e s = constant_in here e s >>= λ r. as_number (static_fault here) r.0 >>= λ n. Ok (n, r.1)

abbrev pub as_truth : Refused → Constant → Result Bool Refused
as_truth r (constant.Number n) = Err r
as_truth r (constant.Bits w) = Ok (w.value == 1)

unfoldable pub truth_in : Here → Expr → State → Result (Bool × State) Refused
truth_in here e s = constant_in here e s >>= λ r. as_truth (static_fault here) r.0 >>= λ b. Ok (b, r.1)

-- ---- variables

abbrev pub held : Constant → Static
held (constant.Number n) = static.Number n
held (constant.Bits w) = static.Bits w

-- what a variable of the type holds
abbrev pub held_as : Sort → Constant → Static
held_as bool (constant.Bits w) = static.Truth (w.value == 1)
held_as k c = held c

abbrev pub binding : List ℕ → Static → Binding
binding name x = record { name = name; value = x }

-- one variable more; of an array, with the width of what its instances hold
abbrev pub bind : List ℕ → Static → ℕ → State → State
bind name x width s = record {
  grown = s.grown;
  scope = record s.scope { bindings = s.scope.bindings ++ binding name x ∷ []; widths = s.scope.widths ++ width ∷ [] };
}

-- the next value of a variable
abbrev pub next_value : Static → Constant → Static
next_value (static.Truth b) (constant.Bits w) = static.Truth (w.value == 1)
next_value x c = held c

abbrev pub with_binding : ℕ → Binding → State → State
with_binding level b s = record { grown = s.grown; scope = record s.scope { bindings = put_at level b s.scope.bindings } }

abbrev pub assigned : ℕ → Constant → Option Binding → State → State
assigned level c None s = s
assigned level c (Some b) s = with_binding level (binding b.name (next_value b.value c)) s

unfoldable pub assign : ℕ → Constant → State → State
assign level c s = assigned level c (slice_get s.scope.bindings level) s

-- what is declared in it ends with it
abbrev pub cut : ℕ → State → State
cut n s = record {
  grown = s.grown;
  scope = record s.scope { bindings = take n s.scope.bindings; widths = take n s.scope.widths };
}

unfoldable pub inside : Builds → Builds
inside a s = a s >>= λ r. Ok (cut (length s.scope.bindings) r)
