-- The statements of the body of a module are carried out one after the other (Bluespec reference guide, "Static
-- elaboration", "Module definitions").
use Rattle.std.specs.Prelude.{ℕ, zero, suc, nat_le, nat_lt, Bool, ℤ, pos, negsuc, List, [], ◌∷◌, length, replicate, slice_get, Option, Some, None, Result, Ok, Err, if◌then◌else◌}
use Rattle.bsv_fail.specs.Given.{◌>>=◌}
use Rattle.bsv_types.specs.declared.expressions.Expr.{Expr}
use Rattle.bsv_types.specs.declared.makers.Make.{Make}
use Rattle.bsv_types.specs.declared.modules.ModuleStmt.{ModuleStmt, fold-ModuleStmt}
use Rattle.bsv_types.specs.declared.modules.ModuleStmt.TheOpen.{ModuleStmt-F, ModuleBranch-F}
use Rattle.bsv_types.specs.declared.modules.ModuleBranch.{ModuleBranch, fold-ModuleBranch}
use Rattle.bsv_types.specs.declared.statements.Head.{Head}
use Rattle.bsv_types.specs.Kinds.{Kind as Sort, kind}
use Rattle.bsv_tree.specs.declared.statics.Binding.{Binding}
use Rattle.bsv_tree.specs.declared.statics.Static.{Static}
use Rattle.bsv_tree.specs.declared.statics.Static.TheVariants as static
use Rattle.bsv_tree.specs.declared.values.Fault.TheVariants as fault
use Rattle.bsv_elab.specs.declared.refused.Refused.{Refused}
use Rattle.bsv_elab.specs.declared.refused.Refused.TheVariants as refused
use Rattle.bsv_elab.specs.declared.state.State.{State}
use Rattle.bsv_elab.specs.Statics.{Here, Builds, static_fault, weigh, constant_in, number_in, truth_in, held, held_as, put_at, binding, bind, with_binding, assign, inside}
use Rattle.bsv_elab.specs.Making.{Bodies, width_in, make}
use Rattle.bsv_elab.specs.Elements.{rule, method}

unfoldable pub most_turns : ℕ
most_turns = 4096

-- ---- arrays

unfoldable pub most_places : ℕ
most_places = 4096

abbrev pub length_of : Refused → ℤ → Result ℕ Refused
length_of r (pos n) = if nat_le n most_places then Ok n else Err r
length_of r (negsuc n) = Err r

abbrev pub no_places : ℕ → Static
no_places n = static.Places (replicate n None)

abbrev pub places : Option Binding → List (Option ℕ)
places None = []
places (Some b) = of b.value where
  of : Static → List (Option ℕ)
  of (static.Places ns) = ns
  of _ = []

abbrev pub name_of : Option Binding → List ℕ
name_of None = []
name_of (Some b) = b.name

abbrev pub or_one : Option ℕ → ℕ
or_one None = 1
or_one (Some n) = n

-- an index is that of a place
abbrev pub index_in : Refused → List (Option ℕ) → ℤ → Result ℕ Refused
index_in r ns (pos n) = if nat_lt n (length ns) then Ok n else Err r
index_in r ns (negsuc n) = Err r

abbrev pub placed : List (Option ℕ) → ℕ → ℕ → Static
placed ns at number = static.Places (put_at at (Some number) ns)

abbrev pub with_place : ℕ → ℕ → ℕ → Option Binding → State → State
with_place level at number None s = s
with_place level at number (Some b) s = with_binding level (binding b.name (placed (places (Some b)) at number)) s

-- the place of an array is that instance
unfoldable pub set_place : ℕ → ℕ → ℕ → State → State
set_place level at number s = with_place level at number (slice_get s.scope.bindings level) s

module _ (bodies : Bodies) (here : Here) where
  -- ---- statements

  unfoldable pub run : List Builds → Builds
  run [] s = Ok s
  run (a ∷ more) s = a s >>= run more

  -- `T x <- make`
  unfoldable pub one_instance : ℕ → List ℕ → Make → Builds
  one_instance width name m s = make bodies here width name m s >>= λ r. Ok (bind name (static.Place r.0) 0 r.1)

  abbrev pub array_of : ℕ → List ℕ → ℤ → Builds
  array_of width name length s = length_of (static_fault here) length >>= λ n. Ok (bind name (no_places n) width s)

  -- `T r[n]`
  unfoldable pub array : ℕ → List ℕ → Expr → Builds
  array width name e s = number_in here e s >>= λ r. array_of width name r.0 r.1

  abbrev pub placed_from : ℕ → ℕ → List ℕ → ℕ → Make → Builds
  placed_from level width name at m s = make bodies here width name m s >>= λ r. Ok (set_place level at r.0 r.1)

  -- `r[i] <- make`: the instance has the name of the array
  abbrev pub place_from : ℕ → ℤ → Make → Builds
  place_from level index m s =
      index_in (static_fault here) (places (slice_get s.scope.bindings level)) index >>= λ at.
      placed_from level (or_one (slice_get s.scope.widths level)) (name_of (slice_get s.scope.bindings level)) at m s

  unfoldable pub one_place : ℕ → Expr → Make → Builds
  one_place level e m s = number_in here e s >>= λ r. place_from level r.0 m r.1

  -- a variable with its first value
  abbrev pub declare : Sort → List ℕ → Expr → Builds
  declare k name e s = constant_in here e s >>= λ r. Ok (bind name (held_as k r.0) 0 r.1)

  -- `v = e`
  abbrev pub set : ℕ → Expr → Builds
  set level e s = constant_in here e s >>= λ r. Ok (assign level r.0 r.1)

  pub record Branched : Type 0 where
    pub asks : State → Result (Bool × State) Refused
    pub arm : Builds

  abbrev pub or_nothing : Option Builds → Builds
  or_nothing None s = Ok s
  or_nothing (Some a) s = inside a s

  -- the first arm whose condition is True
  unfoldable pub chain : Option Builds → List Branched → Builds
  chain last [] s = or_nothing last s
  chain last (b ∷ bs) s = b.asks s >>= λ t. if t.0 then inside b.arm t.1 else chain last bs t.1

  -- one turn, and the step of the loop's head
  unfoldable pub turn : Head → Builds → Builds
  turn h a s = inside a s >>= set h.stepped h.step

  unfoldable pub turns : ℕ → Head → Builds → Builds
  turns zero h a s = truth_in here h.condition s >>= λ t. if t.0 then Err (refused.Carried (fault.Loop here.within)) else Ok t.1
  turns (suc n) h a s =
      truth_in here h.condition s >>= λ t. if t.0 then (turn h a t.1 >>= turns n h a) else Ok t.1

  -- the variable of the loop, and its turns
  abbrev pub first_and_turns : Head → Builds → Builds
  first_and_turns h a s = constant_in here h.first s >>= λ r. turns most_turns h a (bind h.variable (held r.0) 0 r.1)

  unfoldable pub looped : Head → Builds → Builds
  looped h a s = inside (first_and_turns h a) s

  abbrev pub stmt_case : ModuleStmt-F Builds Branched → Builds
  stmt_case (ModuleStmt-F.Instance t name m) s = one_instance (width_in here (kind t)) name m s
  stmt_case (ModuleStmt-F.Array t name e) s = array (width_in here (kind t)) name e s
  stmt_case (ModuleStmt-F.Place level e m) s = one_place level e m s
  stmt_case (ModuleStmt-F.Declare t name e) s = declare (kind t) name e s
  stmt_case (ModuleStmt-F.Assign level e) s = set level e s
  stmt_case (ModuleStmt-F.Block xs) s = inside (run xs) s
  stmt_case (ModuleStmt-F.If bs last) s = chain last bs s
  stmt_case (ModuleStmt-F.For h a) s = looped h a s
  stmt_case (ModuleStmt-F.Rule number) s = rule here number s
  stmt_case (ModuleStmt-F.Method number) s = method here number s

  -- it weighs before what it holds
  abbrev pub stmt_step : ModuleStmt-F Builds Branched → Builds
  stmt_step x s = weigh 1 s >>= stmt_case x

  abbrev pub branch_step : ModuleBranch-F Builds Branched → Branched
  branch_step b = record { asks = truth_in here b.condition; arm = b.arm }

  unfoldable pub stmt : ModuleStmt → Builds
  stmt = fold-ModuleStmt Builds Branched stmt_step branch_step

  unfoldable pub branch : ModuleBranch → Branched
  branch = fold-ModuleBranch Builds Branched stmt_step branch_step
