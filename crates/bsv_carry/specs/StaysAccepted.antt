-- What building needs of carrying out: a rule or a method that was carried out without a refusal stays accepted where
-- instances were made since, and where less weight was counted before it. Building carries a rule out when it comes to it,
-- while the tree still grows and with the weight that it counted so far; a tree promises the same over all of its instances,
-- from weight 0.
use Rattle.std.specs.Prelude.{◌≡◌, ℕ, List, [], Option, Some, None, slice_get}
use Rattle.std.proofs.Common.{◌⊎◌}
use Rattle.bsv_types.specs.declared.expressions.Expr.{Expr}
use Rattle.bsv_types.specs.declared.modules.Method.{Method}
use Rattle.bsv_types.specs.declared.statements.Stmt.{Stmt}
use Rattle.bsv_tree.specs.declared.tree.Instance.{Instance}
use Rattle.bsv_tree.specs.declared.tree.Made.{Made}
use Rattle.bsv_tree.specs.declared.tree.Made.TheVariants as made
use Rattle.bsv_tree.specs.declared.values.Work.{Work}
use Rattle.bsv_tree.specs.tree.Contexts.{Context, made_of}
use Rattle.bsv_tree.specs.carrying.Carrying as carrying
use Rattle.bsv_tree.specs.tree.Trees.{IsAccepted}
use Rattle.bsv_tree.specs.carrying.Working.{no_steps}

-- what is at a place, and what is there later. A module that is not built yet, so that it has no methods, may become another
abbrev pub Stays : Option Made → Option Made → Type 0
Stays None y = Unit {0}
Stays (Some (made.Primitive p k)) y = y ≡ Some (made.Primitive p k)
Stays (Some (made.Module b)) y = (b.methods ≡ []) ⊎ (y ≡ Some (made.Module b))

-- the second list has what the first one has, at the same places
pub record Grows (xs ys : List Instance) : Type 0 where
  pub stays : (n : ℕ) → Stays (made_of (slice_get xs n)) (made_of (slice_get ys n))

-- the same site over other instances
abbrev pub over : Context → List Instance → Context
over s is = record s { instances = is }

-- no steps yet, and nothing counted but a weight
abbrev pub weighing : ℕ → Work
weighing weight = no_steps (record { weight = weight; slots = 0 })

pub record StaysAccepted : Type 0 where
  pub rule : (s : Context) (later : List Instance) → Grows s.instances later → (condition : Option Expr) (body : List Stmt) (weight : ℕ)
      → IsAccepted (carrying.rule s condition body (weighing weight)) → IsAccepted (carrying.rule (over s later) condition body (weighing 0))
  pub method : (s : Context) (later : List Instance) → Grows s.instances later → (m : Method) (weight : ℕ)
      → IsAccepted (carrying.top_method s m weight) → IsAccepted (carrying.top_method (over s later) m 0)
