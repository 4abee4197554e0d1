-- What was carried out without a refusal stays accepted, over instances that were made since and from weight 0. The files of the
-- folder go through what is carried out, from operators to rules: where the heavier computation over the first instances
-- gives something, the lighter one over the later instances gives the same.
mod SideBySide
mod Instances
mod Operators
mod Arms
mod Choices
mod InTurn
mod Calls
mod Expressions
mod Branches
mod Cases
mod Statements
mod Bodies
use Rattle.std.proofs.Common.{◌≡◌, ℕ, zero, suc, ◌+◌, List, [], ◌∷◌, ◌++◌, Option, Some, Result, Ok, Err, sym, subst, arith, inl}
use Rattle.std.specs.Prelude.{slice_get}
use Rattle.bsv_types.specs.declared.expressions.Expr.{Expr}
use Rattle.bsv_types.specs.declared.modules.Method.{Method}
use Rattle.bsv_types.specs.declared.statements.Stmt.{Stmt}
use Rattle.bsv_tree.specs.declared.tree.Built.{Built}
use Rattle.bsv_tree.specs.declared.tree.Instance.{Instance}
use Rattle.bsv_tree.specs.declared.tree.Made.TheVariants as made
use Rattle.bsv_tree.specs.declared.values.Fault.{Fault}
use Rattle.bsv_tree.specs.tree.Contexts.{Context, made_of}
use Rattle.bsv_tree.specs.carrying.Carrying as carrying
use Rattle.bsv_tree.specs.tree.Trees.{IsAccepted}
use Rattle.bsv_carry.specs.StaysAccepted.{Stays, Grows, over, weighing, StaysAccepted}
use Rattle.bsv_carry.proofs.StaysAccepted.SideBySide.{Into, heavier, at_heavier}
use Rattle.bsv_carry.proofs.StaysAccepted.Instances.{stays_same}
use Rattle.bsv_carry.proofs.StaysAccepted.Bodies.{rule_into, top_method_into}

-- ---- how instances grow

pub grows_same : (xs : List Instance) → Grows xs xs
grows_same xs = record { stays = λ n. stays_same (made_of (slice_get xs n)) }

stays_front : (xs ys : List Instance) (n : ℕ) → Stays (made_of (slice_get xs n)) (made_of (slice_get (xs ++ ys) n))
stays_front [] ys n = tt
stays_front (x ∷ xs) ys zero = stays_same (Some x.made)
stays_front (x ∷ xs) ys (suc n) = stays_front xs ys n

-- instances are made after those that are there
pub grows_after : (xs ys : List Instance) → Grows xs (xs ++ ys)
grows_after xs ys = record { stays = stays_front xs ys }

stays_replaced : (xs more : List Instance) (path : List ℕ) (b : Built) (i : Instance) → b.methods ≡ [] → (n : ℕ)
    → Stays (made_of (slice_get (xs ++ record { path = path; made = made.Module b } ∷ more) n)) (made_of (slice_get (xs ++ i ∷ more) n))
stays_replaced [] more path b i e zero = inl e
stays_replaced [] more path b i e (suc n) = stays_same (made_of (slice_get more n))
stays_replaced (x ∷ xs) more path b i e zero = stays_same (Some x.made)
stays_replaced (x ∷ xs) more path b i e (suc n) = stays_replaced xs more path b i e n

-- a module that is built in the place of one that is not
pub grows_replaced : (xs more : List Instance) (path : List ℕ) (b : Built) (i : Instance) → b.methods ≡ []
    → Grows (xs ++ record { path = path; made = made.Module b } ∷ more) (xs ++ i ∷ more)
grows_replaced xs more path b i e = record { stays = stays_replaced xs more path b i e }

-- ---- accepted

accepted_into : {A B : Type 0} (see : B → A) (x : Result A Fault) (y : Result B Fault) → Into see x y → IsAccepted x → IsAccepted y
accepted_into see (Err e) y h k = absurd k
accepted_into see (Ok a) (Err e) h k = h.seen
accepted_into see (Ok a) (Ok b) h k = tt

rule_stays : (s : Context) (later : List Instance) → Grows s.instances later → (condition : Option Expr) (body : List Stmt) (weight : ℕ)
    → IsAccepted (carrying.rule s condition body (weighing weight)) → IsAccepted (carrying.rule (over s later) condition body (weighing 0))
rule_stays s later grows condition body weight h =
    let none : 0 + weight ≡ weight = omega arith in
    accepted_into (heavier weight) (carrying.rule s condition body (weighing (0 + weight))) (carrying.rule (over s later) condition body (weighing 0))
    (rule_into weight later s grows condition body (weighing 0))
    (subst (λ n. IsAccepted (carrying.rule s condition body (weighing n))) (sym none) h)

method_stays : (s : Context) (later : List Instance) → Grows s.instances later → (m : Method) (weight : ℕ)
    → IsAccepted (carrying.top_method s m weight) → IsAccepted (carrying.top_method (over s later) m 0)
method_stays s later grows m weight h =
    let none : 0 + weight ≡ weight = omega arith in
    accepted_into (at_heavier weight) (carrying.top_method s m (0 + weight)) (carrying.top_method (over s later) m 0)
    (top_method_into weight later s grows m 0)
    (subst (λ n. IsAccepted (carrying.top_method s m n)) (sym none) h)

pub stays_accepted : StaysAccepted
stays_accepted = record { rule = rule_stays; method = method_stays }
