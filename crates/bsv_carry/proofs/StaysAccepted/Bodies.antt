-- What was carried out with more weight before it, and with fewer instances, is carried out with less weight over the
-- later instances too, and gives the same but for the weight.
use Rattle.std.proofs.Common.{◌≡◌, ℕ, zero, suc, ◌+◌, Bool, true, false, List, [], map, Option, Some, None, Ok, refl}
use Rattle.std.specs.Prelude.{slice_get, if◌then◌else◌}
use Rattle.bsv_fail.specs.Given.{◌>>=◌}
use Rattle.bsv_types.specs.declared.definitions.Body.{Body}
use Rattle.bsv_types.specs.declared.definitions.Body.TheVariants as body
use Rattle.bsv_types.specs.declared.expressions.Expr.{Expr}
use Rattle.bsv_types.specs.declared.modules.Method.{Method}
use Rattle.bsv_types.specs.declared.statements.Stmt.{Stmt}
use Rattle.bsv_tree.specs.declared.steps.MethodPlace.{MethodPlace}
use Rattle.bsv_tree.specs.declared.tree.Instance.{Instance}
use Rattle.bsv_tree.specs.declared.values.Count.{Count}
use Rattle.bsv_tree.specs.declared.values.Local.{Local}
use Rattle.bsv_tree.specs.declared.values.Value.{Value}
use Rattle.bsv_tree.specs.declared.values.Work.{Work}
use Rattle.bsv_tree.specs.tree.Contexts.{Context, Callee}
use Rattle.bsv_tree.specs.carrying.Calls.{Caller}
use Rattle.bsv_tree.specs.carrying.Frames.{no_variables}
use Rattle.bsv_tree.specs.carrying.Values.{is_true}
use Rattle.bsv_tree.specs.carrying.Working.{no_steps, at_count}
use Rattle.bsv_tree.specs.carrying.Carrying as carrying
use Rattle.bsv_carry.proofs.StaysAccepted.SideBySide.{Into, into_then, into_if, raised, heavier, at_heavier}
use Rattle.bsv_carry.proofs.StaysAccepted.Arms.{parameters_over}
use Rattle.bsv_carry.specs.StaysAccepted.{Grows, over}
use Rattle.bsv_carry.proofs.StaysAccepted.Instances.{CallsInto}
use Rattle.bsv_carry.proofs.StaysAccepted.Expressions.{expr_into}
use Rattle.bsv_carry.proofs.StaysAccepted.Branches.{run_into}
use Rattle.bsv_carry.proofs.StaysAccepted.Statements.{stmts_into}

heavier_by : (d : ℕ) (b : Bool) (x y : Work) → (if b then heavier d x else heavier d y) ≡ heavier d (if b then x else y)
heavier_by d true x y = refl
heavier_by d false x y = refl

module _ (d : ℕ) (is : List Instance) (call next : Caller) (s : Context) (grows : Grows s.instances is) (into : CallsInto d is call next) where
  abbrev t : Context
  t = over s is

  asking_into : (name : Option MethodPlace) (e : Option Expr) (w : Work)
      → Into (heavier d) (carrying.asking call s name e (heavier d w)) (carrying.asking next t name e w)
  unfolding carrying.asking
  asking_into name None w = record { seen = refl }
  asking_into name (Some e) w =
      into_then _ _ ((expr_into d is call next s grows into e).carry (no_variables false) (no_steps w.count))
      (λ r. record { seen = heavier_by d (is_true r.0) (at_count w (carrying.after_arm w.count r.1.count)) (carrying.with_need name w r) })

  returned_into : (v : Option Local) (w : Work) → Into (at_heavier d) (carrying.returned call s v (heavier d w)) (carrying.returned next t v w)
  returned_into None w = record { seen = tt }
  returned_into (Some v) w = into_if v.lost (record { seen = tt }) (record { seen = refl })

  giving_into : (b : Body) (number : Bool) (xs : List Value) (w : Work)
      → Into (at_heavier d) (carrying.giving call s b number xs (heavier d w)) (carrying.giving next t b number xs w)
  unfolding carrying.giving
  giving_into (body.Value e) number xs w = (expr_into d is call next s grows into e).carry (carrying.arguments number xs) w
  giving_into (body.Statements ss) number xs w =
      into_then _ _ (run_into d _ _ (stmts_into d is call next s grows into ss) (carrying.arguments number xs) w)
      (λ r. returned_into (slice_get r.0 0) r.1)

  called_into : (c : Callee) (xs : List Value) (w : Work)
      → Into (at_heavier d) (carrying.called call s c xs (heavier d w)) (carrying.called next t c xs w)
  unfolding carrying.called
  called_into c xs w = into_then _ _ (asking_into c.name c.condition w) (λ w. giving_into c.body c.integer xs w)

  -- a rule, and a method of the top
  body_into : (c : Option Expr) (ss : List Stmt) (w : Work)
      → Into (heavier d) (carrying.asking call s None c (heavier d w) >>= λ w. carrying.run (map (carrying.stmt call s) ss)
      (no_variables false) w >>= λ r. Ok r.1)
      (carrying.asking next t None c w >>= λ w. carrying.run (map (carrying.stmt next t) ss) (no_variables false) w >>= λ r. Ok r.1)
  body_into c ss w =
      into_then _ _ (asking_into None c w) (λ w. into_then _ _ (run_into d _ _ (stmts_into d is call next s grows into ss) (no_variables false) w)
      (λ r. record { seen = refl }))

  method_into : (m : Method) (c : Count)
      → Into (at_heavier d) (carrying.parameters_from [] m.params (raised d c) >>= λ xs. carrying.asking call s None m.condition
      (no_steps xs.1) >>= λ w. carrying.giving call s m.body false xs.0 w)
      (carrying.parameters_from [] m.params c >>= λ xs. carrying.asking next t None m.condition
      (no_steps xs.1) >>= λ w. carrying.giving next t m.body false xs.0 w)
  method_into m c =
      into_then _ _ (parameters_over d [] m.params c) (λ xs. into_then _ _ (asking_into None m.condition (no_steps xs.1))
      (λ w. giving_into m.body false xs.0 w))

-- calls of any depth
pub calls_into : (d : ℕ) (is : List Instance) (depth : ℕ) → CallsInto d is (carrying.call_at depth) (carrying.call_at depth)
unfolding carrying.call_at
calls_into d is zero s grows c xs w = record { seen = tt }
calls_into d is (suc n) s grows c xs w = called_into d is (carrying.call_at n) (carrying.call_at n) s grows (calls_into d is n) c xs w

pub rule_into : (d : ℕ) (is : List Instance) (s : Context) → Grows s.instances is → (c : Option Expr) (ss : List Stmt) (w : Work)
    → Into (heavier d) (carrying.rule s c ss (heavier d w)) (carrying.rule (over s is) c ss w)
unfolding carrying.rule
rule_into d is s grows c ss w =
    body_into d is (carrying.call_at carrying.most_calls) (carrying.call_at carrying.most_calls) s grows (calls_into d is carrying.most_calls) c ss w

pub top_method_into : (d : ℕ) (is : List Instance) (s : Context) → Grows s.instances is → (m : Method) (weight : ℕ)
    → Into (at_heavier d) (carrying.top_method s m (weight + d)) (carrying.top_method (over s is) m weight)
unfolding carrying.top_method
top_method_into d is s grows m weight =
    method_into d is (carrying.call_at carrying.most_calls) (carrying.call_at carrying.most_calls) s grows (calls_into d is carrying.most_calls) m
    (record { weight = weight; slots = 0 })
