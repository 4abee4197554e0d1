-- What carrying out gives at each node of a typed tree.
use Rattle.std.proofs.Common.{◌≡◌, ℕ, zero, suc, ◌-◌, ◌<◌, List, map, Option, Some, None, option_map, Ok, ap, sym, ◌∙◌, arith}
use Rattle.bsv_fail.specs.Given.{◌>>=◌}
use Rattle.bsv_types.specs.declared.expressions.Expr.{Expr, roll-Expr, map-Expr, fold-roll-Expr}
use Rattle.bsv_types.specs.declared.expressions.Expr.TheOpen.{Expr-F}
use Rattle.bsv_types.specs.declared.expressions.Expr.TheViews.{rolls-Literal, rolls-Variable, rolls-Apply, rolls-Call, rolls-Method, rolls-Choice}
use Rattle.bsv_types.specs.declared.expressions.Expr.TheVariants as e
use Rattle.bsv_types.specs.declared.expressions.Place.{Place}
use Rattle.bsv_types.specs.declared.operators.Op.{Op}
use Rattle.bsv_types.specs.declared.statements.Branch.{Branch, fold_out-Branch}
use Rattle.bsv_types.specs.declared.statements.CaseArm.{CaseArm, fold_out-CaseArm}
use Rattle.bsv_types.specs.declared.statements.Head.{Head}
use Rattle.bsv_types.specs.declared.statements.Stmt.{Stmt, roll-Stmt, map-Stmt, fold-roll-Stmt}
use Rattle.bsv_types.specs.declared.statements.Stmt.TheOpen.{Stmt-F}
use Rattle.bsv_types.specs.declared.statements.Stmt.TheViews.{rolls-Block, rolls-If, rolls-For, rolls-Case}
use Rattle.bsv_types.specs.declared.statements.Stmt.TheVariants as s
use Rattle.bsv_types.specs.declared.types.Ty.{Ty}
use Rattle.bsv_types.specs.Kinds.{kind}
use Rattle.bsv_tree.specs.declared.values.Local.{Local}
use Rattle.bsv_tree.specs.declared.values.Work.{Work}
use Rattle.bsv_tree.specs.declared.values.Value.{Value}
use Rattle.bsv_tree.specs.tree.Contexts.{Callee, Context}
use Rattle.bsv_tree.specs.carrying.Calls.{Caller, static_fault, variable}
use Rattle.bsv_tree.specs.carrying.Carrying.{Carried, Placing, Acts, Branched, Labelled, expression, place, expr, expr_step, place_step, as_static, literal, apply, function, method, choice, stmt, branch, case_arm, stmt_step, branch_step, case_step, asked, run, inside, chain, or_nothing, loop_of, cases, called, call_at}
use Rattle.bsv_tree.specs.carrying.Working.{counted}

module _ (call : Caller) (site : Context) where
  -- ---- expressions

  expr_node : (y : Expr-F Expr Place) → expression call site (roll-Expr y) ≡ expr_step call site (map-Expr Expr Place Carried Placing (expression call site) (place call site) y)
  unfolding expression place
  expr_node y = fold-roll-Expr Carried Placing (expr_step call site) (place_step call site) y

  module _ (t : Ty) (vs : List Local) (w : Work) where
    pub literal_is : (number : ℕ) → (expression call site (e.Literal t number)).carry vs w ≡ ((counted w 1 >>= λ w. literal site.shapes (static_fault site) (kind t) number w) >>= as_static call site (kind t))
    literal_is number = ap (λ (c : Carried). c.carry vs w) (ap (expression call site) (sym (rolls-Literal t number)) ∙ expr_node (Expr-F.Literal t number))

    pub variable_is : (level : ℕ) → (expression call site (e.Variable t level)).carry vs w ≡ ((counted w 1 >>= λ w. variable site level vs >>= λ x. Ok (x, w)) >>= as_static call site (kind t))
    variable_is level = ap (λ (c : Carried). c.carry vs w) (ap (expression call site) (sym (rolls-Variable t level)) ∙ expr_node (Expr-F.Variable t level))

    pub apply_is : (os : List Op) (xs : List Expr) → (expression call site (e.Apply t os xs)).carry vs w ≡ (apply call site (kind t) os (map (expression call site) xs) vs w >>= as_static call site (kind t))
    apply_is os xs = ap (λ (c : Carried). c.carry vs w) (ap (expression call site) (sym (rolls-Apply t os xs)) ∙ expr_node (Expr-F.Apply t os xs))

    pub call_is : (number : ℕ) (xs : List Expr) → (expression call site (e.Call t number xs)).carry vs w ≡ (function call site number (map (expression call site) xs) vs w >>= as_static call site (kind t))
    call_is number xs = ap (λ (c : Carried). c.carry vs w) (ap (expression call site) (sym (rolls-Call t number xs)) ∙ expr_node (Expr-F.Call t number xs))

    pub method_is : (p : Place) (number : ℕ) (xs : List Expr) → (expression call site (e.Method t p number xs)).carry vs w ≡ (method call site (place call site p) number (map (expression call site) xs) vs w >>= as_static call site (kind t))
    method_is p number xs = ap (λ (c : Carried). c.carry vs w) (ap (expression call site) (sym (rolls-Method t p number xs)) ∙ expr_node (Expr-F.Method t p number xs))

    pub method_at : (p : Place) (number : ℕ) (xs : List Expr) (x : Expr) → x ≡ e.Method t p number xs → (expression call site x).carry vs w ≡ (method call site (place call site p) number (map (expression call site) xs) vs w >>= as_static call site (kind t))
    method_at p number xs x is = ap (λ (y : Expr). (expression call site y).carry vs w) is ∙ method_is p number xs

    pub choice_is : (ts xs : List Expr) → (expression call site (e.Choice t ts xs)).carry vs w ≡ (choice call site (map (expression call site) ts) (map (expression call site) xs) vs w >>= as_static call site (kind t))
    choice_is ts xs = ap (λ (c : Carried). c.carry vs w) (ap (expression call site) (sym (rolls-Choice t ts xs)) ∙ expr_node (Expr-F.Choice t ts xs))

  -- ---- statements

  stmt_node : (y : Stmt-F Stmt Branch CaseArm) → stmt call site (roll-Stmt y) ≡ stmt_step call site (map-Stmt Stmt Branch CaseArm Acts Branched Labelled (stmt call site) (branch call site) (case_arm call site) y)
  unfolding stmt branch case_arm
  stmt_node y = fold-roll-Stmt Acts Branched Labelled (stmt_step call site) (branch_step call site) (case_step call site) y

  module _ (vs : List Local) (w : Work) where
    pub block_is : (xs : List Stmt) → stmt call site (s.Block xs) vs w ≡ (counted w 1 >>= λ w. inside (run (map (stmt call site) xs)) vs w)
    block_is xs = ap (λ (a : Acts). a vs w) (ap (stmt call site) (sym (rolls-Block xs)) ∙ stmt_node (Stmt-F.Block xs))

    pub if_is : (bs : List Branch) (o : Option Stmt) → stmt call site (s.If bs o) vs w ≡ (counted w 1 >>= λ w. chain (map (branch call site) bs) (or_nothing (option_map (stmt call site) o)) vs w)
    if_is bs None = ap (λ (a : Acts). a vs w) (ap (stmt call site) (sym (rolls-If bs None)) ∙ stmt_node (Stmt-F.If bs None))
    if_is bs (Some x) = ap (λ (a : Acts). a vs w) (ap (stmt call site) (sym (rolls-If bs (Some x))) ∙ stmt_node (Stmt-F.If bs (Some x)))

    pub for_is : (h : Head) (x : Stmt) → stmt call site (s.For h x) vs w ≡ (counted w 1 >>= λ w. loop_of call site h (stmt call site x) vs w)
    for_is h x = ap (λ (a : Acts). a vs w) (ap (stmt call site) (sym (rolls-For h x)) ∙ stmt_node (Stmt-F.For h x))

    pub case_is : (x : Expr) (cs : List CaseArm) (o : Option Stmt) → stmt call site (s.Case x cs o) vs w ≡ (counted w 1 >>= λ w. cases call site (expression call site x).carry (map (case_arm call site) cs) (or_nothing (option_map (stmt call site) o)) vs w)
    case_is x cs None = ap (λ (a : Acts). a vs w) (ap (stmt call site) (sym (rolls-Case x cs None)) ∙ stmt_node (Stmt-F.Case x cs None))
    case_is x cs (Some y) = ap (λ (a : Acts). a vs w) (ap (stmt call site) (sym (rolls-Case x cs (Some y))) ∙ stmt_node (Stmt-F.Case x cs (Some y)))

    pub case_at : (y : Expr) (cs : List CaseArm) (o : Option Stmt) (x : Stmt) → x ≡ s.Case y cs o → stmt call site x vs w ≡ (counted w 1 >>= λ w. cases call site (expression call site y).carry (map (case_arm call site) cs) (or_nothing (option_map (stmt call site) o)) vs w)
    case_at y cs o x is = ap (λ (z : Stmt). stmt call site z vs w) is ∙ case_is y cs o

  -- ---- arms

  pub branch_is : (b : Branch) → branch call site b ≡ record { asks = asked call site b.condition; arm = stmt call site b.arm }
  unfolding stmt branch case_arm
  branch_is b = fold_out-Branch Acts Branched Labelled (stmt_step call site) (branch_step call site) (case_step call site) b

  pub arm_is : (a : CaseArm) → case_arm call site a ≡ record { labels = map (expr call site) a.labels; arm = stmt call site a.arm }
  unfolding stmt branch case_arm
  arm_is a = fold_out-CaseArm Acts Branched Labelled (stmt_step call site) (branch_step call site) (case_step call site) a

-- one call in calls fewer is left
pub call_down : (d : ℕ) (site : Context) (c : Callee) (xs : List Value) (w : Work) → 0 < d → call_at d site c xs w ≡ called (call_at (d - 1)) site c xs w
unfolding call_at
call_down zero site c xs w below = absurd (omega arith)
call_down (suc d) site c xs w below = let it : d ≡ suc d - 1 = omega arith in ap (λ k. called (call_at k) site c xs w) it

pub ruleset exprs = (literal_is, variable_is, apply_is, call_is, method_is, choice_is)

pub ruleset stmts = (block_is, if_is, for_is, case_is)

pub ruleset arms = (branch_is, arm_is)

pub ruleset calls = (call_down)
