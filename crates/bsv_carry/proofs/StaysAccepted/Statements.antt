-- A statement gives the same over later instances, and from less weight.
use Rattle.std.proofs.Common.{ℕ, List, [], ◌∷◌, map, Some, None, refl, sym, subst}
use Rattle.bsv_types.specs.declared.statements.Branch.{Branch, roll-Branch, map-Branch, fold-roll-Branch}
use Rattle.bsv_types.specs.declared.statements.CaseArm.{CaseArm, roll-CaseArm, map-CaseArm, fold-roll-CaseArm}
use Rattle.bsv_types.specs.declared.statements.Stmt.{Stmt, roll-Stmt, ind-Stmt, map-Stmt, fold-roll-Stmt}
use Rattle.bsv_types.specs.declared.statements.Stmt.TheOpen.{Stmt-F, Branch-F, CaseArm-F}
use Rattle.bsv_tree.specs.declared.tree.Instance.{Instance}
use Rattle.bsv_tree.specs.tree.Contexts.{Context}
use Rattle.bsv_tree.specs.carrying.Calls.{Caller}
use Rattle.bsv_tree.specs.carrying.Carrying as carrying
use Rattle.bsv_tree.specs.carrying.Carrying.{Acts, Branched, Labelled, place, stmt, branch, case_arm}
use Rattle.bsv_carry.proofs.StaysAccepted.SideBySide.{into_then, counted_over}
use Rattle.bsv_carry.specs.StaysAccepted.{Grows, over}
use Rattle.bsv_carry.proofs.StaysAccepted.Instances.{ActsInto, BranchedInto, LabelledInto, EachActs, EachBranched, EachLabelled, CallsInto}
use Rattle.bsv_carry.proofs.StaysAccepted.Calls.{act_into}
use Rattle.bsv_carry.proofs.StaysAccepted.Expressions.{expr_into, place_in, exprs_into, carries_into}
use Rattle.bsv_carry.proofs.StaysAccepted.Branches.{run_into, inside_into, nothing_into, chain_into, asked_into}
use Rattle.bsv_carry.proofs.StaysAccepted.Cases.{cases_into, loop_into}

module _ (d : ℕ) (is : List Instance) (call next : Caller) (s : Context) (grows : Grows s.instances is) (into : CallsInto d is call next) where
  abbrev t : Context
  t = over s is

  abbrev StmtInto : Stmt → Type 0
  StmtInto x = ActsInto d (stmt call s x) (stmt next t x)

  abbrev BranchInto : Branch → Type 0
  BranchInto x = BranchedInto d (branch call s x) (branch next t x)

  abbrev ArmInto : CaseArm → Type 0
  ArmInto x = LabelledInto d (case_arm call s x) (case_arm next t x)

  abbrev Child : Type 0
  Child = (x : Stmt) × StmtInto x

  abbrev BranchChild : Type 0
  BranchChild = (x : Branch) × BranchInto x

  abbrev ArmChild : Type 0
  ArmChild = (x : CaseArm) × ArmInto x

  each : (xs : List Child) → EachActs d (map (stmt call s) (map (λ (x : Child). x.0) xs)) (map (stmt next t) (map (λ (x : Child). x.0) xs))
  each [] = tt
  each (x ∷ xs) = (x.1, each xs)

  each_branch : (xs : List BranchChild)
      → EachBranched d (map (branch call s) (map (λ (x : BranchChild). x.0) xs)) (map (branch next t) (map (λ (x : BranchChild). x.0) xs))
  each_branch [] = tt
  each_branch (x ∷ xs) = (x.1, each_branch xs)

  each_arm : (xs : List ArmChild)
      → EachLabelled d (map (case_arm call s) (map (λ (x : ArmChild). x.0) xs)) (map (case_arm next t) (map (λ (x : ArmChild). x.0) xs))
  each_arm [] = tt
  each_arm (x ∷ xs) = (x.1, each_arm xs)

  -- one layer, whose parts are related
  layer : (y : Stmt-F Child BranchChild ArmChild) →
      ActsInto d (carrying.stmt_case call s (map-Stmt Stmt Branch CaseArm Acts Branched Labelled (stmt call s) (branch call s) (case_arm call s)
      (map-Stmt Child BranchChild ArmChild Stmt Branch CaseArm (λ x. x.0) (λ x. x.0) (λ x. x.0) y)))
      (carrying.stmt_case next t (map-Stmt Stmt Branch CaseArm Acts Branched Labelled (stmt next t) (branch next t) (case_arm next t)
      (map-Stmt Child BranchChild ArmChild Stmt Branch CaseArm (λ x. x.0) (λ x. x.0) (λ x. x.0) y)))
  layer (Stmt-F.Declare k e) vs w = into_then _ _ ((expr_into d is call next s grows into e).carry vs w) (λ r. record { seen = refl })
  layer (Stmt-F.Assign level e) vs w = into_then _ _ ((expr_into d is call next s grows into e).carry vs w) (λ r. record { seen = refl })
  layer (Stmt-F.Act p number xs) vs w =
      into_then _ _ (act_into d is call next s grows into (place call s p) (place next t p) (place_in d is call next s grows into p) number _ _
      (exprs_into d is call next s grows into xs) vs w) (λ r. record { seen = refl })
  layer (Stmt-F.Bind k p number xs) vs w =
      into_then _ _ (act_into d is call next s grows into (place call s p) (place next t p) (place_in d is call next s grows into p) number _ _
      (exprs_into d is call next s grows into xs) vs w) (λ r. record { seen = refl })
  layer (Stmt-F.Return e) vs w = into_then _ _ ((expr_into d is call next s grows into e).carry vs w) (λ r. record { seen = refl })
  layer Stmt-F.NoAction vs w = record { seen = refl }
  layer (Stmt-F.Block xs) vs w = inside_into d _ _ (run_into d _ _ (each xs)) vs w
  layer (Stmt-F.If bs None) vs w = chain_into d _ _ (each_branch bs) _ _ (nothing_into d None None tt) vs w
  layer (Stmt-F.If bs (Some x)) vs w =
      chain_into d _ _ (each_branch bs) _ _ (nothing_into d (Some (stmt call s x.0)) (Some (stmt next t x.0)) x.1) vs w
  layer (Stmt-F.For h x) vs w = loop_into d is call next s grows into h (stmt call s x.0) (stmt next t x.0) x.1 vs w
  layer (Stmt-F.Case e xs None) vs w =
      cases_into d is call next s (carrying.expr call s e) (carrying.expr next t e) (expr_into d is call next s grows into e).carry _ _
      (each_arm xs) _ _ (nothing_into d None None tt) vs w
  layer (Stmt-F.Case e xs (Some x)) vs w =
      cases_into d is call next s (carrying.expr call s e) (carrying.expr next t e) (expr_into d is call next s grows into e).carry _ _
      (each_arm xs) _ _ (nothing_into d (Some (stmt call s x.0)) (Some (stmt next t x.0)) x.1) vs w

  stmt_layer : (a b : Stmt-F Acts Branched Labelled) → ActsInto d (carrying.stmt_case call s a) (carrying.stmt_case next t b)
      → ActsInto d (carrying.stmt_step call s a) (carrying.stmt_step next t b)
  stmt_layer a b h vs w = into_then _ _ (counted_over d w 1) (λ w. h vs w)

  branch_layer : (y : Branch-F Stmt Branch CaseArm) → StmtInto y.arm →
      BranchedInto d (carrying.branch_step call s (map-Branch Stmt Branch CaseArm Acts Branched Labelled (stmt call s) (branch call s)
      (case_arm call s) y))
      (carrying.branch_step next t (map-Branch Stmt Branch CaseArm Acts Branched Labelled (stmt next t) (branch next t) (case_arm next t) y))
  branch_layer y h = record { asks = λ vs c. asked_into d is call next s grows into y.condition vs c; arm = h }

  arm_layer : (y : CaseArm-F Stmt Branch CaseArm) → StmtInto y.arm →
      LabelledInto d (carrying.case_step call s (map-CaseArm Stmt Branch CaseArm Acts Branched Labelled (stmt call s) (branch call s)
      (case_arm call s) y))
      (carrying.case_step next t (map-CaseArm Stmt Branch CaseArm Acts Branched Labelled (stmt next t) (branch next t) (case_arm next t) y))
  arm_layer y h = record { labels = carries_into d is call next s grows into y.labels; arm = h }

  stmt_rolled : (z : Stmt-F Stmt Branch CaseArm) →
      ActsInto d (carrying.stmt_step call s (map-Stmt Stmt Branch CaseArm Acts Branched Labelled (stmt call s) (branch call s) (case_arm call s) z))
      (carrying.stmt_step next t (map-Stmt Stmt Branch CaseArm Acts Branched Labelled (stmt next t) (branch next t) (case_arm next t) z)) → StmtInto
      (roll-Stmt z)
  unfolding stmt branch case_arm
  stmt_rolled z h =
      subst (λ b. ActsInto d (stmt call s (roll-Stmt z)) b) (sym (fold-roll-Stmt Acts Branched Labelled (carrying.stmt_step next t)
      (carrying.branch_step next t) (carrying.case_step next t) z))
      (subst (λ a. ActsInto d a (carrying.stmt_step next t (map-Stmt Stmt Branch CaseArm Acts Branched Labelled (stmt next t) (branch next t)
      (case_arm next t) z)))
      (sym (fold-roll-Stmt Acts Branched Labelled (carrying.stmt_step call s) (carrying.branch_step call s) (carrying.case_step call s) z)) h)

  branch_rolled : (z : Branch-F Stmt Branch CaseArm) →
      BranchedInto d (carrying.branch_step call s (map-Branch Stmt Branch CaseArm Acts Branched Labelled (stmt call s) (branch call s)
      (case_arm call s) z))
      (carrying.branch_step next t (map-Branch Stmt Branch CaseArm Acts Branched Labelled (stmt next t) (branch next t)
      (case_arm next t) z)) → BranchInto (roll-Branch z)
  unfolding stmt branch case_arm
  branch_rolled z h =
      subst (λ b. BranchedInto d (branch call s (roll-Branch z)) b)
      (sym (fold-roll-Branch Acts Branched Labelled (carrying.stmt_step next t) (carrying.branch_step next t) (carrying.case_step next t) z))
      (subst (λ a. BranchedInto d a (carrying.branch_step next t (map-Branch Stmt Branch CaseArm Acts Branched Labelled (stmt next t) (branch next t)
      (case_arm next t) z)))
      (sym (fold-roll-Branch Acts Branched Labelled (carrying.stmt_step call s) (carrying.branch_step call s) (carrying.case_step call s) z)) h)

  arm_rolled : (z : CaseArm-F Stmt Branch CaseArm) →
      LabelledInto d (carrying.case_step call s (map-CaseArm Stmt Branch CaseArm Acts Branched Labelled (stmt call s) (branch call s)
      (case_arm call s) z))
      (carrying.case_step next t (map-CaseArm Stmt Branch CaseArm Acts Branched Labelled (stmt next t) (branch next t)
      (case_arm next t) z)) → ArmInto (roll-CaseArm z)
  unfolding stmt branch case_arm
  arm_rolled z h =
      subst (λ b. LabelledInto d (case_arm call s (roll-CaseArm z)) b)
      (sym (fold-roll-CaseArm Acts Branched Labelled (carrying.stmt_step next t) (carrying.branch_step next t) (carrying.case_step next t) z))
      (subst (λ a. LabelledInto d a (carrying.case_step next t (map-CaseArm Stmt Branch CaseArm Acts Branched Labelled (stmt next t) (branch next t)
      (case_arm next t) z)))
      (sym (fold-roll-CaseArm Acts Branched Labelled (carrying.stmt_step call s) (carrying.branch_step call s) (carrying.case_step call s) z)) h)

  pub stmt_into : (x : Stmt) → ActsInto d (stmt call s x) (stmt next t x)
  stmt_into = ind-Stmt StmtInto BranchInto ArmInto
      (λ x y is. subst (λ z. StmtInto (roll-Stmt z)) is (stmt_rolled
      (map-Stmt Child BranchChild ArmChild Stmt Branch CaseArm (λ x. x.0) (λ x. x.0) (λ x. x.0) y) (stmt_layer _ _ (layer y))))
      (λ x y is. subst (λ z. BranchInto (roll-Branch z)) is (branch_rolled
      (map-Branch Child BranchChild ArmChild Stmt Branch CaseArm (λ x. x.0) (λ x. x.0) (λ x. x.0) y) (branch_layer _ y.arm.1)))
      (λ x y is. subst (λ z. ArmInto (roll-CaseArm z)) is (arm_rolled
      (map-CaseArm Child BranchChild ArmChild Stmt Branch CaseArm (λ x. x.0) (λ x. x.0) (λ x. x.0) y) (arm_layer _ y.arm.1)))

  pub stmts_into : (xs : List Stmt) → EachActs d (map (stmt call s) xs) (map (stmt next t) xs)
  stmts_into [] = tt
  stmts_into (x ∷ xs) = (stmt_into x, stmts_into xs)
