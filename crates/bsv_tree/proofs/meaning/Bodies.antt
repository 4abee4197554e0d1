-- Every statement does what it means.
use Rattle.std.proofs.Common.{ℕ, true, false, List, [], ◌∷◌, ◌-◌, length, map, Some, None, sym, ap, subst}
use Rattle.bsv_lemmas.proofs.Choices.{same_ok}
use Rattle.bsv_fail.specs.Given.{◌>>=◌}
use Rattle.bsv_types.specs.Expressions.{expr_type}
use Rattle.bsv_types.specs.Kinds.{kind}
use Rattle.bsv_types.specs.declared.expressions.Expr.{Expr}
use Rattle.bsv_types.specs.declared.expressions.Place.{Place}
use Rattle.bsv_types.specs.declared.statements.Branch.{Branch, roll-Branch, map-Branch, fold-roll-Branch}
use Rattle.bsv_types.specs.declared.statements.CaseArm.{CaseArm, roll-CaseArm, map-CaseArm, fold-roll-CaseArm}
use Rattle.bsv_types.specs.declared.statements.Condition.{Condition}
use Rattle.bsv_types.specs.declared.statements.Condition.TheVariants as condition
use Rattle.bsv_types.specs.declared.statements.Head.{Head}
use Rattle.bsv_types.specs.declared.statements.Stmt.{Stmt, roll-Stmt, ind-Stmt, map-Stmt, fold-roll-Stmt}
use Rattle.bsv_types.specs.declared.statements.Stmt.TheOpen.{Stmt-F, Branch-F, CaseArm-F}
use Rattle.bsv_tree.specs.declared.values.Local.{Local}
use Rattle.bsv_tree.specs.declared.values.Work.{Work}
use Rattle.bsv_tree.specs.tree.Contexts.{Context, place_in_body, is_integer}
use Rattle.bsv_tree.specs.tree.Widths.{width}
use Rattle.bsv_tree.specs.carrying.Calls.{Caller}
use Rattle.bsv_tree.specs.carrying.Carrying as carrying
use Rattle.bsv_tree.specs.carrying.Carrying.{Acts, Branched, Labelled}
use Rattle.bsv_tree.specs.carrying.Working.{counted}
use Rattle.bsv_tree.specs.meaning.Evaluation.{Results, yields}
use Rattle.bsv_tree.specs.meaning.Control as control
use Rattle.bsv_tree.specs.meaning.Meaning as meaning
use Rattle.bsv_tree.specs.meaning.Meaning.{Calling}
use Rattle.bsv_tree.proofs.meaning.Same.{AllHold, Same, here, got}
use Rattle.bsv_tree.proofs.meaning.Pieces.{counted_is, nothing_more, from_alike, alike_long, alike_ran}
use Rattle.bsv_tree.proofs.meaning.Expressions.{Carries, CallsSame}
use Rattle.bsv_tree.proofs.meaning.Methods.{acted_is}
use Rattle.bsv_tree.proofs.meaning.Trees.{ExprSame, PlaceSame, expr_same, place_same, exprs_same}
use Rattle.bsv_tree.proofs.meaning.Statements.{Kept, Does, AllDo, kept_all, run_does, inside_does, declares, assigns, acts}
use Rattle.bsv_tree.proofs.meaning.Tails.{Exactly}
use Rattle.bsv_tree.proofs.meaning.Tests.{Tests, AllTest}
use Rattle.bsv_tree.proofs.meaning.ChainsKept.{chain_does}
use Rattle.bsv_tree.proofs.meaning.Conditions.{inside_exactly, expression_tests, matches_tests}
use Rattle.bsv_tree.proofs.meaning.Loops.{loop_does}
use Rattle.bsv_tree.proofs.meaning.StaticCases.{Labels, AllLabels}
use Rattle.bsv_tree.proofs.meaning.Cases.{case_does, labels_same}

module _ (r : Results) where
  -- where nothing is to be done, or something after which the same variables are there
  nothing_exactly : Exactly r (carrying.or_nothing None) (control.or_none None)
  nothing_exactly = record {
    does = record {
      kept = λ vs w ts v e. subst (λ (o : List Local × Work). Kept vs o.0) (same_ok (vs, w) (ts, v) e) (kept_all vs);
      does = λ p ws n k vs us w long hold ts v e.
          subst (λ (o : List Local × Work). Same r p ws n k (λ W xs. AllHold W o.0 xs) w o.1 (here r p ws n k w (yields us))) (same_ok (vs, w) (ts, v) e)
          (nothing_more r p ws n k (λ W xs. AllHold W vs xs) w long us hold);
    };
    exact = λ vs w ts v e. ap (λ (o : List Local × Work). length o.0) (sym (same_ok (vs, w) (ts, v) e));
  }

  something_exactly : (a : Acts) (m : control.Acts) → Does r a m → Exactly r (carrying.or_nothing (Some a)) (control.or_none (Some m))
  something_exactly a m h =
      let it = inside_exactly r a m h in
      record { does = record { kept = λ vs w ts v e. it.does.kept vs w ts v e; does = λ p ws n k vs us w long hold ts v e. it.does.does p ws n k vs us w long hold ts v e }; exact = λ vs w ts v e. it.exact vs w ts v e }

  -- the weight in front of a statement
  counted_does : (a : Acts) (m : control.Acts) → Does r a m → Does r (λ vs w. counted w 1 >>= λ w. a vs w) m
  counted_does a m h = record {
    kept = λ vs w ts v e. let g = got (counted w 1) (λ w. a vs w) (ts, v) e in h.kept vs g.0 ts v g.2;
    does = λ p ws n k vs us w long hold ts v e.
        let g = got (counted w 1) (λ w. a vs w) (ts, v) e in
        let like = counted_is w 1 g.0 g.1 in
        let hold' = subst (λ W. AllHold W vs us) (ap (λ o. o.words) (sym (alike_ran r p ws n k w g.0 like))) hold in
        from_alike r p ws n k (λ W xs. AllHold W ts xs) w g.0 v (m us) like (h.does p ws n k vs us g.0 (alike_long r p ws n k w g.0 like long) hold' ts v g.2);
  }

module _ (r : Results) (call : Caller) (calling : Calling) (calls_same : CallsSame r call calling) (site : Context) where
  -- ---- what statements are made of

  expr_carries : (e : Expr) → Carries r (carrying.expr call site e) (meaning.expr r calling site e)
  unfolding ExprSame
  expr_carries e = (expr_same r call calling calls_same site e).carries

  -- a call of an action method
  act_carries : (p : Place) (number : ℕ) (xs : List Expr)
      → Carries r (carrying.act call site (carrying.place call site p) number (map (carrying.expression call site) xs))
      (meaning.calls r calling site true (meaning.place r calling site p) number (map (meaning.expression r calling site) xs))
  unfolding Carries PlaceSame
  act_carries q number xs p ws n k vs us w long hold x v e =
      acted_is r call calling calls_same site p ws n k (map (carrying.expression call site) xs) (map (meaning.expression r calling site) xs) (exprs_same r call calling calls_same site xs) vs us
      (carrying.place call site q) (meaning.place r calling site q) (place_same r call calling calls_same site q) number w long hold x v e

  -- a branch, whose arm does what it means
  branch_tests : (c : Condition) (a : Acts) (m : control.Acts) → Does r a m
      → Tests r (record { asks = carrying.asked call site c; arm = a }) (record { asks = meaning.asks r calling site c; arm = m })
  unfolding carrying.asked
  branch_tests (condition.Test e) a m h = expression_tests r (carrying.expr call site e) (meaning.expr r calling site e) (expr_carries e) a m h
  branch_tests (condition.Matches e) a m h =
      matches_tests r (carrying.expr call site e) (meaning.expr r calling site e) (expr_carries e) a m h (width site.shapes (kind (expr_type e)) - 1)

  -- a loop, whose body does what it means
  loop_tied : (h : Head) (a : Acts) (m : control.Acts) → Does r a m → Does r (λ vs w. carrying.loop_of call site h a vs w) (λ us. meaning.loop r calling site h m us)
  unfolding carrying.loop_of carrying.most_turns
  loop_tied h a m d =
      loop_does r call site (carrying.expr call site h.condition) (meaning.expr r calling site h.condition) (expr_carries h.condition)
      (carrying.expr call site h.step) (meaning.expr r calling site h.step) (expr_carries h.step) (place_in_body site h.stepped) a m d
      (carrying.expr call site h.first) (meaning.expr r calling site h.first) (expr_carries h.first) 4096

  -- ---- all statements

  unfoldable StmtSame : Stmt → Type 0
  StmtSame x = Does r (carrying.stmt call site x) (meaning.stmt r calling site x)

  BranchSame : Branch → Type 0
  BranchSame x = Tests r (carrying.branch call site x) (meaning.branch r calling site x)

  ArmSame : CaseArm → Type 0
  ArmSame x = Labels r (carrying.case_arm call site x) (meaning.case_arm r calling site x)

  abbrev Child : Type 0
  Child = (x : Stmt) × StmtSame x

  abbrev BranchChild : Type 0
  BranchChild = (x : Branch) × BranchSame x

  abbrev ArmChild : Type 0
  ArmChild = (x : CaseArm) × ArmSame x

  each : (xs : List Child) → AllDo r (map (carrying.stmt call site) (map (λ (x : Child). x.0) xs)) (map (meaning.stmt r calling site) (map (λ (x : Child). x.0) xs))
  unfolding StmtSame
  each [] = tt
  each (x ∷ xs) = (x.1, each xs)

  each_branch : (xs : List BranchChild) → AllTest r (map (carrying.branch call site) (map (λ (x : BranchChild). x.0) xs)) (map (meaning.branch r calling site) (map (λ (x : BranchChild). x.0) xs))
  unfolding BranchSame
  each_branch [] = tt
  each_branch (x ∷ xs) = (x.1, each_branch xs)

  each_arm : (xs : List ArmChild) → AllLabels r (map (carrying.case_arm call site) (map (λ (x : ArmChild). x.0) xs)) (map (meaning.case_arm r calling site) (map (λ (x : ArmChild). x.0) xs))
  unfolding ArmSame
  each_arm [] = tt
  each_arm (x ∷ xs) = (x.1, each_arm xs)

  -- the parts of a statement, as they are carried out and as they are meant
  abbrev carried_parts : Stmt-F Stmt Branch CaseArm → Stmt-F Acts Branched Labelled
  carried_parts y = map-Stmt Stmt Branch CaseArm Acts Branched Labelled (carrying.stmt call site) (carrying.branch call site) (carrying.case_arm call site) y

  abbrev meant_parts : Stmt-F Stmt Branch CaseArm → Stmt-F control.Acts control.Branched meaning.Labelled
  meant_parts y = map-Stmt Stmt Branch CaseArm control.Acts control.Branched meaning.Labelled (meaning.stmt r calling site) (meaning.branch r calling site) (meaning.case_arm r calling site) y

  -- one layer, whose parts do what they mean
  layer : (y : Stmt-F Child BranchChild ArmChild)
      → (let z = map-Stmt Child BranchChild ArmChild Stmt Branch CaseArm (λ x. x.0) (λ x. x.0) (λ x. x.0) y in
      Does r (λ vs w. carrying.stmt_case call site (carried_parts z) vs w) (λ us. meaning.stmt_step r calling site (meant_parts z) us))
  unfolding StmtSame
  layer (Stmt-F.Declare t e) = declares r (carrying.expr call site e) (meaning.expr r calling site e) (expr_carries e) (is_integer (kind t))
  layer (Stmt-F.Assign level e) = assigns r (carrying.expr call site e) (meaning.expr r calling site e) (expr_carries e) (place_in_body site level)
  layer (Stmt-F.Act p number xs) = acts r _ _ (act_carries p number xs)
  layer (Stmt-F.Bind t p number xs) = declares r _ _ (act_carries p number xs) false
  layer (Stmt-F.Return e) = assigns r (carrying.expr call site e) (meaning.expr r calling site e) (expr_carries e) 0
  layer Stmt-F.NoAction = (let it = (nothing_exactly r).does in record { kept = λ vs w ts v e. it.kept vs w ts v e; does = λ p ws n k vs us w long hold ts v e. it.does p ws n k vs us w long hold ts v e })
  layer (Stmt-F.Block xs) = inside_does r _ _ (run_does r _ _ (each xs))
  layer (Stmt-F.If bs None) = (chain_does r _ _ (each_branch bs) _ _ (nothing_exactly r)).does
  layer (Stmt-F.If bs (Some x)) = (chain_does r _ _ (each_branch bs) _ _ (something_exactly r (carrying.stmt call site x.0) (meaning.stmt r calling site x.0) x.1)).does
  layer (Stmt-F.For h x) = loop_tied h (carrying.stmt call site x.0) (meaning.stmt r calling site x.0) x.1
  layer (Stmt-F.Case e xs None) =
      (case_does r call calling site _ _ (each_arm xs) _ _ (nothing_exactly r) (carrying.expr call site e) (meaning.expr r calling site e) (expr_carries e)).does
  layer (Stmt-F.Case e xs (Some x)) =
      (case_does r call calling site _ _ (each_arm xs) _ _ (something_exactly r (carrying.stmt call site x.0) (meaning.stmt r calling site x.0) x.1)
      (carrying.expr call site e) (meaning.expr r calling site e) (expr_carries e)).does

  -- ---- the trees

  stmt_rolled : (z : Stmt-F Stmt Branch CaseArm)
      → Does r (λ vs w. carrying.stmt_case call site (carried_parts z) vs w) (λ us. meaning.stmt_step r calling site (meant_parts z) us) → StmtSame (roll-Stmt z)
  unfolding carrying.stmt carrying.branch carrying.case_arm meaning.stmt meaning.branch meaning.case_arm StmtSame
  stmt_rolled z h =
      subst (λ m. Does r (carrying.stmt call site (roll-Stmt z)) m)
      (sym (fold-roll-Stmt control.Acts control.Branched meaning.Labelled (meaning.stmt_step r calling site) (meaning.branch_step r calling site) (meaning.case_step r calling site) z))
      (subst (λ a. Does r a (λ us. meaning.stmt_step r calling site (meant_parts z) us))
      (sym (fold-roll-Stmt Acts Branched Labelled (carrying.stmt_step call site) (carrying.branch_step call site) (carrying.case_step call site) z))
      (counted_does r _ _ h))

  branch_rolled : (z : Branch-F Stmt Branch CaseArm) → StmtSame z.arm → BranchSame (roll-Branch z)
  unfolding carrying.stmt carrying.branch carrying.case_arm meaning.stmt meaning.branch meaning.case_arm StmtSame BranchSame
  branch_rolled z h =
      subst (λ m. Tests r (carrying.branch call site (roll-Branch z)) m)
      (sym (fold-roll-Branch control.Acts control.Branched meaning.Labelled (meaning.stmt_step r calling site) (meaning.branch_step r calling site) (meaning.case_step r calling site) z))
      (subst (λ b. Tests r b (record { asks = meaning.asks r calling site z.condition; arm = meaning.stmt r calling site z.arm }))
      (sym (fold-roll-Branch Acts Branched Labelled (carrying.stmt_step call site) (carrying.branch_step call site) (carrying.case_step call site) z))
      (branch_tests z.condition (carrying.stmt call site z.arm) (meaning.stmt r calling site z.arm) h))

  arm_rolled : (z : CaseArm-F Stmt Branch CaseArm) → StmtSame z.arm → ArmSame (roll-CaseArm z)
  unfolding carrying.stmt carrying.branch carrying.case_arm meaning.stmt meaning.branch meaning.case_arm StmtSame ArmSame
  arm_rolled z h =
      subst (λ m. Labels r (carrying.case_arm call site (roll-CaseArm z)) m)
      (sym (fold-roll-CaseArm control.Acts control.Branched meaning.Labelled (meaning.stmt_step r calling site) (meaning.branch_step r calling site) (meaning.case_step r calling site) z))
      (subst (λ b. Labels r b (record { labels = meaning.all (map (meaning.expression r calling site) z.labels); arm = meaning.stmt r calling site z.arm }))
      (sym (fold-roll-CaseArm Acts Branched Labelled (carrying.stmt_step call site) (carrying.branch_step call site) (carrying.case_step call site) z))
      (labels_same r call calling site calls_same z.labels (carrying.stmt call site z.arm) (meaning.stmt r calling site z.arm) (inside_exactly r (carrying.stmt call site z.arm) (meaning.stmt r calling site z.arm) h)))

  stmt_same : (x : Stmt) → StmtSame x
  stmt_same = ind-Stmt StmtSame BranchSame ArmSame
      (λ x y is. subst (λ z. StmtSame (roll-Stmt z)) is (stmt_rolled (map-Stmt Child BranchChild ArmChild Stmt Branch CaseArm (λ x. x.0) (λ x. x.0) (λ x. x.0) y) (layer y)))
      (λ x y is. subst (λ z. BranchSame (roll-Branch z)) is (branch_rolled (map-Branch Child BranchChild ArmChild Stmt Branch CaseArm (λ x. x.0) (λ x. x.0) (λ x. x.0) y) y.arm.1))
      (λ x y is. subst (λ z. ArmSame (roll-CaseArm z)) is (arm_rolled (map-CaseArm Child BranchChild ArmChild Stmt Branch CaseArm (λ x. x.0) (λ x. x.0) (λ x. x.0) y) y.arm.1))

  -- every statement
  pub stmt_does : (x : Stmt) → Does r (carrying.stmt call site x) (meaning.stmt r calling site x)
  unfolding StmtSame
  stmt_does x = stmt_same x
