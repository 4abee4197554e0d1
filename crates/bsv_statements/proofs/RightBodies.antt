-- What a statement is typed as is in order.
use Rattle.std.proofs.Common.{◌≡◌, true, List, [], ◌∷◌, map, Some, None, Ok, sym, subst}
use Rattle.bsv_ast.specs.declared.statements.Stmt.{Stmt as Written, roll-Stmt, ind-Stmt, map-Stmt, fold-roll-Stmt}
use Rattle.bsv_ast.specs.declared.statements.Stmt.TheOpen.{Stmt-F}
use Rattle.bsv_ast.specs.declared.statements.Branch.{Branch as WrittenBranch, roll-Branch, fold-roll-Branch}
use Rattle.bsv_ast.specs.declared.statements.CaseArm.{CaseArm as WrittenCaseArm, roll-CaseArm, fold-roll-CaseArm}
use Rattle.bsv_types.specs.declared.statements.Stmt.{Stmt}
use Rattle.bsv_types.specs.Expressions.{World}
use Rattle.bsv_types.specs.Statements as rules
use Rattle.bsv_statements.specs.Bodies.{Scopes, Task, Run, Arm, Labelled, stmt_step, arm_step, labelled_step, stmt_run, arm_of, labelled_of, all_runs}
use Rattle.bsv_typing.specs.Laws.{FitsWorld}
use Rattle.bsv_statements.specs.Laws.{ScopesFit, frame_of, typed_task}
use Rattle.bsv_statements.proofs.RightStatements.{typed_run, GoodRun, write_good, act_good, bind_good, declare_good, assign_good, return_good, none_good}
use Rattle.bsv_statements.proofs.RightBlocks.{inner_true, EachRun, all_ran, block_good}
use Rattle.bsv_statements.proofs.RightArms.{ArmGood, EachArm, if_good, for_good, LabelledGood, EachLabelled, case_good}

module _ (t : Task) (w : World) (fits : FitsWorld t.env w) where
  abbrev Child : Type 0
  Child = (x : Written) × GoodRun t w (stmt_run t x)

  abbrev ArmChild : Type 0
  ArmChild = (x : WrittenBranch) × ArmGood t w fits (arm_of t x)

  abbrev LabelledChild : Type 0
  LabelledChild = (x : WrittenCaseArm) × LabelledGood t w fits (labelled_of t x)

  each : (xs : List Child) → EachRun t w (map (stmt_run t) (map (λ (x : Child). x.0) xs))
  each [] = tt
  each (x ∷ xs) = (x.1, each xs)

  each_arm : (xs : List ArmChild) → EachArm t w fits (map (arm_of t) (map (λ (x : ArmChild). x.0) xs))
  each_arm [] = tt
  each_arm (x ∷ xs) = (x.1, each_arm xs)

  each_labelled : (xs : List LabelledChild) → EachLabelled t w fits (map (labelled_of t) (map (λ (x : LabelledChild). x.0) xs))
  each_labelled [] = tt
  each_labelled (x ∷ xs) = (x.1, each_labelled xs)

  -- one layer, whose parts are good
  layer : (y : Stmt-F Child ArmChild LabelledChild) →
      GoodRun t w (stmt_step t (map-Stmt Written WrittenBranch WrittenCaseArm Run Arm Labelled (stmt_run t) (arm_of t) (labelled_of t) (map-Stmt Child ArmChild LabelledChild Written WrittenBranch WrittenCaseArm (λ x. x.0) (λ x. x.0) (λ x. x.0) y)))
  layer (Stmt-F.Write s p e) = write_good t w fits s p e
  layer (Stmt-F.Call s call) = act_good t w fits s call
  layer (Stmt-F.Bind s d name call) = bind_good t w fits s d name.name call
  layer (Stmt-F.Declare s d) = declare_good t w fits s d
  layer (Stmt-F.Assign s name e) = assign_good t w fits s name.name e
  layer (Stmt-F.Return s e) = return_good t w fits s e
  layer (Stmt-F.NoAction s) = none_good t w fits
  layer (Stmt-F.Block s xs) = block_good t w _ (each xs)
  layer (Stmt-F.If s xs None) = if_good t w fits s _ None (each_arm xs) tt
  layer (Stmt-F.If s xs (Some x)) = if_good t w fits s _ (Some (stmt_run t x.0)) (each_arm xs) x.1
  layer (Stmt-F.For s h x) = for_good t w fits s h (stmt_run t x.0) x.1
  layer (Stmt-F.Case s e xs None) = case_good t w fits s e _ None (each_labelled xs) tt
  layer (Stmt-F.Case s e xs (Some x)) = case_good t w fits s e _ (Some (stmt_run t x.0)) (each_labelled xs) x.1

  pub stmt_good : (x : Written) → GoodRun t w (stmt_run t x)
  stmt_good = ind-Stmt (λ x. GoodRun t w (stmt_run t x)) (λ x. ArmGood t w fits (arm_of t x)) (λ x. LabelledGood t w fits (labelled_of t x))
      (λ x y is. subst (λ z. GoodRun t w (stmt_run t (roll-Stmt z))) is (subst (GoodRun t w) (sym (fold-roll-Stmt Run Arm Labelled (stmt_step t) arm_step labelled_step _)) (layer y)))
      (λ x y is. subst (λ z. ArmGood t w fits (arm_of t (roll-Branch z))) is (subst (ArmGood t w fits) (sym (fold-roll-Branch Run Arm Labelled (stmt_step t) arm_step labelled_step _)) y.arm.1))
      (λ x y is. subst (λ z. LabelledGood t w fits (labelled_of t (roll-CaseArm z))) is (subst (LabelledGood t w fits) (sym (fold-roll-CaseArm Run Arm Labelled (stmt_step t) arm_step labelled_step _)) y.arm.1))

  all_good : (xs : List Written) → EachRun t w (map (stmt_run t) xs)
  all_good [] = tt
  all_good (x ∷ xs) = (stmt_good x, all_good xs)

  pub stmts_good : (xs : List Written) (ss : Scopes) (q : Scopes × List Stmt) → ScopesFit w.shapes ss → all_runs (map (stmt_run t) xs) ss ≡ Ok q → rules.stmts_right w (typed_task t) (frame_of ss) q.1 ≡ true
  stmts_good xs ss q fit e =
      let h = all_ran t w (map (stmt_run t) xs) ss q (all_good xs) fit e in
      inner_true (rules.run (map (typed_run t w) q.1)) (frame_of ss) (frame_of q.0) h.typed
