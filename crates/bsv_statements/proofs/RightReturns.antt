-- A typed body returns where the written one does, and nowhere where nothing can be returned.
use Rattle.std.proofs.Common.{◌≡◌, ◌∙◌, true, List, [], ◌∷◌, map, Some, None, Ok, refl, sym, ap, subst}
use Rattle.bsv_ast.specs.declared.statements.Stmt.{Stmt as Written, roll-Stmt, ind-Stmt, map-Stmt, fold-roll-Stmt}
use Rattle.bsv_ast.specs.declared.statements.Stmt.TheOpen.{Stmt-F, Branch-F, CaseArm-F}
use Rattle.bsv_ast.specs.declared.statements.Branch.{Branch as WrittenBranch, roll-Branch, map-Branch, fold-roll-Branch}
use Rattle.bsv_ast.specs.declared.statements.CaseArm.{CaseArm as WrittenCaseArm, roll-CaseArm, map-CaseArm, fold-roll-CaseArm}
use Rattle.bsv_types.specs.declared.statements.Stmt.{Stmt}
use Rattle.bsv_types.specs.Statements as rules
use Rattle.bsv_types.specs.Statements.{goes_on, returned, Ends, agree, all_agree, or_goes_on, sequence}
use Rattle.bsv_statements.specs.Bodies.{Scopes, Task, Run, Arm, Labelled, all_runs, stmt_step, arm_step, labelled_step, stmt_run, arm_of, labelled_of}
use Rattle.bsv_statements.specs.Returns.{ends_step, stmt_ends, is_returned, returns}
use Rattle.bsv_statements.proofs.RightEndings.{Ending, EachEnding, runs_end, block_ending, write_ending, act_ending, bind_ending, declare_ending, assign_ending, return_ending, no_return, none_ending, EachArm, if_ending, for_ending, EachLabelled, case_ending}
use Rattle.bsv_statements.specs.ReturnsSeen.{arm_ends, case_ends}

-- every part goes on
abbrev ons : {A : Type 0} → List A → List Ends
ons [] = []
ons (x ∷ xs) = Some goes_on ∷ ons xs

sequence_on : {A : Type 0} (xs : List A) → sequence (ons xs) ≡ Some goes_on
sequence_on [] = refl
sequence_on (x ∷ []) = refl
sequence_on (x ∷ y ∷ ys) = sequence_on (y ∷ ys)

agree_on : {A : Type 0} (xs : List A) → all_agree (ons xs) (Some goes_on) ≡ Some goes_on
agree_on [] = refl
agree_on (x ∷ xs) = ap (agree (Some goes_on)) (agree_on xs)

module _ (t : Task) where
  -- ---- the paths end as those of the written statement

  abbrev Child : Type 0
  Child = (x : Written) × Ending (stmt_run t x) (stmt_ends x)

  abbrev ArmChild : Type 0
  ArmChild = (x : WrittenBranch) × Ending (arm_of t x).run (arm_ends x)

  abbrev LabelledChild : Type 0
  LabelledChild = (x : WrittenCaseArm) × Ending (labelled_of t x).run (case_ends x)

  each : (xs : List Child) → EachEnding (map (stmt_run t) (map (λ (x : Child). x.0) xs)) (map stmt_ends (map (λ (x : Child). x.0) xs))
  each [] = tt
  each (x ∷ xs) = (x.1, each xs)

  each_arm : (xs : List ArmChild) → EachArm t (map (arm_of t) (map (λ (x : ArmChild). x.0) xs)) (map arm_ends (map (λ (x : ArmChild). x.0) xs))
  each_arm [] = tt
  each_arm (x ∷ xs) = (x.1, each_arm xs)

  each_labelled : (xs : List LabelledChild) → EachLabelled t (map (labelled_of t) (map (λ (x : LabelledChild). x.0) xs)) (map case_ends (map (λ (x : LabelledChild). x.0) xs))
  each_labelled [] = tt
  each_labelled (x ∷ xs) = (x.1, each_labelled xs)

  layer : (y : Stmt-F Child ArmChild LabelledChild) →
      Ending (stmt_step t (map-Stmt Written WrittenBranch WrittenCaseArm Run Arm Labelled (stmt_run t) (arm_of t) (labelled_of t) (map-Stmt Child ArmChild LabelledChild Written WrittenBranch WrittenCaseArm (λ x. x.0) (λ x. x.0) (λ x. x.0) y)))
      (ends_step (map-Stmt Written WrittenBranch WrittenCaseArm Ends Ends Ends stmt_ends arm_ends case_ends (map-Stmt Child ArmChild LabelledChild Written WrittenBranch WrittenCaseArm (λ x. x.0) (λ x. x.0) (λ x. x.0) y)))
  layer (Stmt-F.Write s p e) = write_ending t s p e
  layer (Stmt-F.Call s call) = act_ending t s call
  layer (Stmt-F.Bind s d name call) = bind_ending t s d name.name call
  layer (Stmt-F.Declare s d) = declare_ending t s d
  layer (Stmt-F.Assign s name e) = assign_ending t s name.name e
  layer (Stmt-F.Return s e) = return_ending t s e
  layer (Stmt-F.NoAction s) = none_ending t
  layer (Stmt-F.Block s xs) = block_ending _ _ (each xs)
  layer (Stmt-F.If s xs None) = if_ending t s _ _ None None (each_arm xs) tt
  layer (Stmt-F.If s xs (Some x)) = if_ending t s _ _ (Some (stmt_run t x.0)) (Some (stmt_ends x.0)) (each_arm xs) x.1
  layer (Stmt-F.For s h x) = for_ending t s h (stmt_run t x.0) (stmt_ends x.0) x.1
  layer (Stmt-F.Case s e xs None) = case_ending t s e _ _ None None (each_labelled xs) tt
  layer (Stmt-F.Case s e xs (Some x)) = case_ending t s e _ _ (Some (stmt_run t x.0)) (Some (stmt_ends x.0)) (each_labelled xs) x.1

  stmt_ending : (z : Stmt-F Written WrittenBranch WrittenCaseArm) →
      Ending (stmt_step t (map-Stmt Written WrittenBranch WrittenCaseArm Run Arm Labelled (stmt_run t) (arm_of t) (labelled_of t) z)) (ends_step (map-Stmt Written WrittenBranch WrittenCaseArm Ends Ends Ends stmt_ends arm_ends case_ends z)) →
      Ending (stmt_run t (roll-Stmt z)) (stmt_ends (roll-Stmt z))
  stmt_ending z h =
      subst (λ e. Ending (stmt_run t (roll-Stmt z)) e) (sym (fold-roll-Stmt Ends Ends Ends ends_step (λ b. b.arm) (λ a. a.arm) z))
      (subst (λ r. Ending r (ends_step (map-Stmt Written WrittenBranch WrittenCaseArm Ends Ends Ends stmt_ends arm_ends case_ends z))) (sym (fold-roll-Stmt Run Arm Labelled (stmt_step t) arm_step labelled_step z)) h)

  arm_ending : (z : Branch-F Written WrittenBranch WrittenCaseArm) → Ending (stmt_run t z.arm) (stmt_ends z.arm) → Ending (arm_of t (roll-Branch z)).run (arm_ends (roll-Branch z))
  arm_ending z h =
      subst (λ e. Ending (arm_of t (roll-Branch z)).run e) (sym (fold-roll-Branch Ends Ends Ends ends_step (λ b. b.arm) (λ a. a.arm) z))
      (subst (λ (r : Arm). Ending r.run (stmt_ends z.arm)) (sym (fold-roll-Branch Run Arm Labelled (stmt_step t) arm_step labelled_step z)) h)

  labelled_ending : (z : CaseArm-F Written WrittenBranch WrittenCaseArm) → Ending (stmt_run t z.arm) (stmt_ends z.arm) → Ending (labelled_of t (roll-CaseArm z)).run (case_ends (roll-CaseArm z))
  labelled_ending z h =
      subst (λ e. Ending (labelled_of t (roll-CaseArm z)).run e) (sym (fold-roll-CaseArm Ends Ends Ends ends_step (λ b. b.arm) (λ a. a.arm) z))
      (subst (λ (r : Labelled). Ending r.run (stmt_ends z.arm)) (sym (fold-roll-CaseArm Run Arm Labelled (stmt_step t) arm_step labelled_step z)) h)

  ends_same : (x : Written) → Ending (stmt_run t x) (stmt_ends x)
  ends_same = ind-Stmt (λ x. Ending (stmt_run t x) (stmt_ends x)) (λ x. Ending (arm_of t x).run (arm_ends x)) (λ x. Ending (labelled_of t x).run (case_ends x))
      (λ x y is. subst (λ z. Ending (stmt_run t (roll-Stmt z)) (stmt_ends (roll-Stmt z))) is
      (stmt_ending (map-Stmt Child ArmChild LabelledChild Written WrittenBranch WrittenCaseArm (λ x. x.0) (λ x. x.0) (λ x. x.0) y) (layer y)))
      (λ x y is. subst (λ z. Ending (arm_of t (roll-Branch z)).run (arm_ends (roll-Branch z))) is
      (arm_ending (map-Branch Child ArmChild LabelledChild Written WrittenBranch WrittenCaseArm (λ x. x.0) (λ x. x.0) (λ x. x.0) y) y.arm.1))
      (λ x y is. subst (λ z. Ending (labelled_of t (roll-CaseArm z)).run (case_ends (roll-CaseArm z))) is
      (labelled_ending (map-CaseArm Child ArmChild LabelledChild Written WrittenBranch WrittenCaseArm (λ x. x.0) (λ x. x.0) (λ x. x.0) y) y.arm.1))

  all_same : (xs : List Written) → EachEnding (map (stmt_run t) xs) (map stmt_ends xs)
  all_same [] = tt
  all_same (x ∷ xs) = (ends_same x, all_same xs)

  returned_is : (ys : List Stmt) (e : Ends) → sequence (map rules.stmt_ends ys) ≡ e → rules.returns ys ≡ is_returned e
  returned_is ys None is = rw is
  returned_is ys (Some goes_on) is = rw is
  returned_is ys (Some returned) is = rw is

  -- the typed body returns in each path, once and last, where the written one does
  pub returns_same : (xs : List Written) (ss : Scopes) (q : Scopes × List Stmt) → all_runs (map (stmt_run t) xs) ss ≡ Ok q → rules.returns q.1 ≡ returns xs
  returns_same xs ss q e = returned_is q.1 (sequence (map stmt_ends xs)) (ap sequence (runs_end (map (stmt_run t) xs) (map stmt_ends xs) ss q (all_same xs) e))

  -- ---- where nothing can be returned, every path goes on

  module _ (none : t.result ≡ None) where
    abbrev On : Run → Type 0
    On x = Ending x (Some goes_on)

    abbrev OnChild : Type 0
    OnChild = (x : Written) × On (stmt_run t x)

    abbrev OnArm : Type 0
    OnArm = (x : WrittenBranch) × On (arm_of t x).run

    abbrev OnLabelled : Type 0
    OnLabelled = (x : WrittenCaseArm) × On (labelled_of t x).run

    each_on : (xs : List OnChild) → EachEnding (map (stmt_run t) (map (λ (x : OnChild). x.0) xs)) (ons xs)
    each_on [] = tt
    each_on (x ∷ xs) = (x.1, each_on xs)

    arms_on : (xs : List OnArm) → EachArm t (map (arm_of t) (map (λ (x : OnArm). x.0) xs)) (ons xs)
    arms_on [] = tt
    arms_on (x ∷ xs) = (x.1, arms_on xs)

    labelled_on : (xs : List OnLabelled) → EachLabelled t (map (labelled_of t) (map (λ (x : OnLabelled). x.0) xs)) (ons xs)
    labelled_on [] = tt
    labelled_on (x ∷ xs) = (x.1, labelled_on xs)

    layer_on : (y : Stmt-F OnChild OnArm OnLabelled) →
        On (stmt_step t (map-Stmt Written WrittenBranch WrittenCaseArm Run Arm Labelled (stmt_run t) (arm_of t) (labelled_of t) (map-Stmt OnChild OnArm OnLabelled Written WrittenBranch WrittenCaseArm (λ x. x.0) (λ x. x.0) (λ x. x.0) y)))
    layer_on (Stmt-F.Write s p e) = write_ending t s p e
    layer_on (Stmt-F.Call s call) = act_ending t s call
    layer_on (Stmt-F.Bind s d name call) = bind_ending t s d name.name call
    layer_on (Stmt-F.Declare s d) = declare_ending t s d
    layer_on (Stmt-F.Assign s name e) = assign_ending t s name.name e
    layer_on (Stmt-F.Return s e) = no_return t s e (Some goes_on) none
    layer_on (Stmt-F.NoAction s) = none_ending t
    layer_on (Stmt-F.Block s xs) = subst (Ending _) (sequence_on xs) (block_ending _ (ons xs) (each_on xs))
    layer_on (Stmt-F.If s xs None) = subst (Ending _) (agree_on xs) (if_ending t s _ (ons xs) None None (arms_on xs) tt)
    layer_on (Stmt-F.If s xs (Some x)) = subst (Ending _) (agree_on xs) (if_ending t s _ (ons xs) (Some (stmt_run t x.0)) (Some (Some goes_on)) (arms_on xs) x.1)
    layer_on (Stmt-F.For s h x) = for_ending t s h (stmt_run t x.0) (Some goes_on) x.1
    layer_on (Stmt-F.Case s e xs None) = subst (Ending _) (agree_on xs) (case_ending t s e _ (ons xs) None None (labelled_on xs) tt)
    layer_on (Stmt-F.Case s e xs (Some x)) = subst (Ending _) (agree_on xs) (case_ending t s e _ (ons xs) (Some (stmt_run t x.0)) (Some (Some goes_on)) (labelled_on xs) x.1)

    goes : (x : Written) → On (stmt_run t x)
    goes = ind-Stmt (λ x. On (stmt_run t x)) (λ x. On (arm_of t x).run) (λ x. On (labelled_of t x).run)
        (λ x y is. subst (λ z. On (stmt_run t (roll-Stmt z))) is (subst On (sym (fold-roll-Stmt Run Arm Labelled (stmt_step t) arm_step labelled_step _)) (layer_on y)))
        (λ x y is. subst (λ z. On (arm_of t (roll-Branch z)).run) is (subst (λ (r : Arm). On r.run) (sym (fold-roll-Branch Run Arm Labelled (stmt_step t) arm_step labelled_step _)) y.arm.1))
        (λ x y is. subst (λ z. On (labelled_of t (roll-CaseArm z)).run) is (subst (λ (r : Labelled). On r.run) (sym (fold-roll-CaseArm Run Arm Labelled (stmt_step t) arm_step labelled_step _)) y.arm.1))

    all_go : (xs : List Written) → EachEnding (map (stmt_run t) xs) (ons xs)
    all_go [] = tt
    all_go (x ∷ xs) = (goes x, all_go xs)

    never_is : (ys : List Stmt) → sequence (map rules.stmt_ends ys) ≡ Some goes_on → rules.never_returns ys ≡ true
    never_is ys is = rw is

    -- the typed body returns nowhere
    pub never_same : (xs : List Written) (ss : Scopes) (q : Scopes × List Stmt) → all_runs (map (stmt_run t) xs) ss ≡ Ok q → rules.never_returns q.1 ≡ true
    never_same xs ss q e = never_is q.1 (ap sequence (runs_end (map (stmt_run t) xs) (ons xs) ss q (all_go xs) e) ∙ sequence_on xs)
