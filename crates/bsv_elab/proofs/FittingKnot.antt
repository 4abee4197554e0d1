-- Each statement of a module keeps what is in scope as its types say.
use Rattle.std.proofs.Common.{◌≡◌, ℕ, List, [], ◌∷◌, map, Some, None, sym, subst}
use Rattle.std.specs.Prelude.{slice_get}
use Rattle.bsv_types.specs.declared.modules.Module.{Module}
use Rattle.bsv_types.specs.declared.modules.ModuleStmt.{ModuleStmt, roll-ModuleStmt, ind-ModuleStmt, map-ModuleStmt, fold-roll-ModuleStmt}
use Rattle.bsv_types.specs.declared.modules.ModuleStmt.TheOpen.{ModuleStmt-F, ModuleBranch-F}
use Rattle.bsv_types.specs.declared.modules.ModuleBranch.{ModuleBranch, roll-ModuleBranch, fold-roll-ModuleBranch}
use Rattle.bsv_types.specs.declared.typed.Typed.{Typed}
use Rattle.bsv_types.specs.Modules as rules
use Rattle.bsv_types.specs.Modules.{header, numbers_step, own_method, module_stmt_run, module_stmt_step, module_branch_step}
use Rattle.bsv_types.specs.Statements.{Run}
use Rattle.bsv_types.specs.declared.modules.ModuleBranch.{fold-ModuleBranch}
use Rattle.bsv_tree.specs.tree.Trees.{world}
use Rattle.bsv_elab.specs.Statics.{Here, Builds, truth_in}
use Rattle.bsv_elab.specs.Making.{Bodies}
use Rattle.bsv_elab.specs.Bodies.{Branched, stmt_step, branch_step, stmt, branch}
use Rattle.bsv_elab.proofs.Directly.{method_numbers, branch_numbers}
use Rattle.bsv_elab.proofs.FittingStates.{Preserves, weighed_good}
use Rattle.bsv_elab.proofs.FittingMade.{home, BodiesRight}
use Rattle.bsv_elab.proofs.FittingStatements.{instance_good, array_good, place_good, declare_good, set_good, rule_good, method_good}
use Rattle.bsv_elab.proofs.FittingNested.{ArmGood, arm_good, GoodStmt, GoodBranch, EachGood, EachArm, block_good, if_good, for_good}

module _ (t : Typed) (m : Module) (number : ℕ) (path around : List ℕ) (first : ℕ) (bodies : Bodies) (right : BodiesRight t first bodies) (of : slice_get t.modules number ≡ Some m) where
  abbrev here : Here
  here = home t number path around first

  abbrev site : rules.ModuleContext
  site = rules.site_of (world t) (map header t.modules) m

  abbrev branch_run : ModuleBranch → Run
  branch_run = fold-ModuleBranch Run Run (module_stmt_step site) (module_branch_step site)

  abbrev Good : ModuleStmt → Type 0
  Good = GoodStmt t m number path around first bodies right

  abbrev GoodArm : ModuleBranch → Type 0
  GoodArm = GoodBranch t m number path around first bodies right

  -- ---- one layer

  abbrev built_layer : ModuleStmt-F ModuleStmt ModuleBranch → Builds
  built_layer z = stmt_step bodies here (map-ModuleStmt ModuleStmt ModuleBranch Builds (Branched bodies here) (stmt bodies here) (branch bodies here) z)

  abbrev typed_layer : ModuleStmt-F ModuleStmt ModuleBranch → Run
  typed_layer z = module_stmt_step site (map-ModuleStmt ModuleStmt ModuleBranch Run Run (module_stmt_run site) branch_run z)

  abbrev numbers_layer : ModuleStmt-F ModuleStmt ModuleBranch → List ℕ
  numbers_layer z = numbers_step own_method (map-ModuleStmt ModuleStmt ModuleBranch (List ℕ) (List ℕ) method_numbers branch_numbers z)

  abbrev GoodLayer : ModuleStmt-F ModuleStmt ModuleBranch → Type 0
  GoodLayer z = Preserves t m (built_layer z) (typed_layer z) (numbers_layer z)

  rolled : (z : ModuleStmt-F ModuleStmt ModuleBranch) → GoodLayer z → Good (roll-ModuleStmt z)
  unfolding stmt branch
  rolled z h =
      subst (λ (a : Builds). Preserves t m a (module_stmt_run site (roll-ModuleStmt z)) (method_numbers (roll-ModuleStmt z))) (sym (fold-roll-ModuleStmt Builds (Branched bodies here) (stmt_step bodies here) (branch_step bodies here) z))
      (subst (λ (x : Run). Preserves t m (built_layer z) x (method_numbers (roll-ModuleStmt z))) (sym (fold-roll-ModuleStmt Run Run (module_stmt_step site) (module_branch_step site) z))
      (subst (λ (ns : List ℕ). Preserves t m (built_layer z) (typed_layer z) ns) (sym (fold-roll-ModuleStmt (List ℕ) (List ℕ) (numbers_step own_method) (λ b. b.arm) z)) h))

  rolled_arm : (z : ModuleBranch-F ModuleStmt ModuleBranch) → Good z.arm → GoodArm (roll-ModuleBranch z)
  unfolding stmt branch
  rolled_arm z h =
      subst (λ (b : Branched bodies here). ArmGood t m bodies here b (branch_run (roll-ModuleBranch z)) (branch_numbers (roll-ModuleBranch z))) (sym (fold-roll-ModuleBranch Builds (Branched bodies here) (stmt_step bodies here) (branch_step bodies here) z))
      (subst (λ (x : Run). ArmGood t m bodies here (record { asks = truth_in here z.condition; arm = stmt bodies here z.arm }) x (branch_numbers (roll-ModuleBranch z))) (sym (fold-roll-ModuleBranch Run Run (module_stmt_step site) (module_branch_step site) z))
      (subst (λ (ns : List ℕ). ArmGood t m bodies here (record { asks = truth_in here z.condition; arm = stmt bodies here z.arm }) (module_branch_step site (record { condition = z.condition; arm = module_stmt_run site z.arm })) ns)
      (sym (fold-roll-ModuleBranch (List ℕ) (List ℕ) (numbers_step own_method) (λ b. b.arm) z))
      (arm_good t m bodies here z.condition (stmt bodies here z.arm) (module_stmt_run site z.arm) (method_numbers z.arm) h)))

  -- ---- the knot

  abbrev Child : Type 0
  Child = (x : ModuleStmt) × Good x

  abbrev ArmChild : Type 0
  ArmChild = (b : ModuleBranch) × GoodArm b

  each : (xs : List Child) → EachGood t m number path around first bodies right (map (λ (x : Child). x.0) xs)
  each [] = tt
  each (x ∷ xs) = (x.1, each xs)

  each_arm : (bs : List ArmChild) → EachArm t m number path around first bodies right (map (λ (b : ArmChild). b.0) bs)
  each_arm [] = tt
  each_arm (b ∷ bs) = (b.1, each_arm bs)

  layer : (y : ModuleStmt-F Child ArmChild) → GoodLayer (map-ModuleStmt Child ArmChild ModuleStmt ModuleBranch (λ x. x.0) (λ x. x.0) y)
  layer (ModuleStmt-F.Instance ty name x) = weighed_good t m _ _ _ (instance_good t m number path around first bodies right ty name x)
  layer (ModuleStmt-F.Array ty name x) = weighed_good t m _ _ _ (array_good t m number path around first bodies right ty name x)
  layer (ModuleStmt-F.Place level i x) = weighed_good t m _ _ _ (place_good t m number path around first bodies right level i x)
  layer (ModuleStmt-F.Declare ty name x) = weighed_good t m _ _ _ (declare_good t m number path around first bodies right ty name x)
  layer (ModuleStmt-F.Assign level x) = weighed_good t m _ _ _ (set_good t m number path around first bodies right level x)
  layer (ModuleStmt-F.Block xs) = weighed_good t m _ _ _ (block_good t m number path around first bodies right (map (λ (x : Child). x.0) xs) (each xs))
  layer (ModuleStmt-F.If bs None) = weighed_good t m _ _ _ (if_good t m number path around first bodies right (map (λ (b : ArmChild). b.0) bs) None (each_arm bs) tt)
  layer (ModuleStmt-F.If bs (Some x)) = weighed_good t m _ _ _ (if_good t m number path around first bodies right (map (λ (b : ArmChild). b.0) bs) (Some x.0) (each_arm bs) x.1)
  layer (ModuleStmt-F.For head x) = weighed_good t m _ _ _ (for_good t m number path around first bodies right head (stmt bodies here x.0) (module_stmt_run site x.0) (method_numbers x.0) x.1)
  layer (ModuleStmt-F.Rule n) = weighed_good t m _ _ _ (rule_good t m number path around first of n)
  layer (ModuleStmt-F.Method n) = weighed_good t m _ _ _ (method_good t m number path around first of n)

  pub stmt_good : (x : ModuleStmt) → Good x
  stmt_good = ind-ModuleStmt (λ x. Good x) (λ b. GoodArm b)
      (λ x y is. subst (λ z. Good (roll-ModuleStmt z)) is (rolled (map-ModuleStmt Child ArmChild ModuleStmt ModuleBranch (λ x. x.0) (λ x. x.0) y) (layer y)))
      (λ x y is. subst (λ z. GoodArm (roll-ModuleBranch z)) is (rolled_arm _ y.arm.1))

  pub all_good : (xs : List ModuleStmt) → EachGood t m number path around first bodies right xs
  all_good [] = tt
  all_good (x ∷ xs) = (stmt_good x, all_good xs)
