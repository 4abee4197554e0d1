-- What a statement of a module is typed as is in order.
use Rattle.std.proofs.Common.{List, [], ◌∷◌, map, Some, None, sym, subst}
use Rattle.bsv_ast.specs.declared.modules.ModuleStmt.{ModuleStmt as Written, roll-ModuleStmt, out-ModuleStmt, ind-ModuleStmt, map-ModuleStmt, fold-roll-ModuleStmt}
use Rattle.bsv_ast.specs.declared.modules.ModuleStmt.TheOpen.{ModuleStmt-F}
use Rattle.bsv_ast.specs.declared.modules.ModuleBranch.{ModuleBranch as WrittenBranch, roll-ModuleBranch, fold-ModuleBranch, fold-roll-ModuleBranch}
use Rattle.bsv_types.specs.Expressions.{World}
use Rattle.bsv_types.specs.Modules as rules
use Rattle.bsv_modules.specs.Modules.{ModuleContext, Run, Arm, stmt_step, arm_step, nested, direct_step, direct}
use Rattle.bsv_modules.proofs.RightSites.{FitsSite}
use Rattle.bsv_modules.proofs.RightStates.{GoodRun}
use Rattle.bsv_modules.proofs.RightLeaves.{instance_good, array_good, place_good, declare_good, assign_good, rule_good, method_good}
use Rattle.bsv_modules.proofs.RightNested.{EachRun, EachArm, block_good, if_good, for_good}

module _ (site : ModuleContext) (w : World) (headers : List rules.Header) (fits : FitsSite site w headers) where
  abbrev arm_in : WrittenBranch → Arm
  arm_in = fold-ModuleBranch Run Arm (stmt_step site) arm_step

  abbrev Good : Run → Type 0
  Good = GoodRun w headers site.wanted

  abbrev Child : Type 0
  Child = (x : Written) × Good (nested site x)

  abbrev ArmChild : Type 0
  ArmChild = (x : WrittenBranch) × Good (arm_in x).run

  each : (xs : List Child) → EachRun w headers site.wanted (map (nested site) (map (λ (x : Child). x.0) xs))
  each [] = tt
  each (x ∷ xs) = (x.1, each xs)

  each_arm : (xs : List ArmChild) → EachArm w headers site.wanted (map arm_in (map (λ (x : ArmChild). x.0) xs))
  each_arm [] = tt
  each_arm (x ∷ xs) = (x.1, each_arm xs)

  -- one layer, whose parts are good
  layer : (y : ModuleStmt-F Child ArmChild) → Good (stmt_step site (map-ModuleStmt Written WrittenBranch Run Arm (nested site) arm_in (map-ModuleStmt Child ArmChild Written WrittenBranch (λ x. x.0) (λ x. x.0) y)))
  layer (ModuleStmt-F.Instance s t name m) = instance_good site w headers fits s t name.name m
  layer (ModuleStmt-F.Array s t name e) = array_good site w headers fits s t name.name e
  layer (ModuleStmt-F.Place s name e m) = place_good site w headers fits s name.name e m
  layer (ModuleStmt-F.Declare s d) = declare_good site w headers fits s d
  layer (ModuleStmt-F.Assign s name e) = assign_good site w headers fits s name.name e
  layer (ModuleStmt-F.Block s xs) = block_good w headers site.wanted _ (each xs)
  layer (ModuleStmt-F.If s xs None) = if_good site w headers fits s _ None (each_arm xs) tt
  layer (ModuleStmt-F.If s xs (Some x)) = if_good site w headers fits s _ (Some (nested site x.0)) (each_arm xs) x.1
  layer (ModuleStmt-F.For s h x) = for_good site w headers fits s h (nested site x.0) x.1
  layer (ModuleStmt-F.Rule s r) = rule_good site w headers fits s r
  layer (ModuleStmt-F.Method s m) = λ st r fit e. absurd cc

  nested_good : (x : Written) → Good (nested site x)
  nested_good = ind-ModuleStmt (λ x. Good (nested site x)) (λ x. Good (arm_in x).run)
      (λ x y is. subst (λ z. Good (nested site (roll-ModuleStmt z))) is (subst Good (sym (fold-roll-ModuleStmt Run Arm (stmt_step site) arm_step _)) (layer y)))
      (λ x y is. subst (λ z. Good (arm_in (roll-ModuleBranch z)).run) is (subst (λ (a : Arm). Good a.run) (sym (fold-roll-ModuleBranch Run Arm (stmt_step site) arm_step _)) y.arm.1))

  direct_good : (x : Written) → Good (direct site x)
  direct_good x = by (out-ModuleStmt x) where
    by : (y : ModuleStmt-F Written WrittenBranch) → Good (direct_step site (nested site x) y)
    by (ModuleStmt-F.Method s m) = method_good site w headers fits s m
    by _ = nested_good x

  pub all_good : (xs : List Written) → EachRun w headers site.wanted (map (direct site) xs)
  all_good [] = tt
  all_good (x ∷ xs) = (direct_good x, all_good xs)
