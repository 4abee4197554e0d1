-- What carrying out gives at each statement of a module, and at a module inside another one.
use Rattle.std.proofs.Common.{◌≡◌, ℕ, zero, suc, ◌-◌, ◌<◌, List, map, Option, Some, None, option_map, ap, sym, ◌∙◌, arith}
use Rattle.bsv_fail.specs.Given.{◌>>=◌}
use Rattle.bsv_types.specs.declared.modules.ModuleBranch.{ModuleBranch, fold_out-ModuleBranch}
use Rattle.bsv_types.specs.declared.modules.ModuleStmt.{ModuleStmt, roll-ModuleStmt, map-ModuleStmt, fold-roll-ModuleStmt}
use Rattle.bsv_types.specs.declared.modules.ModuleStmt.TheOpen.{ModuleStmt-F}
use Rattle.bsv_types.specs.declared.modules.ModuleStmt.TheViews.{rolls-Block, rolls-If, rolls-For}
use Rattle.bsv_types.specs.declared.modules.ModuleStmt.TheVariants as s
use Rattle.bsv_types.specs.declared.statements.Head.{Head}
use Rattle.bsv_tree.specs.declared.statics.Binding.{Binding}
use Rattle.bsv_elab.specs.declared.state.Grown.{Grown}
use Rattle.bsv_elab.specs.declared.state.State.{State}
use Rattle.bsv_elab.specs.Statics.{Here, Builds, weigh, truth_in, inside}
use Rattle.bsv_elab.specs.Making.{Bodies}
use Rattle.bsv_elab.specs.Elements.{here_module}
use Rattle.bsv_elab.specs.Bodies.{Branched, run, chain, looped, stmt, branch, stmt_step, branch_step}
use Rattle.bsv_elab.specs.Building.{body_of, body_at}

module _ (bodies : Bodies) (here : Here) where
  stmt_node : (y : ModuleStmt-F ModuleStmt ModuleBranch) → stmt bodies here (roll-ModuleStmt y) ≡ stmt_step bodies here (map-ModuleStmt ModuleStmt ModuleBranch Builds (Branched bodies here) (stmt bodies here) (branch bodies here) y)
  unfolding stmt branch
  stmt_node y = fold-roll-ModuleStmt Builds (Branched bodies here) (stmt_step bodies here) (branch_step bodies here) y

  module _ (z : State) where
    pub block_is : (xs : List ModuleStmt) → stmt bodies here (s.Block xs) z ≡ (weigh 1 z >>= inside (run bodies here (map (stmt bodies here) xs)))
    block_is xs = ap (λ (a : Builds). a z) (ap (stmt bodies here) (sym (rolls-Block xs)) ∙ stmt_node (ModuleStmt-F.Block xs))

    pub if_is : (bs : List ModuleBranch) (o : Option ModuleStmt) → stmt bodies here (s.If bs o) z ≡ (weigh 1 z >>= chain bodies here (option_map (stmt bodies here) o) (map (branch bodies here) bs))
    if_is bs None = ap (λ (a : Builds). a z) (ap (stmt bodies here) (sym (rolls-If bs None)) ∙ stmt_node (ModuleStmt-F.If bs None))
    if_is bs (Some x) = ap (λ (a : Builds). a z) (ap (stmt bodies here) (sym (rolls-If bs (Some x))) ∙ stmt_node (ModuleStmt-F.If bs (Some x)))

    pub for_is : (h : Head) (x : ModuleStmt) → stmt bodies here (s.For h x) z ≡ (weigh 1 z >>= looped bodies here h (stmt bodies here x))
    for_is h x = ap (λ (a : Builds). a z) (ap (stmt bodies here) (sym (rolls-For h x)) ∙ stmt_node (ModuleStmt-F.For h x))

  pub branch_is : (b : ModuleBranch) → branch bodies here b ≡ record { asks = truth_in here b.condition; arm = stmt bodies here b.arm }
  unfolding stmt branch
  branch_is b = fold_out-ModuleBranch Builds (Branched bodies here) (stmt_step bodies here) (branch_step bodies here) b

-- one module in modules fewer is left
pub body_down : (d : ℕ) (here : Here) (bs : List Binding) (g : Grown) → 0 < d → body_at d here bs g ≡ body_of (body_at (d - 1)) here (here_module here) bs g
unfolding body_at
body_down zero here bs g some = absurd (omega arith)
body_down (suc d) here bs g some = let it : d ≡ suc d - 1 = omega arith in ap (λ k. body_of (body_at k) here (here_module here) bs g) it

pub ruleset stmts = (block_is, if_is, for_is)

pub ruleset branches = (branch_is)

pub ruleset inner_bodies = (body_down)
