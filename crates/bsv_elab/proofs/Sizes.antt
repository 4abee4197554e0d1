-- How deep the body is that is left to carry out, and how many modules in modules.
use Rattle.std.proofs.Common.{◌≡◌, ℕ, zero, suc, ◌+◌, ◌-◌, ◌*◌, ◌<◌, ◌≤◌, List, map, Option, Some, option_map, arith, suc-mul, ap}
use Rattle.std.specs.Prelude.{slice_get}
use Rattle.bsv_lemmas.proofs.Sums.{total, or_zero, within}
use Rattle.bsv_types.specs.declared.modules.Module.{Module}
use Rattle.bsv_types.specs.declared.modules.ModuleBranch.{ModuleBranch, fold-ModuleBranch}
use Rattle.bsv_types.specs.declared.modules.ModuleStmt.{ModuleStmt, fold-ModuleStmt}
use Rattle.bsv_types.specs.declared.modules.ModuleStmt.TheOpen.{ModuleStmt-F, ModuleBranch-F}
use Rattle.bsv_elab.specs.declared.builder.Builder.{Builder}

abbrev pub stmt_size_step : ModuleStmt-F ℕ ℕ → ℕ
stmt_size_step (ModuleStmt-F.Block xs) = 1 + total xs
stmt_size_step (ModuleStmt-F.If bs last) = 1 + (total bs + or_zero last)
stmt_size_step (ModuleStmt-F.For h x) = 1 + x
stmt_size_step _ = 1

abbrev pub branch_size_step : ModuleBranch-F ℕ ℕ → ℕ
branch_size_step b = 1 + b.arm

abbrev pub stmt_size : ModuleStmt → ℕ
stmt_size = fold-ModuleStmt ℕ ℕ stmt_size_step branch_size_step

abbrev pub branch_size : ModuleBranch → ℕ
branch_size = fold-ModuleBranch ℕ ℕ stmt_size_step branch_size_step

abbrev pub stmts_size : List ModuleStmt → ℕ
stmts_size xs = total (map stmt_size xs)

abbrev pub branches_size : List ModuleBranch → ℕ
branches_size bs = total (map branch_size bs)

abbrev pub last_size : Option ModuleStmt → ℕ
last_size o = or_zero (option_map stmt_size o)

abbrev pub module_size : Module → ℕ
module_size m = stmts_size m.body

abbrev pub modules_size : List Module → ℕ
modules_size ms = total (map module_size ms)

-- so many modules in modules that are left, each of at most the whole design
unfoldable pub level : ℕ → ℕ → ℕ
level d w = d * (16 * w + 16)

abbrev pub left : Builder → ℕ
left b = level b.depth (modules_size b.typed.now.modules)

pub level_down : (d w : ℕ) → 0 < d → level d w ≡ level (d - 1) w + (16 * w + 16)
unfolding level
level_down zero w below = absurd (omega arith)
level_down (suc d) w below =
    let it : suc d - 1 ≡ d = omega arith in
    let fewer : (suc d - 1) * (16 * w + 16) ≡ d * (16 * w + 16) = ap (λ k. k * (16 * w + 16)) it in
    omega (arith, suc-mul d (16 * w + 16), fewer)

pub module_within : (ms : List Module) (k : ℕ) (m : Module) → slice_get ms k ≡ Some m → module_size m ≤ modules_size ms
module_within ms k m is = within module_size ms k m is

pub ruleset falls = (level_down, module_within)
