-- How deep the tree is that is left to carry out, and how many calls in calls.
use Rattle.std.proofs.Common.{◌≡◌, ℕ, zero, suc, ◌+◌, ◌-◌, ◌*◌, ◌<◌, ◌≤◌, List, [], ◌∷◌, map, Option, Some, option_map, arith, suc-mul, ap}
use Rattle.std.specs.Prelude.{slice_get}
use Rattle.bsv_lemmas.proofs.Sums.{total, or_zero, within}
use Rattle.bsv_types.specs.declared.definitions.Body.{Body}
use Rattle.bsv_types.specs.declared.definitions.Body.TheVariants as body
use Rattle.bsv_types.specs.declared.definitions.Function.{Function}
use Rattle.bsv_types.specs.declared.expressions.Expr.{Expr, fold-Expr}
use Rattle.bsv_types.specs.declared.expressions.Expr.TheOpen.{Expr-F, Place-F}
use Rattle.bsv_types.specs.declared.expressions.Place.{Place, fold-Place}
use Rattle.bsv_types.specs.declared.modules.Method.{Method}
use Rattle.bsv_types.specs.declared.modules.Module.{Module}
use Rattle.bsv_types.specs.declared.operators.Op.{Op}
use Rattle.bsv_types.specs.declared.operators.Op.TheVariants as op
use Rattle.bsv_types.specs.declared.statements.Branch.{Branch, fold-Branch}
use Rattle.bsv_types.specs.declared.statements.CaseArm.{CaseArm, fold-CaseArm}
use Rattle.bsv_types.specs.declared.statements.Condition.{Condition}
use Rattle.bsv_types.specs.declared.statements.Condition.TheVariants as condition
use Rattle.bsv_types.specs.declared.statements.Head.{Head}
use Rattle.bsv_types.specs.declared.statements.Stmt.{Stmt, fold-Stmt}
use Rattle.bsv_types.specs.declared.statements.Stmt.TheOpen.{Stmt-F, Branch-F, CaseArm-F}
use Rattle.bsv_types.specs.declared.typed.Typed.{Typed}
use Rattle.bsv_carry.specs.declared.carrier.Carrier.{Carrier}
use Rattle.bsv_carry.specs.AtHand.{operands_after}

-- ---- sizes

abbrev pub expr_size_step : Expr-F ℕ ℕ → ℕ
expr_size_step (Expr-F.Literal t number) = 1
expr_size_step (Expr-F.Variable t level) = 1
expr_size_step (Expr-F.Apply t os xs) = 1 + total xs
expr_size_step (Expr-F.Call t number xs) = 1 + total xs
expr_size_step (Expr-F.Method t place number xs) = 1 + (place + total xs)
expr_size_step (Expr-F.Choice t cs xs) = 1 + (total cs + total xs)

abbrev pub place_size_step : Place-F ℕ ℕ → ℕ
place_size_step p = 1 + or_zero p.index

abbrev pub expr_size : Expr → ℕ
expr_size = fold-Expr ℕ ℕ expr_size_step place_size_step

abbrev pub place_size : Place → ℕ
place_size = fold-Place ℕ ℕ expr_size_step place_size_step

abbrev pub exprs_size : List Expr → ℕ
exprs_size xs = total (map expr_size xs)

abbrev pub condition_size : Condition → ℕ
condition_size (condition.Test e) = expr_size e
condition_size (condition.Matches e) = expr_size e

abbrev pub head_size : Head → ℕ
head_size h = expr_size h.first + (expr_size h.condition + expr_size h.step)

abbrev pub stmt_size_step : Stmt-F ℕ ℕ ℕ → ℕ
stmt_size_step (Stmt-F.Declare t e) = 1 + expr_size e
stmt_size_step (Stmt-F.Assign level e) = 1 + expr_size e
stmt_size_step (Stmt-F.Act p number xs) = 1 + (place_size p + exprs_size xs)
stmt_size_step (Stmt-F.Bind t p number xs) = 1 + (place_size p + exprs_size xs)
stmt_size_step (Stmt-F.Return e) = 1 + expr_size e
stmt_size_step Stmt-F.NoAction = 1
stmt_size_step (Stmt-F.Block ss) = 1 + total ss
stmt_size_step (Stmt-F.If bs last) = 1 + (total bs + or_zero last)
stmt_size_step (Stmt-F.For h s) = 1 + (head_size h + s)
stmt_size_step (Stmt-F.Case e arms last) = 1 + (expr_size e + (total arms + or_zero last))

abbrev pub branch_size_step : Branch-F ℕ ℕ ℕ → ℕ
branch_size_step b = 1 + (condition_size b.condition + b.arm)

abbrev pub case_size_step : CaseArm-F ℕ ℕ ℕ → ℕ
case_size_step a = 1 + (exprs_size a.labels + a.arm)

abbrev pub stmt_size : Stmt → ℕ
stmt_size = fold-Stmt ℕ ℕ ℕ stmt_size_step branch_size_step case_size_step

abbrev pub branch_size : Branch → ℕ
branch_size = fold-Branch ℕ ℕ ℕ stmt_size_step branch_size_step case_size_step

abbrev pub case_size : CaseArm → ℕ
case_size = fold-CaseArm ℕ ℕ ℕ stmt_size_step branch_size_step case_size_step

abbrev pub stmts_size : List Stmt → ℕ
stmts_size ss = total (map stmt_size ss)

abbrev pub branches_size : List Branch → ℕ
branches_size bs = total (map branch_size bs)

abbrev pub cases_size : List CaseArm → ℕ
cases_size arms = total (map case_size arms)

abbrev pub last_size : Option Stmt → ℕ
last_size o = or_zero (option_map stmt_size o)

abbrev pub asked_size : Option Expr → ℕ
asked_size o = or_zero (option_map expr_size o)

abbrev pub body_size : Body → ℕ
body_size (body.Value e) = expr_size e
body_size (body.Statements ss) = stmts_size ss

-- ---- what may be called

abbrev pub function_size : Function → ℕ
function_size f = body_size f.body

abbrev pub method_size : Method → ℕ
method_size m = asked_size m.condition + body_size m.body

abbrev pub module_size : Module → ℕ
module_size m = total (map method_size m.methods)

abbrev pub world_size : Typed → ℕ
world_size t = total (map function_size t.functions) + total (map module_size t.modules)

-- so many calls that are left, each of at most the whole design
unfoldable pub level : ℕ → ℕ → ℕ
level d w = d * (32 * w + 32)

abbrev pub calls_left : Carrier → ℕ
calls_left c = level c.depth (world_size c.typed.now)

pub level_down : (d w : ℕ) → 0 < d → level d w ≡ level (d - 1) w + (32 * w + 32)
unfolding level
level_down zero w below = absurd (omega arith)
level_down (suc d) w below =
    let it : suc d - 1 ≡ d = omega arith in
    let fewer : (suc d - 1) * (32 * w + 32) ≡ d * (32 * w + 32) = ap (λ k. k * (32 * w + 32)) it in
    omega (arith, suc-mul d (32 * w + 32), fewer)

-- a function, and a method of a module, are a part of the design
pub function_within : (t : Typed) (k : ℕ) (f : Function) → slice_get t.functions k ≡ Some f → function_size f ≤ world_size t
function_within t k f is = omega (arith, within function_size t.functions k f is)

pub method_within : (t : Typed) (k n : ℕ) (m : Module) (x : Method) → slice_get t.modules k ≡ Some m → slice_get m.methods n ≡ Some x → method_size x ≤ world_size t
method_within t k n m x at is = omega (arith, within module_size t.modules k m at, within method_size m.methods n x is)

-- no more operands are left after a suffix
pub operands_within : (o : Op) (es : List Expr) → exprs_size (operands_after o es) ≤ exprs_size es
operands_within op.Index [] = omega arith
operands_within op.Index (e ∷ es) = omega arith
operands_within o es = omega arith

pub ruleset suffixes = (operands_within)

pub ruleset falls = (level_down, function_within, method_within)
