-- How deep a node is nested, which a recursion over it counts down: one more than the deepest of the nodes
-- of its kind in it.
use Rattle.std.specs.Prelude.{ℕ, ◌+◌, List, [], ◌∷◌, max, Option, Some, None}
use Rattle.bsv_ast.specs.declared.types.WrittenType.{WrittenType, fold-WrittenType}
use Rattle.bsv_ast.specs.declared.types.TypeArgument.TheOpen.{WrittenType-F, TypeArgument-F}
use Rattle.bsv_ast.specs.declared.expressions.Expr.{Expr, fold-Expr}
use Rattle.bsv_ast.specs.declared.expressions.Expr.TheOpen.{Expr-F, Suffix-F, FieldValue-F}
use Rattle.bsv_ast.specs.declared.expressions.Suffix.{Suffix, fold-Suffix}
use Rattle.bsv_ast.specs.declared.expressions.FieldValue.{FieldValue, fold-FieldValue}
use Rattle.bsv_ast.specs.declared.statements.Stmt.{Stmt, fold-Stmt}
use Rattle.bsv_ast.specs.declared.statements.Stmt.TheOpen.{Stmt-F, Branch-F, CaseArm-F}
use Rattle.bsv_ast.specs.declared.statements.Branch.{Branch, fold-Branch}
use Rattle.bsv_ast.specs.declared.statements.CaseArm.{CaseArm, fold-CaseArm}
use Rattle.bsv_ast.specs.declared.modules.ModuleStmt.{ModuleStmt, fold-ModuleStmt}
use Rattle.bsv_ast.specs.declared.modules.ModuleStmt.TheOpen.{ModuleStmt-F, ModuleBranch-F}
use Rattle.bsv_ast.specs.declared.modules.ModuleBranch.{ModuleBranch, fold-ModuleBranch}

abbrev pub greatest : List ℕ → ℕ
greatest [] = 0
greatest (x ∷ xs) = max x (greatest xs)

abbrev pub or_zero : Option ℕ → ℕ
or_zero None = 0
or_zero (Some x) = x

abbrev pub type_step : WrittenType-F ℕ ℕ → ℕ
type_step (WrittenType-F.Named s name) = 1
type_step (WrittenType-F.Applied s name argument) = 1 + argument
type_step (WrittenType-F.Int s) = 1

abbrev pub argument_step : TypeArgument-F ℕ ℕ → ℕ
argument_step (TypeArgument-F.Written s t) = 1 + t
argument_step (TypeArgument-F.Number s number) = 1

abbrev pub type_depth : WrittenType → ℕ
type_depth = fold-WrittenType ℕ ℕ argument_step type_step

abbrev pub expr_step : Expr-F ℕ ℕ ℕ → ℕ
expr_step (Expr-F.Number s number) = 1
expr_step (Expr-F.Label s name) = 1
expr_step (Expr-F.Name s name) = 1
expr_step (Expr-F.Call s name arguments) = 1 + greatest arguments
expr_step (Expr-F.Group s inner) = 1 + inner
expr_step (Expr-F.Concat s parts) = 1 + greatest parts
expr_step (Expr-F.Struct s name fields) = 1 + greatest fields
expr_step (Expr-F.Postfix s primary suffixes) = 1 + max primary (greatest suffixes)
expr_step (Expr-F.Unary s operator operand) = 1 + operand
expr_step (Expr-F.Valid s payload) = 1 + payload
expr_step (Expr-F.Invalid s) = 1
expr_step (Expr-F.Chain s level operators operands) = 1 + greatest operands
expr_step (Expr-F.Choice s conditions values) = 1 + max (greatest conditions) (greatest values)

abbrev pub suffix_step : Suffix-F ℕ ℕ ℕ → ℕ
suffix_step (Suffix-F.Member s name) = 1
suffix_step (Suffix-F.Method s name arguments) = 1 + greatest arguments
suffix_step (Suffix-F.Index s place) = 1 + place
suffix_step (Suffix-F.Slice s high low) = 1 + max high low

abbrev pub field_step : FieldValue-F ℕ ℕ ℕ → ℕ
field_step f = 1 + f.value

abbrev pub expr_depth : Expr → ℕ
expr_depth = fold-Expr ℕ ℕ ℕ expr_step suffix_step field_step

abbrev pub suffix_depth : Suffix → ℕ
suffix_depth = fold-Suffix ℕ ℕ ℕ expr_step suffix_step field_step

abbrev pub field_depth : FieldValue → ℕ
field_depth = fold-FieldValue ℕ ℕ ℕ expr_step suffix_step field_step

abbrev pub stmt_step : Stmt-F ℕ ℕ ℕ → ℕ
stmt_step (Stmt-F.Write s place value) = 1
stmt_step (Stmt-F.Call s call) = 1
stmt_step (Stmt-F.Bind s t name call) = 1
stmt_step (Stmt-F.Declare s declaration) = 1
stmt_step (Stmt-F.Assign s name value) = 1
stmt_step (Stmt-F.Return s value) = 1
stmt_step (Stmt-F.NoAction s) = 1
stmt_step (Stmt-F.Block s body) = 1 + greatest body
stmt_step (Stmt-F.If s branches otherwise) = 1 + max (greatest branches) (or_zero otherwise)
stmt_step (Stmt-F.For s head body) = 1 + body
stmt_step (Stmt-F.Case s subject arms otherwise) = 1 + max (greatest arms) (or_zero otherwise)

abbrev pub branch_step : Branch-F ℕ ℕ ℕ → ℕ
branch_step b = 1 + b.arm

abbrev pub case_step : CaseArm-F ℕ ℕ ℕ → ℕ
case_step a = 1 + a.arm

abbrev pub stmt_depth : Stmt → ℕ
stmt_depth = fold-Stmt ℕ ℕ ℕ stmt_step branch_step case_step

abbrev pub branch_depth : Branch → ℕ
branch_depth = fold-Branch ℕ ℕ ℕ stmt_step branch_step case_step

abbrev pub case_depth : CaseArm → ℕ
case_depth = fold-CaseArm ℕ ℕ ℕ stmt_step branch_step case_step

abbrev pub module_stmt_step : ModuleStmt-F ℕ ℕ → ℕ
module_stmt_step (ModuleStmt-F.Instance s t name make) = 1
module_stmt_step (ModuleStmt-F.Array s t name size) = 1
module_stmt_step (ModuleStmt-F.Place s name at make) = 1
module_stmt_step (ModuleStmt-F.Declare s declaration) = 1
module_stmt_step (ModuleStmt-F.Assign s name value) = 1
module_stmt_step (ModuleStmt-F.Block s body) = 1 + greatest body
module_stmt_step (ModuleStmt-F.If s branches otherwise) = 1 + max (greatest branches) (or_zero otherwise)
module_stmt_step (ModuleStmt-F.For s head body) = 1 + body
module_stmt_step (ModuleStmt-F.Rule s rule) = 1
module_stmt_step (ModuleStmt-F.Method s method) = 1

abbrev pub module_branch_step : ModuleBranch-F ℕ ℕ → ℕ
module_branch_step b = 1 + b.arm

abbrev pub module_stmt_depth : ModuleStmt → ℕ
module_stmt_depth = fold-ModuleStmt ℕ ℕ module_stmt_step module_branch_step

abbrev pub module_branch_depth : ModuleBranch → ℕ
module_branch_depth = fold-ModuleBranch ℕ ℕ module_stmt_step module_branch_step
