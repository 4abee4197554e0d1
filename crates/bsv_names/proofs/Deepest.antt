-- The depth of the deepest node of a list, which a recursion over its nodes counts down.
use Rattle.std.proofs.Common.{ℕ, List, map, Option, Some, None}
use Rattle.bsv_ast.specs.declared.expressions.Expr.{Expr}
use Rattle.bsv_ast.specs.declared.expressions.FieldValue.{FieldValue}
use Rattle.bsv_ast.specs.declared.expressions.Suffix.{Suffix}
use Rattle.bsv_ast.specs.declared.statements.Stmt.{Stmt}
use Rattle.bsv_ast.specs.declared.statements.Branch.{Branch}
use Rattle.bsv_ast.specs.declared.statements.CaseArm.{CaseArm}
use Rattle.bsv_ast.specs.declared.modules.ModuleStmt.{ModuleStmt}
use Rattle.bsv_ast.specs.declared.modules.ModuleBranch.{ModuleBranch}
use Rattle.bsv_ast.specs.Depths.{greatest, expr_depth, suffix_depth, field_depth, stmt_depth, branch_depth, case_depth, module_stmt_depth, module_branch_depth}

abbrev pub deepest_expr : List Expr → ℕ
deepest_expr xs = greatest (map expr_depth xs)

abbrev pub deepest_suffix : List Suffix → ℕ
deepest_suffix xs = greatest (map suffix_depth xs)

abbrev pub deepest_field : List FieldValue → ℕ
deepest_field xs = greatest (map field_depth xs)

abbrev pub deepest_stmt : List Stmt → ℕ
deepest_stmt xs = greatest (map stmt_depth xs)

abbrev pub deepest_branch : List Branch → ℕ
deepest_branch xs = greatest (map branch_depth xs)

abbrev pub deepest_case : List CaseArm → ℕ
deepest_case xs = greatest (map case_depth xs)

abbrev pub last_stmt : Option Stmt → ℕ
last_stmt None = 0
last_stmt (Some x) = stmt_depth x

abbrev pub deepest_module_stmt : List ModuleStmt → ℕ
deepest_module_stmt xs = greatest (map module_stmt_depth xs)

abbrev pub deepest_module_branch : List ModuleBranch → ℕ
deepest_module_branch xs = greatest (map module_branch_depth xs)

abbrev pub last_module_stmt : Option ModuleStmt → ℕ
last_module_stmt None = 0
last_module_stmt (Some x) = module_stmt_depth x
