-- Where each node stands: the span that it carries, at each of its variants. Of a type that holds itself,
-- a word that ends in `_in` reads the node that is opened, and the word without it the whole one.
use Rattle.bsv_ast.specs.declared.text.Span.{Span}
use Rattle.bsv_ast.specs.declared.types.WrittenType.{WrittenType, out-WrittenType}
use Rattle.bsv_ast.specs.declared.types.TypeArgument.TheOpen.{WrittenType-F, TypeArgument-F}
use Rattle.bsv_ast.specs.declared.types.TypeArgument.{TypeArgument, out-TypeArgument}
use Rattle.bsv_ast.specs.declared.expressions.Expr.{Expr, out-Expr}
use Rattle.bsv_ast.specs.declared.expressions.Expr.TheOpen.{Expr-F, Suffix-F}
use Rattle.bsv_ast.specs.declared.expressions.FieldValue.{FieldValue}
use Rattle.bsv_ast.specs.declared.expressions.Suffix.{Suffix, out-Suffix}
use Rattle.bsv_ast.specs.declared.statements.Place.{Place}
use Rattle.bsv_ast.specs.declared.statements.Place.TheVariants as place
use Rattle.bsv_ast.specs.declared.statements.DeclaredType.{DeclaredType}
use Rattle.bsv_ast.specs.declared.statements.DeclaredType.TheVariants as declared
use Rattle.bsv_ast.specs.declared.statements.Condition.{Condition}
use Rattle.bsv_ast.specs.declared.statements.Condition.TheVariants as condition
use Rattle.bsv_ast.specs.declared.statements.Stmt.{Stmt, out-Stmt}
use Rattle.bsv_ast.specs.declared.statements.Stmt.TheOpen.{Stmt-F}
use Rattle.bsv_ast.specs.declared.statements.Branch.{Branch}
use Rattle.bsv_ast.specs.declared.statements.CaseArm.{CaseArm}
use Rattle.bsv_ast.specs.declared.modules.Body.{Body}
use Rattle.bsv_ast.specs.declared.modules.Body.TheVariants as body
use Rattle.bsv_ast.specs.declared.modules.ModuleStmt.{ModuleStmt, out-ModuleStmt}
use Rattle.bsv_ast.specs.declared.modules.ModuleStmt.TheOpen.{ModuleStmt-F}
use Rattle.bsv_ast.specs.declared.modules.ModuleBranch.{ModuleBranch}
use Rattle.bsv_ast.specs.declared.package.Typedef.{Typedef}
use Rattle.bsv_ast.specs.declared.package.Typedef.TheVariants as typedef
use Rattle.bsv_ast.specs.declared.package.Item.{Item}
use Rattle.bsv_ast.specs.declared.package.Item.TheVariants as item
use Rattle.bsv_ast.specs.declared.package.Package.{Package}
use Rattle.bsv_ast.specs.declared.package.Package.TheVariants as whole

abbrev pub type_span_in : WrittenType-F TypeArgument WrittenType → Span
type_span_in (WrittenType-F.Named s name) = s
type_span_in (WrittenType-F.Applied s name argument) = s
type_span_in (WrittenType-F.Int s) = s

unfoldable pub type_span : WrittenType → Span
type_span t = type_span_in (out-WrittenType t)

abbrev pub argument_span_in : TypeArgument-F TypeArgument WrittenType → Span
argument_span_in (TypeArgument-F.Written s t) = s
argument_span_in (TypeArgument-F.Number s number) = s

unfoldable pub argument_span : TypeArgument → Span
argument_span a = argument_span_in (out-TypeArgument a)

abbrev pub expr_span_in : Expr-F Expr Suffix FieldValue → Span
expr_span_in (Expr-F.Number s number) = s
expr_span_in (Expr-F.Label s name) = s
expr_span_in (Expr-F.Name s name) = s
expr_span_in (Expr-F.Call s name arguments) = s
expr_span_in (Expr-F.Group s inner) = s
expr_span_in (Expr-F.Concat s parts) = s
expr_span_in (Expr-F.Struct s name fields) = s
expr_span_in (Expr-F.Postfix s primary suffixes) = s
expr_span_in (Expr-F.Unary s operator operand) = s
expr_span_in (Expr-F.Valid s payload) = s
expr_span_in (Expr-F.Invalid s) = s
expr_span_in (Expr-F.Chain s level operators operands) = s
expr_span_in (Expr-F.Choice s conditions values) = s

unfoldable pub expr_span : Expr → Span
expr_span e = expr_span_in (out-Expr e)

abbrev pub suffix_span_in : Suffix-F Expr Suffix FieldValue → Span
suffix_span_in (Suffix-F.Member s name) = s
suffix_span_in (Suffix-F.Method s name arguments) = s
suffix_span_in (Suffix-F.Index s place) = s
suffix_span_in (Suffix-F.Slice s high low) = s

unfoldable pub suffix_span : Suffix → Span
suffix_span x = suffix_span_in (out-Suffix x)

abbrev pub place_span : Place → Span
place_span (place.Name s name) = s
place_span (place.Index s name at) = s

abbrev pub declared_span : DeclaredType → Span
declared_span (declared.Written s t) = s
declared_span (declared.Let s) = s

abbrev pub condition_span : Condition → Span
condition_span (condition.Test s e) = s
condition_span (condition.Matches s e name) = s

abbrev pub stmt_span_in : Stmt-F Stmt Branch CaseArm → Span
stmt_span_in (Stmt-F.Write s place value) = s
stmt_span_in (Stmt-F.Call s call) = s
stmt_span_in (Stmt-F.Bind s t name call) = s
stmt_span_in (Stmt-F.Declare s declaration) = s
stmt_span_in (Stmt-F.Assign s name value) = s
stmt_span_in (Stmt-F.Return s value) = s
stmt_span_in (Stmt-F.NoAction s) = s
stmt_span_in (Stmt-F.Block s body) = s
stmt_span_in (Stmt-F.If s branches otherwise) = s
stmt_span_in (Stmt-F.For s head body) = s
stmt_span_in (Stmt-F.Case s subject arms otherwise) = s

unfoldable pub stmt_span : Stmt → Span
stmt_span x = stmt_span_in (out-Stmt x)

abbrev pub body_span : Body → Span
body_span (body.Statements s stmts) = s
body_span (body.Value s value) = s

abbrev pub module_stmt_span_in : ModuleStmt-F ModuleStmt ModuleBranch → Span
module_stmt_span_in (ModuleStmt-F.Instance s t name make) = s
module_stmt_span_in (ModuleStmt-F.Array s t name size) = s
module_stmt_span_in (ModuleStmt-F.Place s name at make) = s
module_stmt_span_in (ModuleStmt-F.Declare s declaration) = s
module_stmt_span_in (ModuleStmt-F.Assign s name value) = s
module_stmt_span_in (ModuleStmt-F.Block s body) = s
module_stmt_span_in (ModuleStmt-F.If s branches otherwise) = s
module_stmt_span_in (ModuleStmt-F.For s head body) = s
module_stmt_span_in (ModuleStmt-F.Rule s rule) = s
module_stmt_span_in (ModuleStmt-F.Method s method) = s

unfoldable pub module_stmt_span : ModuleStmt → Span
module_stmt_span x = module_stmt_span_in (out-ModuleStmt x)

abbrev pub typedef_span : Typedef → Span
typedef_span (typedef.Alias s t name) = s
typedef_span (typedef.Enum s labels name classes) = s
typedef_span (typedef.Struct s fields name classes) = s

abbrev pub item_span : Item → Span
item_span (item.Import s x) = s
item_span (item.Typedef s x) = s
item_span (item.Interface s x) = s
item_span (item.Function s x) = s
item_span (item.Module s x) = s

abbrev pub package_span : Package → Span
package_span (whole.Named s name items) = s
package_span (whole.Bare s items) = s
