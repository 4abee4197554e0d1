-- The names of what is in a module, in text order.
use Rattle.std.specs.Prelude.{List, [], ◌++◌, map, Option, Some, None}
use Rattle.bsv_ast.specs.declared.expressions.Expr.{Expr}
use Rattle.bsv_ast.specs.declared.modules.Param.{Param}
use Rattle.bsv_ast.specs.declared.modules.Make.{Make}
use Rattle.bsv_ast.specs.declared.modules.Body.{Body}
use Rattle.bsv_ast.specs.declared.modules.Body.TheVariants as body
use Rattle.bsv_ast.specs.declared.modules.Rule.{Rule}
use Rattle.bsv_ast.specs.declared.modules.Method.{Method}
use Rattle.bsv_ast.specs.declared.modules.ModuleStmt.{ModuleStmt, fold-ModuleStmt}
use Rattle.bsv_ast.specs.declared.modules.ModuleStmt.TheOpen.{ModuleStmt-F, ModuleBranch-F}
use Rattle.bsv_ast.specs.declared.modules.ModuleBranch.{ModuleBranch, fold-ModuleBranch}
use Rattle.bsv_scopes.specs.declared.definitions.Space.TheVariants.{Modules}
use Rattle.bsv_names.specs.declared.event.Event.{Event}
use Rattle.bsv_names.specs.Events.{used, variable, variable_used, joined, scope}
use Rattle.bsv_names.specs.ExpressionEvents.{type_events, expr_events, exprs_events}
use Rattle.bsv_names.specs.StatementEvents.{declaration_events, head_events, last_arm, stmts_events}

-- the types of parameters
abbrev pub param_types : List Param → List Event
param_types params = joined (map (λ p. type_events p.written) params)

-- parameters as variables, in the scope of the body
abbrev pub param_variables : List Param → List Event
param_variables params = joined (map (λ p. variable p.name p.span) params)

abbrev pub make_events : Make → List Event
make_events make = used Modules make.maker ++ exprs_events make.arguments

abbrev pub body_events : Body → List Event
body_events (body.Statements s stmts) = stmts_events stmts
body_events (body.Value s value) = expr_events value

-- the condition of a rule or a method, if it has one
abbrev pub guard_events : Option Expr → List Event
guard_events None = []
guard_events (Some test) = expr_events test

abbrev pub rule_events : Rule → List Event
rule_events rule = guard_events rule.condition ++ scope (stmts_events rule.body)

-- the parameters are not in scope in the method's own condition
abbrev pub method_events : Method → List Event
method_events method =
    type_events method.result ++ param_types method.params ++ guard_events method.condition ++ scope (param_variables method.params ++ body_events method.body)

abbrev pub stmt_step : ModuleStmt-F (List Event) (List Event) → List Event
stmt_step (ModuleStmt-F.Instance s t name make) = type_events t ++ make_events make ++ variable name s
stmt_step (ModuleStmt-F.Array s t name size) = type_events t ++ expr_events size ++ variable name s
stmt_step (ModuleStmt-F.Place s name at make) = variable_used name ++ expr_events at ++ make_events make
stmt_step (ModuleStmt-F.Declare s declaration) = declaration_events declaration
stmt_step (ModuleStmt-F.Assign s name value) = variable_used name ++ expr_events value
stmt_step (ModuleStmt-F.Block s stmts) = scope (joined stmts)
stmt_step (ModuleStmt-F.If s branches otherwise) = joined branches ++ last_arm otherwise
stmt_step (ModuleStmt-F.For s head arm) = scope (head_events head ++ arm)
stmt_step (ModuleStmt-F.Rule s rule) = rule_events rule
stmt_step (ModuleStmt-F.Method s method) = method_events method

abbrev pub branch_step : ModuleBranch-F (List Event) (List Event) → List Event
branch_step b = expr_events b.condition ++ scope b.arm

abbrev pub module_stmt_events : ModuleStmt → List Event
module_stmt_events = fold-ModuleStmt (List Event) (List Event) stmt_step branch_step

abbrev pub module_branch_events : ModuleBranch → List Event
module_branch_events = fold-ModuleBranch (List Event) (List Event) stmt_step branch_step

abbrev pub module_stmts_events : List ModuleStmt → List Event
module_stmts_events xs = joined (map module_stmt_events xs)

abbrev pub module_branches_events : List ModuleBranch → List Event
module_branches_events xs = joined (map module_branch_events xs)
