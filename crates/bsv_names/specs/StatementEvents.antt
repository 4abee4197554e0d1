-- The names of statements of rules, methods and functions, in text order.
use Rattle.std.specs.Prelude.{List, [], ◌++◌, map, Option, Some, None}
use Rattle.bsv_ast.specs.declared.statements.Place.{Place}
use Rattle.bsv_ast.specs.declared.statements.Place.TheVariants as place
use Rattle.bsv_ast.specs.declared.statements.Call.{Call}
use Rattle.bsv_ast.specs.declared.statements.DeclaredType.{DeclaredType}
use Rattle.bsv_ast.specs.declared.statements.DeclaredType.TheVariants as declared
use Rattle.bsv_ast.specs.declared.statements.Declaration.{Declaration}
use Rattle.bsv_ast.specs.declared.statements.Condition.{Condition}
use Rattle.bsv_ast.specs.declared.statements.Condition.TheVariants as condition
use Rattle.bsv_ast.specs.declared.statements.Head.{Head}
use Rattle.bsv_ast.specs.declared.statements.Stmt.{Stmt, fold-Stmt}
use Rattle.bsv_ast.specs.declared.statements.Stmt.TheOpen.{Stmt-F, Branch-F, CaseArm-F}
use Rattle.bsv_ast.specs.declared.statements.Branch.{Branch, fold-Branch}
use Rattle.bsv_ast.specs.declared.statements.CaseArm.{CaseArm, fold-CaseArm}
use Rattle.bsv_names.specs.declared.event.Event.{Event}
use Rattle.bsv_names.specs.Events.{variable, variable_used, joined, scope}
use Rattle.bsv_names.specs.ExpressionEvents.{type_events, expr_events, exprs_events}

abbrev pub place_events : Place → List Event
place_events (place.Name s name) = variable_used name
place_events (place.Index s name at) = variable_used name ++ expr_events at

-- the name of the method is none that is looked up
abbrev pub call_events : Call → List Event
call_events call = place_events call.place ++ exprs_events call.arguments

abbrev pub declared_events : DeclaredType → List Event
declared_events (declared.Written s t) = type_events t
declared_events (declared.Let s) = []

-- a variable is not in scope in its own first value
abbrev pub declaration_events : Declaration → List Event
declaration_events d = declared_events d.declared ++ expr_events d.value ++ variable d.name d.span

-- the names of the test, which is outside the arm
abbrev pub condition_events : Condition → List Event
condition_events (condition.Test s test) = expr_events test
condition_events (condition.Matches s subject name) = expr_events subject

-- the variable that `matches` binds, in the scope of the arm
abbrev pub bound_events : Condition → List Event
bound_events (condition.Test s test) = []
bound_events (condition.Matches s subject name) = variable name s

-- in the scope of the loop
abbrev pub head_events : Head → List Event
head_events head =
    expr_events head.first ++ variable head.variable head.span ++ expr_events head.condition ++ variable_used head.stepped ++ expr_events head.step

-- an arm without a condition, if there is one
abbrev pub last_arm : Option (List Event) → List Event
last_arm None = []
last_arm (Some arm) = scope arm

abbrev pub stmt_step : Stmt-F (List Event) (List Event) (List Event) → List Event
stmt_step (Stmt-F.Write s place value) = place_events place ++ expr_events value
stmt_step (Stmt-F.Call s call) = call_events call
stmt_step (Stmt-F.Bind s t name call) = declared_events t ++ call_events call ++ variable name s
stmt_step (Stmt-F.Declare s declaration) = declaration_events declaration
stmt_step (Stmt-F.Assign s name value) = variable_used name ++ expr_events value
stmt_step (Stmt-F.Return s value) = expr_events value
stmt_step (Stmt-F.NoAction s) = []
stmt_step (Stmt-F.Block s body) = scope (joined body)
stmt_step (Stmt-F.If s branches otherwise) = joined branches ++ last_arm otherwise
stmt_step (Stmt-F.For s head body) = scope (head_events head ++ body)
stmt_step (Stmt-F.Case s subject arms otherwise) = expr_events subject ++ joined arms ++ last_arm otherwise

abbrev pub branch_step : Branch-F (List Event) (List Event) (List Event) → List Event
branch_step b = condition_events b.condition ++ scope (bound_events b.condition ++ b.arm)

abbrev pub case_step : CaseArm-F (List Event) (List Event) (List Event) → List Event
case_step c = exprs_events c.labels ++ scope c.arm

abbrev pub stmt_events : Stmt → List Event
stmt_events = fold-Stmt (List Event) (List Event) (List Event) stmt_step branch_step case_step

abbrev pub branch_events : Branch → List Event
branch_events = fold-Branch (List Event) (List Event) (List Event) stmt_step branch_step case_step

abbrev pub case_events : CaseArm → List Event
case_events = fold-CaseArm (List Event) (List Event) (List Event) stmt_step branch_step case_step

abbrev pub stmts_events : List Stmt → List Event
stmts_events xs = joined (map stmt_events xs)

abbrev pub branches_events : List Branch → List Event
branches_events xs = joined (map branch_events xs)

abbrev pub cases_events : List CaseArm → List Event
cases_events xs = joined (map case_events xs)
