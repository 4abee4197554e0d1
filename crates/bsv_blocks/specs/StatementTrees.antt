-- Nodes of statements, from the parts that a production has.
use Rattle.std.specs.Prelude.{Bool, List, [], ◌∷◌, ◌++◌, is_none, slice_get, Option, Some, None}
use Rattle.bsv_ast.specs.declared.text.Span.{Span}
use Rattle.bsv_ast.specs.declared.text.Ident.{Ident}
use Rattle.bsv_ast.specs.declared.expressions.Expr.{Expr}
use Rattle.bsv_ast.specs.declared.statements.Place.{Place}
use Rattle.bsv_ast.specs.declared.statements.Place.TheVariants as places
use Rattle.bsv_ast.specs.declared.statements.Call.{Call}
use Rattle.bsv_ast.specs.declared.statements.DeclaredType.{DeclaredType}
use Rattle.bsv_ast.specs.declared.statements.Condition.{Condition}
use Rattle.bsv_ast.specs.declared.statements.Condition.TheVariants as asks
use Rattle.bsv_ast.specs.declared.statements.Head.{Head}
use Rattle.bsv_ast.specs.declared.statements.Stmt.{Stmt}
use Rattle.bsv_ast.specs.declared.statements.Stmt.TheVariants as form
use Rattle.bsv_ast.specs.declared.statements.Branch.{Branch, roll-Branch, out-Branch}
use Rattle.bsv_ast.specs.declared.statements.CaseArm.{CaseArm, roll-CaseArm}
use Rattle.bsv_ast.specs.Spans.{expr_span, place_span, declared_span, stmt_span}
use Rattle.bsv_expr.specs.Reading.{on_some}
use Rattle.bsv_expr.specs.Trees.{to, last}
use Rattle.bsv_blocks.specs.declared.statements.Branches.{Branches}
use Rattle.bsv_blocks.specs.declared.statements.Cases.{Cases}
use Rattle.bsv_blocks.specs.declared.statements.ElsePart.{ElsePart}
use Rattle.bsv_blocks.specs.declared.statements.ElsePart.TheVariants as otherwise

abbrev pub place_of : Ident → Option (Expr × Span) → Place
place_of name None = places.Name name.span name
place_of name (Some at) = places.Index (to name.span at.1) name at.0

-- the method of a call, and its arguments in their brackets
abbrev pub Called : Type 0
Called = Ident × Option (List Expr × Span)

abbrev pub call_of : Place → Called → Call
call_of place (name, None) = record { span = to (place_span place) name.span; place = place; method = name; arguments = [] }
call_of place (name, Some found) = record { span = to (place_span place) found.1; place = place; method = name; arguments = found.0 }

abbrev pub write_of : Place → Expr × Span → Stmt
write_of place (x, end) = form.Write (to (place_span place) end) place x

abbrev pub call_statement : Place → Called → Span → Stmt
call_statement place called end = form.Call (to (place_span place) end) (call_of place called)

abbrev pub assign_of : Span → Ident → Expr × Span → Stmt
assign_of start name (x, end) = form.Assign (to start end) name x

abbrev pub bind_of : DeclaredType × Ident → Call × Span → Stmt
bind_of (declared, name) (call, end) = form.Bind (to (declared_span declared) end) declared name call

abbrev pub declare_of : DeclaredType × Ident → Expr × Span → Stmt
declare_of (declared, name) (x, end) =
    form.Declare (to (declared_span declared) end) (record { span = to (declared_span declared) end; declared = declared; name = name; value = x })

abbrev pub condition_of : Expr → Option Ident → Condition
condition_of x None = asks.Test (expr_span x) x
condition_of x (Some name) = asks.Matches (to (expr_span x) name.span) x name

abbrev pub branch_of : Span → Condition × Stmt → Branch
branch_of start (c, arm) = roll-Branch (record { span = to start (stmt_span arm); condition = c; arm = arm })

-- an `if` whose last `else` may still come
abbrev pub is_open : Branches → Bool
is_open found = is_none found.otherwise

abbrev pub one_branch : Branch → Branches
one_branch b = record { first = b; others = []; otherwise = None }

abbrev pub with_else : Branches → ElsePart → Branches
with_else found (otherwise.If b) = record { first = found.first; others = found.others ++ b ∷ []; otherwise = found.otherwise }
with_else found (otherwise.Last arm) = record { first = found.first; others = found.others; otherwise = Some arm }

abbrev pub branch_span : Branch → Span
branch_span b = (out-Branch b).span

-- where the last arm stands
abbrev pub last_span : Branches → Span
last_span found = on_some found.otherwise (on_some (last found.others) (branch_span found.first) (λ b. branch_span b)) (λ arm. stmt_span arm)

abbrev pub if_of : Branches → Stmt
if_of found = form.If (to (branch_span found.first) (last_span found)) (found.first ∷ found.others) found.otherwise

abbrev pub case_arm_of : List Expr → Stmt → CaseArm
case_arm_of labels arm =
    roll-CaseArm (record { span = on_some (slice_get labels 0) (stmt_span arm) (λ x. to (expr_span x) (stmt_span arm)); labels = labels; arm = arm })

abbrev pub for_of : Head → Stmt → Stmt
for_of head body = form.For (to head.span (stmt_span body)) head body

abbrev pub cases_of : Expr → List CaseArm × Option Stmt → Cases
cases_of subject found = record { subject = subject; arms = found.0; otherwise = found.1 }

abbrev pub case_of : Span → Cases → Stmt
case_of span found = form.Case span found.subject found.arms found.otherwise
