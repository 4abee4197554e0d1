-- When a body returns in each path, once and last, as it is written.
use Rattle.std.specs.Prelude.{Bool, true, false, List, map, Some}
use Rattle.bsv_ast.specs.declared.statements.Stmt.{Stmt, fold-Stmt}
use Rattle.bsv_ast.specs.declared.statements.Stmt.TheOpen.{Stmt-F}
use Rattle.bsv_types.specs.Statements.{goes_on, returned, Ends, agree, all_agree, or_goes_on, sequence}

-- how a path through a statement ends
abbrev pub ends_step : Stmt-F Ends Ends Ends → Ends
ends_step (Stmt-F.Return s e) = Some returned
ends_step (Stmt-F.Block s xs) = sequence xs
ends_step (Stmt-F.If s arms otherwise) = all_agree arms (or_goes_on otherwise)
ends_step (Stmt-F.For s h x) = agree x (Some goes_on)
ends_step (Stmt-F.Case s e arms otherwise) = all_agree arms (or_goes_on otherwise)
ends_step _ = Some goes_on

abbrev pub stmt_ends : Stmt → Ends
stmt_ends = fold-Stmt Ends Ends Ends ends_step (λ b. b.arm) (λ a. a.arm)

abbrev pub is_returned : Ends → Bool
is_returned (Some returned) = true
is_returned _ = false

abbrev pub returns : List Stmt → Bool
returns xs = is_returned (sequence (map stmt_ends xs))
