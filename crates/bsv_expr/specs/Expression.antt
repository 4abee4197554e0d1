-- What a front of some tokens is.
use Rattle.std.specs.Prelude.{ℕ, ◌≤◌, List, length, drop}
use Rattle.bsv_ast.specs.declared.expressions.Expr.{Expr}
use Rattle.bsv_lex.specs.declared.token.Token.{Token}
use Rattle.bsv_expr.specs.Lexemes.{lexemes}
use Rattle.bsv_expr.specs.Brackets.{Reaches}
use Rattle.bsv_expr.specs.Expressions.{IsExpr}

-- the tokens from one place on, up to another one, are this expression
abbrev pub IsBetween : List ℕ → List Token → ℕ → Expr → ℕ → Type 0
IsBetween source tokens at x next =
    (next ≤ length tokens) × ((n : ℕ) × IsExpr source n x (drop at (lexemes source tokens)) (drop next (lexemes source tokens)))

-- nowhere are more than 64 brackets open at once
abbrev pub IsShallow : List ℕ → List Token → Type 0
IsShallow source tokens = Reaches 65 0 (lexemes source tokens) → ⊥
