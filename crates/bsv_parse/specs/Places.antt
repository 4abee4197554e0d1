-- The places at which the grammar of definitions goes on with an expression, a type or a statement, and their readers.
use Rattle.std.specs.Prelude.{ℕ, false, List}
use Rattle.bsv_ast.specs.declared.text.Span.{Span}
use Rattle.bsv_ast.specs.declared.expressions.Expr.{Expr}
use Rattle.bsv_ast.specs.declared.types.WrittenType.{WrittenType}
use Rattle.bsv_ast.specs.declared.statements.Stmt.{Stmt}
use Rattle.bsv_expr.specs.declared.lexeme.Lexeme.{Lexeme}
use Rattle.bsv_expr.specs.Grammar.{Grammar, Phrase, Means}
use Rattle.bsv_expr.specs.Reading.{Read, read}
use Rattle.bsv_expr.specs.Expressions as expr_grammar
use Rattle.bsv_expr.specs.Expressions.{IsExpr, many}
use Rattle.bsv_expr.specs.Readers as readers
use Rattle.bsv_blocks.specs.Types.{IsType}
use Rattle.bsv_blocks.specs.Types as type_grammar
use Rattle.bsv_blocks.specs.Statements.{IsStmt, stmt, stmt_first}

pub data Hole : Type 0 where
  expression : Hole
  arguments : Hole
  written : Hole
  statement : Hole

-- what is read at each
abbrev pub Filled : Hole → Type 0
Filled Hole.expression = Expr
Filled Hole.arguments = List Expr × Span
Filled Hole.written = WrittenType
Filled Hole.statement = Stmt

abbrev pub Of : Type 0 → Type 1
Of A = Grammar Hole Filled A

unfoldable pub stmts : Of (List Stmt)
stmts = many stmt_first (Grammar.hole Hole.statement)

-- what is at each, with fewer than so many brackets and blocks open at once in it
unfoldable pub Inner : List ℕ → ℕ → (h : Hole) → Phrase (Filled h)
Inner source n Hole.expression = IsExpr source n
Inner source n Hole.arguments = Means source (λ h. IsExpr source n) expr_grammar.arguments
Inner source n Hole.written = IsType source n
Inner source n Hole.statement = IsStmt source n

-- the reader of each
unfoldable pub inner : List ℕ → ℕ → (h : Hole) → List Lexeme → Read (Filled h)
inner source n Hole.expression ts = readers.expr source n false ts
inner source n Hole.arguments ts = readers.part source n false expr_grammar.arguments ts
inner source n Hole.written ts = type_grammar.written source n ts
inner source n Hole.statement ts = stmt source n ts

-- what a grammar of these says, and what its reader reads
abbrev pub Says : {A : Type 0} → List ℕ → ℕ → Of A → Phrase A
Says source n p = Means source (Inner source n) p

abbrev pub part : {A : Type 0} → List ℕ → ℕ → Of A → List Lexeme → Read A
part source n p ts = read source (inner source n) false p ts
