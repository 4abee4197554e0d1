-- The grammar of statements (Bluespec reference guide, the statements of rules, methods and functions).
use Rattle.std.specs.Prelude.{ℕ, zero, suc, false, List, [], ◌∷◌, Option, Err}
use Rattle.bsv_ast.specs.declared.expressions.Expr.{Expr}
use Rattle.bsv_ast.specs.declared.statements.Condition.{Condition}
use Rattle.bsv_ast.specs.declared.statements.Head.{Head}
use Rattle.bsv_ast.specs.declared.statements.Stmt.{Stmt}
use Rattle.bsv_ast.specs.declared.statements.Stmt.TheVariants as form
use Rattle.bsv_ast.specs.declared.statements.Branch.{Branch}
use Rattle.bsv_ast.specs.declared.statements.CaseArm.{CaseArm}
use Rattle.bsv_lex.specs.declared.terminal.Terminal.{Terminal}
use Rattle.bsv_lex.specs.declared.terminal.Terminal.TheVariants as word
use Rattle.bsv_expr.specs.declared.lexeme.Lexeme.{Lexeme}
use Rattle.bsv_expr.specs.declared.fault.ReadFault.TheVariants as fault
use Rattle.bsv_expr.specs.Grammar.{Grammar, Phrase, Means}
use Rattle.bsv_expr.specs.Reading.{Read, read}
use Rattle.bsv_expr.specs.Trees.{to}
use Rattle.bsv_expr.specs.Expressions.{pair, the, behind, many, expression_first}
use Rattle.bsv_blocks.specs.declared.statements.Branches.{Branches}
use Rattle.bsv_blocks.specs.declared.statements.Cases.{Cases}
use Rattle.bsv_blocks.specs.declared.statements.ElsePart.{ElsePart}
use Rattle.bsv_blocks.specs.declared.statements.ElsePart.TheVariants as otherwise
use Rattle.bsv_blocks.specs.Holes.{Hole, Says, part}
use Rattle.bsv_blocks.specs.Simple as simple_grammar
use Rattle.bsv_blocks.specs.StatementTrees.{branch_of, is_open, one_branch, with_else, if_of, case_arm_of, cases_of, case_of, for_of}

-- the places at which a statement goes on with what holds no statement, or with a statement in a block
pub data Nested : Type 0 where
  simple : Nested
  condition : Nested
  head : Nested
  labels : Nested
  subject : Nested
  statement : Nested

abbrev pub Filled : Nested → Type 0
Filled Nested.simple = Stmt
Filled Nested.condition = Condition
Filled Nested.head = Head
Filled Nested.labels = List Expr
Filled Nested.subject = Expr
Filled Nested.statement = Stmt

abbrev pub Of : Type 0 → Type 1
Of A = Grammar Nested Filled A

-- the words with which a statement begins
unfoldable pub stmt_first : List Terminal
stmt_first =
    word.Lower ∷ word.Return ∷ word.NoAction ∷ word.Let ∷ word.Upper ∷ word.Int ∷ word.Begin ∷ word.If ∷ word.For ∷ word.Case ∷ []

unfoldable pub stmts : Of (List Stmt)
stmts = many stmt_first (Grammar.hole Nested.statement)

unfoldable pub block : Of Stmt
block = Grammar.between (λ o found c. form.Block (to o c) found) word.Begin stmts word.End

unfoldable pub arm : Of Stmt
arm = Grammar.choose (word.Begin ∷ []) block (Grammar.hole Nested.simple)

unfoldable pub branch : Of Branch
branch = Grammar.both branch_of (the word.If) (Grammar.both pair (Grammar.between (λ o x c. x) word.OpenParen (Grammar.hole Nested.condition) word.CloseParen) arm)

unfoldable pub else_part : Of ElsePart
else_part = behind word.Else (Grammar.choose (word.If ∷ []) (Grammar.made (λ b. otherwise.If b) branch) (Grammar.made (λ a. otherwise.Last a) arm))

-- an `else` without an `if` is the last one
unfoldable pub branches : Of Branches
branches = Grammar.fold (word.Else ∷ []) is_open with_else (Grammar.made one_branch branch) else_part

unfoldable pub if_stmt : Of Stmt
if_stmt = Grammar.made if_of branches

unfoldable pub arm_or_if : Of Stmt
arm_or_if = Grammar.choose (word.If ∷ []) if_stmt arm

unfoldable pub inner_for : Of Stmt
inner_for = Grammar.both for_of (Grammar.hole Nested.head) arm_or_if

unfoldable pub for_body : Of Stmt
for_body = Grammar.choose (word.For ∷ []) inner_for arm_or_if

unfoldable pub for_stmt : Of Stmt
for_stmt = Grammar.both for_of (Grammar.hole Nested.head) for_body

unfoldable pub case_arm : Of CaseArm
case_arm = Grammar.both case_arm_of (Grammar.hole Nested.labels) (behind word.Colon arm_or_if)

unfoldable pub case_arms : Of (List CaseArm)
case_arms = many expression_first case_arm

unfoldable pub default_arm : Of (Option Stmt)
default_arm = Grammar.maybe (word.Default ∷ []) (behind word.Default (behind word.Colon arm_or_if))

unfoldable pub case_inside : Of Cases
case_inside = Grammar.both cases_of (Grammar.between (λ o x c. x) word.OpenParen (Grammar.hole Nested.subject) word.CloseParen) (Grammar.both pair case_arms default_arm)

unfoldable pub case_stmt : Of Stmt
case_stmt = Grammar.between (λ o found c. case_of (to o c) found) word.Case case_inside word.EndCase

unfoldable pub stmt_body : Of Stmt
stmt_body =
    Grammar.choose (word.If ∷ []) if_stmt
    (Grammar.choose (word.For ∷ []) for_stmt
    (Grammar.choose (word.Case ∷ []) case_stmt arm))

-- what is at each place, with this for a statement in a block
unfoldable pub Inner : List ℕ → ℕ → Phrase Stmt → (h : Nested) → Phrase (Filled h)
Inner source n Block Nested.simple = Says source n simple_grammar.simple
Inner source n Block Nested.condition = Says source n simple_grammar.condition
Inner source n Block Nested.head = Says source n simple_grammar.head
Inner source n Block Nested.labels = Says source n (Grammar.hole Hole.expressions)
Inner source n Block Nested.subject = Says source n (Grammar.hole Hole.expression)
Inner source n Block Nested.statement = Block

unfoldable pub inner : List ℕ → ℕ → (List Lexeme → Read Stmt) → (h : Nested) → List Lexeme → Read (Filled h)
inner source n blocks Nested.simple ts = part source n simple_grammar.simple ts
inner source n blocks Nested.condition ts = part source n simple_grammar.condition ts
inner source n blocks Nested.head ts = part source n simple_grammar.head ts
inner source n blocks Nested.labels ts = part source n (Grammar.hole Hole.expressions) ts
inner source n blocks Nested.subject ts = part source n (Grammar.hole Hole.expression) ts
inner source n blocks Nested.statement ts = blocks ts

-- a statement in which fewer than so many blocks and cases are open at once, and fewer than so many brackets in each
-- expression and each type
unfoldable pub IsStmt : List ℕ → ℕ → Phrase Stmt
IsStmt source zero = λ x ts rest. ⊥
IsStmt source (suc n) = Means source (Inner source n (IsStmt source n)) stmt_body

unfoldable pub stmt : List ℕ → ℕ → List Lexeme → Read Stmt
stmt source zero ts = Err fault.TooDeep
stmt source (suc n) ts = read source (inner source n (stmt source n)) false stmt_body ts

-- a part of a statement, in whose blocks and brackets fewer than so many are open
abbrev pub within : {A : Type 0} → List ℕ → ℕ → Of A → List Lexeme → Read A
within source n p ts = read source (inner source n (stmt source n)) false p ts
