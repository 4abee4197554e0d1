-- The grammar of the statements of a module, and of modules (Bluespec reference guide, "Modules and interfaces").
use Rattle.std.specs.Prelude.{ℕ, zero, suc, false, List, [], ◌∷◌, Err}
use Rattle.bsv_ast.specs.declared.text.Span.{Span}
use Rattle.bsv_ast.specs.declared.expressions.Expr.{Expr}
use Rattle.bsv_ast.specs.declared.statements.Head.{Head}
use Rattle.bsv_ast.specs.declared.modules.Rule.{Rule}
use Rattle.bsv_ast.specs.declared.modules.Method.{Method}
use Rattle.bsv_ast.specs.declared.modules.Module.{Module}
use Rattle.bsv_ast.specs.declared.modules.ModuleBranch.{ModuleBranch}
use Rattle.bsv_ast.specs.declared.modules.ModuleStmt.{ModuleStmt}
use Rattle.bsv_lex.specs.declared.terminal.Terminal.{Terminal}
use Rattle.bsv_lex.specs.declared.terminal.Terminal.TheVariants as word
use Rattle.bsv_expr.specs.declared.lexeme.Lexeme.{Lexeme}
use Rattle.bsv_expr.specs.declared.fault.ReadFault.TheVariants as fault
use Rattle.bsv_expr.specs.Grammar.{Grammar, Phrase, Means}
use Rattle.bsv_expr.specs.Reading.{Read, read}
use Rattle.bsv_expr.specs.Expressions.{the, behind, many, pair}
use Rattle.bsv_blocks.specs.Holes as simple_places
use Rattle.bsv_blocks.specs.Simple as simple_grammar
use Rattle.bsv_parse.specs.Places.{Says, part}
use Rattle.bsv_parse.specs.Definitions as definitions
use Rattle.bsv_parse.specs.ModuleTrees.{block_of, of_rule, of_method, branch_of, one_branch, is_open, with_else, if_of, for_of, ModuleHead, module_of}
use Rattle.bsv_parse.specs.declared.modules.ModuleBranches.{ModuleBranches}
use Rattle.bsv_parse.specs.declared.modules.ModuleElse.{ModuleElse}
use Rattle.bsv_parse.specs.declared.modules.ModuleElse.TheVariants as otherwise

-- the places at which a statement of a module goes on with what holds none, or with one in a block
pub data Nested : Type 0 where
  simple : Nested
  rule : Nested
  method : Nested
  condition : Nested
  head : Nested
  heading : Nested
  statement : Nested

abbrev pub Filled : Nested → Type 0
Filled Nested.simple = ModuleStmt
Filled Nested.rule = Rule
Filled Nested.method = Method
Filled Nested.condition = Expr
Filled Nested.head = Head
Filled Nested.heading = ModuleHead
Filled Nested.statement = ModuleStmt

abbrev pub Of : Type 0 → Type 1
Of A = Grammar Nested Filled A

-- the words with which a statement of a module begins
unfoldable pub mstmt_first : List Terminal
mstmt_first = word.Upper ∷ word.Int ∷ word.Let ∷ word.Lower ∷ word.Begin ∷ word.If ∷ word.For ∷ word.OpenAttribute ∷ word.Rule ∷ word.Method ∷ []

-- a statement in a block
unfoldable pub nested : Of ModuleStmt
nested = Grammar.hole Nested.statement

unfoldable pub mstmts : Of (List ModuleStmt)
mstmts = many mstmt_first nested

unfoldable pub block : Of ModuleStmt
block = Grammar.between block_of word.Begin mstmts word.End

unfoldable pub ruled : Of ModuleStmt
ruled = Grammar.made of_rule (Grammar.hole Nested.rule)

unfoldable pub arm : Of ModuleStmt
arm = Grammar.choose (word.Begin ∷ []) block (Grammar.choose (word.OpenAttribute ∷ word.Rule ∷ []) ruled (Grammar.hole Nested.simple))

unfoldable pub branch : Of ModuleBranch
branch = Grammar.both branch_of (the word.If) (Grammar.both pair (Grammar.hole Nested.condition) arm)

unfoldable pub else_part : Of ModuleElse
else_part = behind word.Else (Grammar.choose (word.If ∷ []) (Grammar.made (λ b. otherwise.If b) branch) (Grammar.made (λ a. otherwise.Last a) arm))

-- an `else` without an `if` is the last one
unfoldable pub branches : Of ModuleBranches
branches = Grammar.fold (word.Else ∷ []) is_open with_else (Grammar.made one_branch branch) else_part

unfoldable pub if_stmt : Of ModuleStmt
if_stmt = Grammar.made if_of branches

unfoldable pub arm_or_if : Of ModuleStmt
arm_or_if = Grammar.choose (word.If ∷ []) if_stmt arm

unfoldable pub inner_for : Of ModuleStmt
inner_for = Grammar.both for_of (Grammar.hole Nested.head) arm_or_if

unfoldable pub for_body : Of ModuleStmt
for_body = Grammar.choose (word.For ∷ []) inner_for arm_or_if

unfoldable pub for_stmt : Of ModuleStmt
for_stmt = Grammar.both for_of (Grammar.hole Nested.head) for_body

unfoldable pub methodical : Of ModuleStmt
methodical = Grammar.made of_method (Grammar.hole Nested.method)

unfoldable pub mstmt_body : Of ModuleStmt
mstmt_body =
    Grammar.choose (word.If ∷ []) if_stmt
    (Grammar.choose (word.For ∷ []) for_stmt
    (Grammar.choose (word.Method ∷ []) methodical arm))

-- its head, `;`, its statements and `endmodule`
abbrev pub ModuleFront : Type 0
ModuleFront = ModuleHead × (List ModuleStmt × Span)

unfoldable pub module_front : Of ModuleFront
module_front = Grammar.both pair (Grammar.hole Nested.heading) (Grammar.both pair (behind word.Semicolon mstmts) (the word.EndModule))

abbrev pub module_after : ModuleFront → Of Module
module_after ((attributes, (start, (name, (params, interface)))), (found, close)) =
    Grammar.made (module_of (attributes, (start, (name, (params, interface)))) found) (definitions.ending word.Lower name.name close)

unfoldable pub module_whole : Of Module
module_whole = Grammar.bind (word.Colon ∷ []) (word.Colon ∷ []) module_front module_after

-- what is at each place, with this for a statement in a block
unfoldable pub Inner : List ℕ → ℕ → Phrase ModuleStmt → (h : Nested) → Phrase (Filled h)
Inner source n Block Nested.simple = Says source n definitions.simple
Inner source n Block Nested.rule = Says source n definitions.rule
Inner source n Block Nested.method = Says source n definitions.method
Inner source n Block Nested.condition = Says source n definitions.asked
Inner source n Block Nested.head = simple_places.Says source n simple_grammar.head
Inner source n Block Nested.heading = Says source n definitions.module_head
Inner source n Block Nested.statement = Block

unfoldable pub inner : List ℕ → ℕ → (List Lexeme → Read ModuleStmt) → (h : Nested) → List Lexeme → Read (Filled h)
inner source n blocks Nested.simple ts = part source n definitions.simple ts
inner source n blocks Nested.rule ts = part source n definitions.rule ts
inner source n blocks Nested.method ts = part source n definitions.method ts
inner source n blocks Nested.condition ts = part source n definitions.asked ts
inner source n blocks Nested.head ts = simple_places.part source n simple_grammar.head ts
inner source n blocks Nested.heading ts = part source n definitions.module_head ts
inner source n blocks Nested.statement ts = blocks ts

-- a statement of a module in which fewer than so many blocks are open at once, and fewer than so many brackets and
-- blocks in each expression, each type and each statement
unfoldable pub IsModuleStmt : List ℕ → ℕ → Phrase ModuleStmt
IsModuleStmt source zero = λ x ts rest. ⊥
IsModuleStmt source (suc n) = Means source (Inner source n (IsModuleStmt source n)) mstmt_body

unfoldable pub mstmt : List ℕ → ℕ → List Lexeme → Read ModuleStmt
mstmt source zero ts = Err fault.TooDeep
mstmt source (suc n) ts = read source (inner source n (mstmt source n)) false mstmt_body ts

-- a part of a module, in whose blocks and brackets fewer than so many are open
abbrev pub within : {A : Type 0} → List ℕ → ℕ → Of A → List Lexeme → Read A
within source n p ts = read source (inner source n (mstmt source n)) false p ts

abbrev pub IsModule : List ℕ → ℕ → Phrase Module
IsModule source n = Means source (Inner source n (IsModuleStmt source n)) module_whole
