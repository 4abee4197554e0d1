-- The grammar of the statements that hold no other, of conditions and of the heads of loops (Bluespec reference guide,
-- the statements of rules, methods and functions). What begins alike is read once: a place, and then what says what is
-- done with it.
use Rattle.std.specs.Prelude.{ℕ, if◌then◌else◌, List, [], ◌∷◌, Option, Some, None, codes}
use Rattle.std.specs.Str.{bytes_eq}
use Rattle.bsv_ast.specs.declared.text.Span.{Span}
use Rattle.bsv_ast.specs.declared.text.Ident.{Ident}
use Rattle.bsv_ast.specs.declared.expressions.Expr.{Expr}
use Rattle.bsv_ast.specs.declared.statements.Place.{Place}
use Rattle.bsv_ast.specs.declared.statements.Place.TheVariants as places
use Rattle.bsv_ast.specs.declared.statements.Call.{Call}
use Rattle.bsv_ast.specs.declared.statements.DeclaredType.{DeclaredType}
use Rattle.bsv_ast.specs.declared.statements.DeclaredType.TheVariants as declares
use Rattle.bsv_ast.specs.declared.statements.Condition.{Condition}
use Rattle.bsv_ast.specs.declared.statements.Head.{Head}
use Rattle.bsv_ast.specs.declared.statements.Stmt.{Stmt}
use Rattle.bsv_ast.specs.declared.statements.Stmt.TheVariants as form
use Rattle.bsv_ast.specs.Spans.{type_span}
use Rattle.bsv_lex.specs.declared.terminal.Terminal.{Terminal}
use Rattle.bsv_lex.specs.declared.terminal.Terminal.TheVariants as word
use Rattle.bsv_expr.specs.declared.lexeme.Lexeme.{Lexeme}
use Rattle.bsv_expr.specs.Grammar.{Grammar}
use Rattle.bsv_expr.specs.Trees.{to}
use Rattle.bsv_expr.specs.Expressions.{pair, text, the, behind, lower}
use Rattle.bsv_blocks.specs.Holes.{Hole, Of}
use Rattle.bsv_blocks.specs.StatementTrees.{place_of, Called, call_of, write_of, call_statement, assign_of, bind_of, declare_of, condition_of}

abbrev pub expression : Of Expr
expression = Grammar.hole Hole.expression

-- a name of this text
abbrev pub told_as : List ℕ → List ℕ → Lexeme → Option Span
told_as name source w = if bytes_eq (text source w.span) name then Some w.span else None

abbrev pub integer_told : List ℕ → Lexeme → Option Span
integer_told = told_as (codes "Integer")

abbrev pub valid_told : List ℕ → Lexeme → Option Span
valid_told = told_as (codes "Valid")

-- what no tokens are
abbrev pub never : {A : Type 0} → List Terminal → Of A
never set = Grammar.leaf set (λ source w. None)

-- an expression and the `;` after it
unfoldable pub ended : Of (Expr × Span)
ended = Grammar.both pair expression (the word.Semicolon)

unfoldable pub index : Of (Option (Expr × Span))
index = Grammar.maybe (word.OpenBracket ∷ []) (Grammar.between (λ o x c. (x, c)) word.OpenBracket expression word.CloseBracket)

unfoldable pub place : Of Place
place = Grammar.both place_of lower index

unfoldable pub optional_arguments : Of (Option (List Expr × Span))
optional_arguments = Grammar.maybe (word.OpenParen ∷ []) (Grammar.hole Hole.arguments)

unfoldable pub called : Of Called
called = behind word.Dot (Grammar.both pair lower optional_arguments)

unfoldable pub call : Of Call
call = Grammar.both call_of place called

unfoldable pub write : Place → Of Stmt
write p = Grammar.made (write_of p) (behind word.LessEqual ended)

unfoldable pub call_end : Place → Of Stmt
call_end p = Grammar.both (call_statement p) called (the word.Semicolon)

-- a name alone may be assigned
unfoldable pub assign : Place → Of Stmt
assign (places.Name s name) = Grammar.made (assign_of s name) (behind word.Equal ended)
assign (places.Index s name at) = never (word.Equal ∷ [])

unfoldable pub used : Place → Of Stmt
used p = Grammar.choose (word.LessEqual ∷ []) (write p) (Grammar.choose (word.Dot ∷ []) (call_end p) (assign p))

unfoldable pub name_led : Of Stmt
name_led = Grammar.bind (word.LessEqual ∷ word.Dot ∷ word.Equal ∷ []) (word.OpenBracket ∷ []) place used

unfoldable pub declared : Of DeclaredType
declared = Grammar.choose (word.Let ∷ []) (Grammar.made (λ s. declares.Let s) (the word.Let)) (Grammar.made (λ t. declares.Written (type_span t) t) (Grammar.hole Hole.written))

unfoldable pub bound : Of (Call × Span)
bound = behind word.LeftArrow (Grammar.both pair call (the word.Semicolon))

unfoldable pub given : DeclaredType × Ident → Of Stmt
given d = Grammar.choose (word.LeftArrow ∷ []) (Grammar.made (bind_of d) bound) (Grammar.made (declare_of d) (behind word.Equal ended))

unfoldable pub type_led : Of Stmt
type_led = Grammar.bind (word.LeftArrow ∷ word.Equal ∷ []) [] (Grammar.both pair declared lower) given

unfoldable pub returned : Of Stmt
returned = Grammar.both (λ s x. form.Return (to s x.1) x.0) (the word.Return) ended

unfoldable pub no_action : Of Stmt
no_action = Grammar.both (λ s e. form.NoAction (to s e)) (the word.NoAction) (the word.Semicolon)

unfoldable pub simple : Of Stmt
simple =
    Grammar.choose (word.Lower ∷ []) name_led
    (Grammar.choose (word.Return ∷ []) returned
    (Grammar.choose (word.NoAction ∷ []) no_action type_led))

unfoldable pub matched : Of (Option Ident)
matched =
    Grammar.maybe (word.Matches ∷ []) (behind word.Matches (behind word.Tagged
    (Grammar.both (λ s name. name) (Grammar.leaf (word.Upper ∷ []) valid_told) (behind word.Dot lower))))

unfoldable pub condition : Of Condition
condition = Grammar.both condition_of expression matched

-- `Lower "=" expr`
unfoldable pub assignment : Of (Ident × Expr)
assignment = Grammar.both pair lower (behind word.Equal expression)

abbrev pub Heading : Type 0
Heading = (Ident × Expr) × (Expr × (Ident × Expr))

-- what is in the brackets of a `for`
unfoldable pub heading : Of Heading
heading =
    Grammar.both (λ s h. h) (Grammar.leaf (word.Upper ∷ []) integer_told)
    (Grammar.both pair assignment (behind word.Semicolon (Grammar.both pair expression (behind word.Semicolon assignment))))

abbrev pub head_of : Span → Heading × Span → Head
head_of s (h, c) =
    record { span = to s c; variable = h.0.0; first = h.0.1; condition = h.1.0; stepped = h.1.1.0; step = h.1.1.1 }

unfoldable pub head : Of Head
head = Grammar.both head_of (the word.For) (Grammar.between (λ o h c. (h, c)) word.OpenParen heading word.CloseParen)
