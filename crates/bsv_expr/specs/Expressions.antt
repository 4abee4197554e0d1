-- The grammar of expressions (Bluespec reference guide, "Expressions").
use Rattle.std.specs.Prelude.{ℕ, zero, suc, Bool, true, false, if◌then◌else◌, List, [], ◌∷◌, ◌++◌, slice_range, Option, Some, None, codes, unwrap_or}
use Rattle.std.specs.Option.{option_map}
use Rattle.std.specs.Str.{bytes_eq}
use Rattle.bsv_ast.specs.declared.text.Span.{Span}
use Rattle.bsv_ast.specs.declared.text.Ident.{Ident}
use Rattle.bsv_ast.specs.declared.text.Literal.{Literal}
use Rattle.bsv_ast.specs.declared.expressions.Expr.{Expr}
use Rattle.bsv_ast.specs.declared.expressions.Expr.TheVariants as node
use Rattle.bsv_ast.specs.declared.expressions.Suffix.{Suffix}
use Rattle.bsv_ast.specs.declared.expressions.FieldValue.{FieldValue}
use Rattle.bsv_ast.specs.declared.expressions.UnaryOperator.{UnaryOperator}
use Rattle.bsv_ast.specs.declared.expressions.UnaryOperator.TheVariants as unary
use Rattle.bsv_ast.specs.declared.expressions.Operator.{Operator}
use Rattle.bsv_ast.specs.declared.expressions.Operator.TheVariants as operator
use Rattle.bsv_ast.specs.declared.expressions.Level.{Level}
use Rattle.bsv_ast.specs.declared.expressions.Level.TheVariants as level
use Rattle.bsv_ast.specs.Spans.{expr_span}
use Rattle.bsv_lex.specs.declared.terminal.Terminal.{Terminal}
use Rattle.bsv_lex.specs.declared.terminal.Terminal.TheVariants as word
use Rattle.bsv_lex.specs.Numbers.{literal}
use Rattle.bsv_expr.specs.declared.lexeme.Lexeme.{Lexeme}
use Rattle.bsv_expr.specs.Grammar.{Grammar, Phrase, Means}
use Rattle.bsv_expr.specs.Reading.{span_told}
use Rattle.bsv_expr.specs.Trees.{to, name_or_call, label_or_struct, field_value, member_or_method, index_or_slice, postfix_of, unary_of, operand_alone, with_operand, chain_of, with_arm, choice_of}

-- any state goes on
abbrev pub always : {S : Type 0} → S → Bool
always s = true

-- two values
abbrev pub pair : {A B : Type 0} → A → B → A × B
pair x y = (x, y)

-- a list with one more item after it
abbrev pub snoc : {A : Type 0} → List A → A → List A
snoc xs x = xs ++ x ∷ []

-- the bytes of a token
abbrev pub text : List ℕ → Span → List ℕ
text source s = slice_range source s.start s.end

-- a name, with its text
abbrev pub name_told : List ℕ → Lexeme → Option Ident
name_told source w = Some (record { span = w.span; name = text source w.span })

-- a number that is one
abbrev pub number_told : List ℕ → Lexeme → Option (Span × Literal)
number_told source w = option_map (λ n. (w.span, n)) (literal (text source w.span))

-- whether a name is `Valid`, where it is that or `Invalid`
abbrev pub is_valid : List ℕ → Option Bool
is_valid name = if bytes_eq name (codes "Valid") then Some true else (if bytes_eq name (codes "Invalid") then Some false else None)

abbrev pub tag_told : List ℕ → Lexeme → Option (Span × Bool)
tag_told source w = option_map (λ valid. (w.span, valid)) (is_valid (text source w.span))

-- the operator that a word is in front of an operand
abbrev pub unary_operator : Terminal → Option UnaryOperator
unary_operator word.Not = Some unary.Not
unary_operator word.Tilde = Some unary.Complement
unary_operator word.Minus = Some unary.Negate
unary_operator _ = None

abbrev pub unary_told : List ℕ → Lexeme → Option (Span × UnaryOperator)
unary_told source w = option_map (λ o. (w.span, o)) (unary_operator w.terminal)

-- the levels of the operators, from the loosest one
unfoldable pub levels : List Level
levels = level.Either ∷ level.Both ∷ level.Or ∷ level.Xor ∷ level.And ∷ level.Equality ∷ level.Order ∷ level.Shift ∷ level.Sum ∷ level.Product ∷ []

-- the words of a level
unfoldable pub words_of : Level → List Terminal
words_of level.Product = word.Star ∷ []
words_of level.Sum = word.Plus ∷ word.Minus ∷ []
words_of level.Shift = word.ShiftLeft ∷ word.ShiftRight ∷ []
words_of level.Order = word.Less ∷ word.LessEqual ∷ word.Greater ∷ word.GreaterEqual ∷ []
words_of level.Equality = word.DoubleEqual ∷ word.NotEqual ∷ []
words_of level.And = word.And ∷ []
words_of level.Xor = word.Caret ∷ []
words_of level.Or = word.Or ∷ []
words_of level.Both = word.DoubleAnd ∷ []
words_of level.Either = word.DoubleOr ∷ []

-- the operator that a word is
unfoldable pub operator_of : Terminal → Option Operator
operator_of word.Star = Some operator.Mul
operator_of word.Plus = Some operator.Add
operator_of word.Minus = Some operator.Sub
operator_of word.ShiftLeft = Some operator.Shl
operator_of word.ShiftRight = Some operator.Shr
operator_of word.Less = Some operator.Less
operator_of word.LessEqual = Some operator.LessOrSame
operator_of word.Greater = Some operator.Greater
operator_of word.GreaterEqual = Some operator.GreaterOrSame
operator_of word.DoubleEqual = Some operator.Same
operator_of word.NotEqual = Some operator.Different
operator_of word.And = Some operator.And
operator_of word.Caret = Some operator.Xor
operator_of word.Or = Some operator.Or
operator_of word.DoubleAnd = Some operator.Both
operator_of word.DoubleOr = Some operator.Either
operator_of _ = None

abbrev pub operator_told : List ℕ → Lexeme → Option Operator
operator_told source w = operator_of w.terminal

module _ {H : Type 0} {T : H → Type 0} where
  -- this word
  abbrev pub the : Terminal → Grammar H T Span
  the t = Grammar.leaf (t ∷ []) span_told

  -- this word, and what comes after it
  abbrev pub behind : {A : Type 0} → Terminal → Grammar H T A → Grammar H T A
  behind t p = Grammar.both (λ s x. x) (the t) p

  -- one or more, with a `,` between them
  abbrev pub listed : {A : Type 0} → Grammar H T A → Grammar H T (List A)
  listed p = Grammar.fold (word.Comma ∷ []) always snoc (Grammar.made (λ x. x ∷ []) p) (behind word.Comma p)

  -- any number, each of which begins with one of these words
  abbrev pub many : {A : Type 0} → List Terminal → Grammar H T A → Grammar H T (List A)
  many set p = Grammar.fold set always snoc (Grammar.nothing []) p

  abbrev pub lower : Grammar H T Ident
  lower = Grammar.leaf (word.Lower ∷ []) name_told

  abbrev pub upper : Grammar H T Ident
  upper = Grammar.leaf (word.Upper ∷ []) name_told

-- the words with which an expression begins
unfoldable pub expression_first : List Terminal
expression_first = word.Number ∷ word.Upper ∷ word.Lower ∷ word.OpenParen ∷ word.OpenBrace ∷ word.Tagged ∷ word.Not ∷ word.Tilde ∷ word.Minus ∷ []

-- the grammar of expressions goes on with itself, in brackets
abbrev pub Hole : Type 0
Hole = Unit {0}

abbrev pub Filled : Hole → Type 0
Filled h = Expr

abbrev pub Of : Type 0 → Type 1
Of A = Grammar Hole Filled A

-- an expression in brackets
unfoldable pub expression : Of Expr
expression = Grammar.hole tt

-- `expr { "," expr }`
unfoldable pub exprs : Of (List Expr)
exprs = listed expression

-- `"(" [ exprs ] ")"`, and where the `)` stands
unfoldable pub arguments : Of (List Expr × Span)
arguments = Grammar.between (λ o found c. (unwrap_or found [], c)) word.OpenParen (Grammar.maybe expression_first exprs) word.CloseParen

-- the arguments, or nothing
unfoldable pub optional_arguments : Of (Option (List Expr × Span))
optional_arguments = Grammar.maybe (word.OpenParen ∷ []) arguments

-- `Lower [ "(" [ exprs ] ")" ]`
unfoldable pub named : Of Expr
named = Grammar.both name_or_call lower optional_arguments

-- `Lower ":" expr`
unfoldable pub field : Of FieldValue
field = Grammar.both field_value lower (behind word.Colon expression)

-- one or more fields
unfoldable pub field_list : Of (List FieldValue)
field_list = listed field

-- the fields in their `{ }`, and where the `}` stands
unfoldable pub fields : Of (List FieldValue × Span)
fields = Grammar.between (λ o found c. (found, c)) word.OpenBrace field_list word.CloseBrace

-- the fields, or nothing
unfoldable pub optional_fields : Of (Option (List FieldValue × Span))
optional_fields = Grammar.maybe (word.OpenBrace ∷ []) fields

-- `Upper`, or `Upper "{" Lower ":" expr { "," Lower ":" expr } "}"`
unfoldable pub labelled : Of Expr
labelled = Grammar.both label_or_struct upper optional_fields

-- `Number`
unfoldable pub number : Of Expr
number = Grammar.made (λ n. node.Number n.0 n.1) (Grammar.leaf (word.Number ∷ []) number_told)

-- `"(" expr ")"`
unfoldable pub group : Of Expr
group = Grammar.between (λ o x c. node.Group (to o c) x) word.OpenParen expression word.CloseParen

-- `"{" exprs "}"`
unfoldable pub concat : Of Expr
concat = Grammar.between (λ o found c. node.Concat (to o c) found) word.OpenBrace exprs word.CloseBrace

-- the five forms of a primary
unfoldable pub primary : Of Expr
primary =
    Grammar.choose (word.Number ∷ []) number
    (Grammar.choose (word.Upper ∷ []) labelled
    (Grammar.choose (word.Lower ∷ []) named
    (Grammar.choose (word.OpenParen ∷ []) group concat)))

-- `"." Lower [ "(" [ exprs ] ")" ]`
unfoldable pub method : Of Suffix
method = Grammar.both member_or_method (the word.Dot) (Grammar.both pair lower optional_arguments)

-- `"[" expr [ ":" expr ] "]"`
unfoldable pub bracketed : Of Suffix
bracketed = Grammar.between index_or_slice word.OpenBracket (Grammar.both pair expression (Grammar.maybe (word.Colon ∷ []) (behind word.Colon expression))) word.CloseBracket

-- what is once after a primary
unfoldable pub suffixed : Of Suffix
suffixed = Grammar.choose (word.Dot ∷ []) method bracketed

-- what comes after a primary
unfoldable pub suffixes : Of (List Suffix)
suffixes = many (word.Dot ∷ word.OpenBracket ∷ []) suffixed

-- a primary, and what comes after it
unfoldable pub postfix : Of Expr
postfix = Grammar.both postfix_of primary suffixes

-- `( "!" | "~" | "-" ) postfix`
unfoldable pub operated : Of Expr
operated = Grammar.both unary_of (Grammar.leaf (word.Not ∷ word.Tilde ∷ word.Minus ∷ []) unary_told) postfix

-- the words that go on after the operands of these levels
unfoldable pub more_of : List Level → List Terminal
more_of [] = word.Dot ∷ word.OpenBracket ∷ word.OpenParen ∷ word.OpenBrace ∷ []
more_of (l ∷ ls) = words_of l ++ more_of ls

-- `"tagged"`, and whether it is `Valid`
abbrev pub tag : Of (Span × (Span × Bool))
tag = Grammar.both pair (the word.Tagged) (Grammar.leaf (word.Upper ∷ []) tag_told)

-- what comes after the tag: of `Valid` its payload, of `Invalid` nothing
abbrev pub payload : Span × (Span × Bool) → Of Expr
payload (s, (t, true)) = Grammar.made (λ x. node.Valid (to s (expr_span x)) x) postfix
payload (s, (t, false)) = Grammar.nothing (node.Invalid (to s t))

-- `"tagged" "Valid" postfix`, or `"tagged" "Invalid"`
unfoldable pub tagged : Of Expr
tagged = Grammar.bind expression_first (more_of []) tag payload

-- an operand of the tightest operators
unfoldable pub operand : Of Expr
operand = Grammar.choose (word.Tagged ∷ []) tagged (Grammar.choose (word.Not ∷ word.Tilde ∷ word.Minus ∷ []) operated postfix)

-- an operator of a level, and the operand after it
unfoldable pub operation : Level → Of Expr → Of (Operator × Expr)
operation l tighter = Grammar.both pair (Grammar.leaf (words_of l) operator_told) tighter

-- the operands of these levels, of which the first is the loosest
unfoldable pub chain : List Level → Of Expr
chain [] = operand
chain (l ∷ ls) =
    Grammar.named expression_first (more_of (l ∷ ls)) (Grammar.made (chain_of l)
    (Grammar.fold (words_of l) always with_operand (Grammar.made operand_alone (chain ls))
    (operation l (chain ls))))

-- `"?" e1 ":" e1`
unfoldable pub arm : Of (Expr × Expr)
arm = behind word.Question (Grammar.both pair (chain levels) (behind word.Colon (chain levels)))

-- `e1 { "?" e1 ":" e1 }`: an expression
unfoldable pub choice : Of Expr
choice = Grammar.made choice_of (Grammar.fold (word.Question ∷ []) always with_arm (Grammar.made (λ x. ([], [], x)) (chain levels)) arm)

-- the words that go on after an expression
unfoldable pub expression_more : List Terminal
expression_more = word.Question ∷ more_of levels

-- an expression in which fewer than so many brackets are open at once
unfoldable pub IsExpr : List ℕ → ℕ → Phrase Expr
IsExpr source zero = λ x ts rest. ⊥
IsExpr source (suc n) = Means source (λ h. IsExpr source n) choice
