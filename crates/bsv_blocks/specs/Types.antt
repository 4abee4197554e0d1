-- The grammar of types, and their reader (Bluespec reference guide, "Types").
use Rattle.std.specs.Prelude.{ℕ, zero, suc, false, ◌&&◌, nat_le, is_none, if◌then◌else◌, List, [], ◌∷◌, Option, Some, None, Err}
use Rattle.bsv_ast.specs.declared.text.Span.{Span}
use Rattle.bsv_ast.specs.declared.text.Ident.{Ident}
use Rattle.bsv_ast.specs.declared.text.Literal.{Literal}
use Rattle.bsv_ast.specs.declared.types.WrittenType.{WrittenType}
use Rattle.bsv_ast.specs.declared.types.WrittenType.TheVariants as form
use Rattle.bsv_ast.specs.declared.types.TypeArgument.{TypeArgument}
use Rattle.bsv_ast.specs.declared.types.TypeArgument.TheVariants as given
use Rattle.bsv_ast.specs.Spans.{type_span}
use Rattle.bsv_lex.specs.declared.terminal.Terminal.{Terminal}
use Rattle.bsv_lex.specs.declared.terminal.Terminal.TheVariants as word
use Rattle.bsv_lex.specs.Numbers.{literal}
use Rattle.bsv_expr.specs.declared.lexeme.Lexeme.{Lexeme}
use Rattle.bsv_expr.specs.declared.fault.ReadFault.TheVariants as fault
use Rattle.bsv_expr.specs.Grammar.{Grammar, Phrase, Means}
use Rattle.bsv_expr.specs.Reading.{Read, read}
use Rattle.bsv_expr.specs.Trees.{to}
use Rattle.bsv_expr.specs.Expressions.{text, the, behind, upper}

abbrev pub Of : Type 0 → Type 1
Of A = Grammar (Unit {0}) (λ h. WrittenType) A

-- a number that a type may have: unsized, and at most 65,535
abbrev pub small : Option Literal → Option Literal
small None = None
small (Some n) = if is_none n.size && nat_le n.value 65535 then Some n else None

abbrev pub at_span : Span → Option Literal → Option (Span × Literal)
at_span s None = None
at_span s (Some n) = Some (s, n)

abbrev pub size_told : List ℕ → Lexeme → Option (Span × Literal)
size_told source w = at_span w.span (small (literal (text source w.span)))

abbrev pub named_or_applied : Ident → Option (TypeArgument × Span) → WrittenType
named_or_applied name None = form.Named name.span name
named_or_applied name (Some found) = form.Applied (to name.span found.1) name found.0

-- the words with which a type begins
unfoldable pub type_first : List Terminal
type_first = word.Upper ∷ word.Int ∷ []

unfoldable pub argument : Of TypeArgument
argument =
    Grammar.choose (word.Number ∷ []) (Grammar.made (λ n. given.Number n.0 n.1) (Grammar.leaf (word.Number ∷ []) size_told))
    (Grammar.made (λ t. given.Written (type_span t) t) (Grammar.hole tt))

unfoldable pub applied : Of (Option (TypeArgument × Span))
applied = Grammar.maybe (word.Hash ∷ []) (behind word.Hash (Grammar.between (λ o x c. (x, c)) word.OpenParen argument word.CloseParen))

unfoldable pub outer : Of WrittenType
outer = Grammar.choose (word.Int ∷ []) (Grammar.made (λ s. form.Int s) (the word.Int)) (Grammar.both named_or_applied upper applied)

-- a type in which fewer than so many brackets are open at once
unfoldable pub IsType : List ℕ → ℕ → Phrase WrittenType
IsType source zero = λ x ts rest. ⊥
IsType source (suc n) = Means source (λ h. IsType source n) outer

unfoldable pub written : List ℕ → ℕ → List Lexeme → Read WrittenType
written source zero ts = Err fault.TooDeep
written source (suc n) ts = read source (λ h. written source n) false outer ts

-- a part of a type, in whose brackets fewer than so many are open
abbrev pub part : {A : Type 0} → List ℕ → ℕ → Of A → List Lexeme → Read A
part source n p ts = read source (λ h. written source n) false p ts
