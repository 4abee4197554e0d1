-- What the text of a token is by its kind.
use Rattle.std.proofs.Common.{◌≡◌, ℕ, Bool, true, false, cond, ◌&&◌, List, [], ◌∷◌, ◌++◌, length, Option, Some, None, is_some, refl, ap, subst, nat_le}
use Rattle.std.specs.Char.{is_ascii_alphanumeric, is_ascii_uppercase}
use Rattle.bsv_ast.specs.declared.text.Literal.{Literal}
use Rattle.bsv_lex.specs.declared.token.TokenKind.{TokenKind}
use Rattle.bsv_lex.specs.declared.token.TokenKind.TheVariants as kind
use Rattle.bsv_lex.specs.declared.piece.Flaw.{Flaw}
use Rattle.bsv_lex.specs.declared.piece.Flaw.TheVariants as flaw
use Rattle.bsv_lex.specs.declared.piece.Lexed.{Lexed}
use Rattle.bsv_lex.specs.declared.piece.Lexed.TheVariants as piece
use Rattle.bsv_lex.specs.Bytes.{first_is}
use Rattle.bsv_lex.specs.Numbers.{literal}
use Rattle.bsv_lex.specs.Words.{keyword}
use Rattle.bsv_lex.specs.Tokens as t
use Rattle.bsv_lex.specs.Tokens.{short, name_kind, number_by, number_piece, IsOfKind, Stands}

kind_is : (j k : TokenKind) → piece.Token j ≡ piece.Token k → j ≡ k
kind_is j k e = cc

no_gap : (k : TokenKind) → piece.Gap ≡ piece.Token k → ⊥
no_gap k e = cc

no_fault : (f : Flaw) (k : TokenKind) → piece.Fault f ≡ piece.Token k → ⊥
no_fault f k e = cc

short_right : (j k : TokenKind) (v : Bool) (text : List ℕ) → IsOfKind j text → cond v (piece.Token j) (piece.Fault flaw.TooLong) ≡ piece.Token k → IsOfKind k text
short_right j k true text right e = subst (λ (i : TokenKind). IsOfKind i text) (kind_is j k e) right
short_right j k false text right e = absurd (no_fault flaw.TooLong k e)

name_right : (text : List ℕ) (v w : Bool) → is_some (keyword text) ≡ v → first_is is_ascii_uppercase text ≡ w → IsOfKind (cond v kind.Keyword (cond w kind.Upper kind.Lower)) text
name_right text true w word upper = word
name_right text false true word upper = (word, upper)
name_right text false false word upper = (word, upper)

number_good : (number : Literal) (k : TokenKind) (v : Bool) (text : List ℕ) → literal text ≡ Some number → cond v (piece.Fault flaw.BadLiteral) (short kind.Number (length text)) ≡ piece.Token k → IsOfKind k text
number_good number k true text is e = absurd (no_fault flaw.BadLiteral k e)
number_good number k false text is e = short_right kind.Number k (nat_le (length text) 255) text (ap is_some is) e

number_right : (o : Option Literal) (k : TokenKind) (text rest : List ℕ) → literal text ≡ o → number_by o text rest ≡ piece.Token k → IsOfKind k text
number_right None k text rest is e = absurd (no_fault flaw.BadLiteral k e)
number_right (Some number) k text rest is e = number_good number k (is_some number.base && first_is is_ascii_alphanumeric rest) text is e

pub kind_right : (what : Lexed) (k : TokenKind) (text rest : List ℕ) → Stands what text rest → what ≡ piece.Token k → IsOfKind k text
kind_right what k text rest (t.Stands.blank is) e = absurd (no_gap k e)
kind_right what k text rest (t.Stands.line run) e = absurd (no_gap k e)
kind_right what k text rest (t.Stands.comment inner none) e = absurd (no_gap k e)
kind_right what k text rest (t.Stands.open_comment none) e = absurd (no_fault flaw.OpenComment k e)
kind_right what k text rest (t.Stands.name {b = b} {inner = inner} is run) e =
    short_right (name_kind (b ∷ inner)) k (nat_le (length (b ∷ inner)) 255) (b ∷ inner) (name_right (b ∷ inner) (is_some (keyword (b ∷ inner))) (first_is is_ascii_uppercase (b ∷ inner)) refl refl) e
kind_right what k text rest (t.Stands.number is) e = number_right (literal text) k text rest refl e
kind_right what k text rest (t.Stands.quoted inner each) e = subst (λ (i : TokenKind). IsOfKind i (34 ∷ inner ++ 34 ∷ [])) (kind_is kind.Text k e) refl
kind_right what k text rest (t.Stands.open_text run none) e = absurd (no_fault flaw.BadLiteral k e)
kind_right what k text rest (t.Stands.pair {a = a} {b = b} is) e = subst (λ (i : TokenKind). IsOfKind i (a ∷ b ∷ [])) (kind_is kind.Symbol k e) is
kind_right what k text rest (t.Stands.single {a = a} is none) e = subst (λ (i : TokenKind). IsOfKind i (a ∷ [])) (kind_is kind.Symbol k e) is
kind_right what k text rest (t.Stands.bad_byte is) e = absurd (no_fault flaw.BadByte k e)
