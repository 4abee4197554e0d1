-- How the code reads a source: the piece at the front of some bytes, and how many bytes it takes; then the
-- tokens, piece by piece. No public clause rests on this file; it is proved to be what Tokens says.
use Rattle.std.specs.Prelude.{ℕ, zero, suc, ◌+◌, ◌&&◌, ◌==◌, if◌then◌else◌, List, [], ◌∷◌, ◌++◌, length, take, drop, Option, Some, None, Result, Ok, Err}
use Rattle.std.specs.List.{prefix_len}
use Rattle.bsv_ast.specs.declared.text.Base.{Base}
use Rattle.bsv_ast.specs.Names.{begins_name, is_word}
use Rattle.bsv_lex.specs.Bytes.{is_blank, is_decimal, in_line, in_text, first_is}
use Rattle.bsv_lex.specs.Numbers.{continues}
use Rattle.bsv_lex.specs.Tokens.{fault_at, short, name_kind, base_at, number_piece, is_quote, is_slash, is_symbol, begins_number}
use Rattle.bsv_lex.specs.declared.token.Token.{Token}
use Rattle.bsv_lex.specs.declared.token.TokenKind.TheVariants as kind
use Rattle.bsv_lex.specs.declared.token.LexFault.{LexFault}
use Rattle.bsv_lex.specs.declared.piece.Flaw.TheVariants as flaw
use Rattle.bsv_lex.specs.declared.piece.Lexed.{Lexed}
use Rattle.bsv_lex.specs.declared.piece.Lexed.TheVariants as piece

-- a name or a keyword at the front
unfoldable pub name_at : List ℕ → Lexed × ℕ
name_at bytes = (short (name_kind (take (prefix_len is_word bytes) bytes)) (prefix_len is_word bytes), prefix_len is_word bytes)

-- how many bytes a `'`, the letter of the base and its digits go on for
abbrev pub base_len : Option Base → List ℕ → ℕ
base_len None bytes = 0
base_len (Some base) bytes = 2 + prefix_len (continues base) (drop 2 bytes)

-- how many bytes a number at the front goes on for
abbrev pub number_len : List ℕ → ℕ
number_len bytes = let front = prefix_len is_decimal bytes in front + base_len (base_at (drop front bytes)) (drop front bytes)

-- a number at the front
unfoldable pub number_at : List ℕ → Lexed × ℕ
number_at bytes = (number_piece (take (number_len bytes) bytes) (drop (number_len bytes) bytes), number_len bytes)

-- a text, from the byte after the quote that opens it on
unfoldable pub text_at : List ℕ → Lexed × ℕ
text_at bytes =
    let len = prefix_len in_text bytes in
    if first_is is_quote (drop len bytes) then (piece.Token kind.Text, len + 2) else (piece.Fault flaw.BadLiteral, len + 1)

-- the place after the first `*/`, where the bytes begin at this place
abbrev pub close_from : ℕ → List ℕ → Option ℕ
close_from at [] = None
close_from at (a ∷ bytes) = if a == 42 && first_is is_slash bytes then Some (at + 2) else close_from (at + 1) bytes

-- a comment, from the byte after `/*` on, by the place after its `*/`
abbrev pub comment_by : Option ℕ → List ℕ → Lexed × ℕ
comment_by None bytes = (piece.Fault flaw.OpenComment, 2 + length bytes)
comment_by (Some len) bytes = (piece.Gap, 2 + len)

-- what begins with `/`, from the byte after it on: a comment, or a byte that begins nothing
unfoldable pub slash_at : List ℕ → Lexed × ℕ
slash_at [] = (piece.Fault flaw.BadByte, 1)
slash_at (b ∷ bytes) =
    if b == 47 then (piece.Gap, 2 + prefix_len in_line bytes)
    else (if b == 42 then comment_by (close_from 0 bytes) bytes else (piece.Fault flaw.BadByte, 1))

-- a symbol of one byte, else a byte that begins nothing
abbrev pub one_byte : ℕ → Lexed × ℕ
one_byte a = if is_symbol (a ∷ []) then (piece.Token kind.Symbol, 1) else (piece.Fault flaw.BadByte, 1)

-- a symbol of two bytes, else what one byte is
abbrev pub symbol_at : List ℕ → Lexed × ℕ
symbol_at [] = (piece.Fault flaw.BadByte, 1)
symbol_at (a ∷ []) = one_byte a
symbol_at (a ∷ b ∷ bytes) = if is_symbol (a ∷ b ∷ []) then (piece.Token kind.Symbol, 2) else one_byte a

-- what is at the front, by its first byte; None at the end
unfoldable pub piece_at : List ℕ → Option (Lexed × ℕ)
piece_at [] = None
piece_at (b ∷ bytes) =
    if is_blank b then Some (piece.Gap, 1)
    else (if begins_name b then Some (name_at (b ∷ bytes))
    else (if b == 34 then Some (text_at bytes)
    else (if b == 47 then Some (slash_at bytes)
    else (if begins_number (b ∷ bytes) then Some (number_at (b ∷ bytes))
    else Some (symbol_at (b ∷ bytes))))))

-- the tokens so far, and the piece at this place
abbrev pub with_piece : Lexed → ℕ → ℕ → List Token → Result (List Token) LexFault
with_piece piece.Gap at len out = Ok out
with_piece (piece.Token k) at len out = Ok (out ++ record { kind = k; start = at; end = at + len } ∷ [])
with_piece (piece.Fault f) at len out = Err (fault_at f at)

-- the next step where the first one gave a value
abbrev pub and_then : {A B : Type 0} → Result A LexFault → (A → Result B LexFault) → Result B LexFault
and_then (Ok x) next = next x
and_then (Err e) next = Err e

-- the one answer where there is no piece, and the other where there is one
abbrev pub on_piece : {A : Type 0} → Option (Lexed × ℕ) → A → (Lexed × ℕ → A) → A
on_piece None other found = other
on_piece (Some x) other found = found x

-- the tokens so far, and those of the bytes from this place on, in at most so many pieces
unfoldable pub tokens_from : ℕ → List Token → ℕ → List ℕ → Result (List Token) LexFault
tokens_from zero out at bytes = Ok out
tokens_from (suc n) out at bytes =
    on_piece (piece_at bytes) (Ok out) (λ x. and_then (with_piece x.0 at x.1 out) (λ more. tokens_from n more (at + x.1) (drop x.1 bytes)))

-- the tokens of a whole source, which has at most as many pieces as bytes
unfoldable pub tokens_of : List ℕ → Result (List Token) LexFault
tokens_of bytes = tokens_from (length bytes) [] 0 bytes
