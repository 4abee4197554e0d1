-- The tokens of a source, by cases: what may be at a place, and how the whole source is split (Bluespec
-- reference guide, "Lexical elements"). Each piece is the longest at its place. A text is what stands
-- between two quotes; `text` in a definition is the bytes of a piece, and `rest` what comes after them.
use Rattle.std.specs.Prelude.{◌≡◌, ℕ, ◌+◌, ◌<◌, ◌≤◌, Bool, true, false, ◌&&◌, ◌||◌, ◌==◌, nat_le, if◌then◌else◌, List, [], ◌∷◌, ◌++◌, length, drop, slice_range, Option, Some, None, is_some, Result, Ok, Err}
use Rattle.std.specs.List.{list_all}
use Rattle.std.specs.Char.{is_ascii_alphanumeric, is_ascii_digit, is_ascii_uppercase}
use Rattle.bsv_ast.specs.declared.text.Base.{Base}
use Rattle.bsv_ast.specs.declared.text.Literal.{Literal}
use Rattle.bsv_ast.specs.Names.{begins_name, is_word}
use Rattle.bsv_lex.specs.Bytes.{is_blank, is_decimal, in_line, in_text, first_is}
use Rattle.bsv_lex.specs.Numbers.{base_of, continues, literal}
use Rattle.bsv_lex.specs.Words.{keyword, symbol}
use Rattle.bsv_lex.specs.declared.token.Token.{Token}
use Rattle.bsv_lex.specs.declared.token.TokenKind.{TokenKind}
use Rattle.bsv_lex.specs.declared.token.TokenKind.TheVariants as kind
use Rattle.bsv_lex.specs.declared.token.LexFault.{LexFault}
use Rattle.bsv_lex.specs.declared.token.LexFault.TheVariants as fault
use Rattle.bsv_lex.specs.declared.piece.Flaw.{Flaw}
use Rattle.bsv_lex.specs.declared.piece.Flaw.TheVariants as flaw
use Rattle.bsv_lex.specs.declared.piece.Lexed.{Lexed}
use Rattle.bsv_lex.specs.declared.piece.Lexed.TheVariants as piece

-- the fault of a flaw at this place
abbrev pub fault_at : Flaw → ℕ → LexFault
fault_at flaw.BadByte at = fault.BadByte at
fault_at flaw.OpenComment at = fault.OpenComment at
fault_at flaw.BadLiteral at = fault.BadLiteral at
fault_at flaw.TooLong at = fault.TooLong at

-- a name or a number has at most 255 bytes
abbrev pub short : TokenKind → ℕ → Lexed
short k len = if nat_le len 255 then piece.Token k else piece.Fault flaw.TooLong

-- a name that is no keyword is Upper or Lower by its first letter
abbrev pub name_kind : List ℕ → TokenKind
name_kind text = if is_some (keyword text) then kind.Keyword else (if first_is is_ascii_uppercase text then kind.Upper else kind.Lower)

-- the base that a `'` and a letter at the front name
abbrev pub base_at : List ℕ → Option Base
base_at [] = None
base_at (quote ∷ []) = None
base_at (quote ∷ letter ∷ bytes) = if quote == 39 then base_of letter else None

-- malformed where the text is no number, or a letter or a digit stands directly after a base and its digits
abbrev pub number_by : Option Literal → List ℕ → List ℕ → Lexed
number_by None text rest = piece.Fault flaw.BadLiteral
number_by (Some number) text rest =
    if is_some number.base && first_is is_ascii_alphanumeric rest then piece.Fault flaw.BadLiteral
    else short kind.Number (length text)

-- a number of this text with these bytes after it
abbrev pub number_piece : List ℕ → List ℕ → Lexed
number_piece text rest = number_by (literal text) text rest

-- `"`
abbrev pub is_quote : ℕ → Bool
is_quote b = b == 34

-- `/`
abbrev pub is_slash : ℕ → Bool
is_slash b = b == 47

-- whether a text is one of the symbols
abbrev pub is_symbol : List ℕ → Bool
is_symbol text = is_some (symbol text)

-- a digit, or a `'` and the letter of a base
abbrev pub begins_number : List ℕ → Bool
begins_number bytes = first_is is_ascii_digit bytes || is_some (base_at bytes)

-- bytes that pass the test, as many as there are: the next one, if there is one, does not
pub record Run (p : ℕ → Bool) (front rest : List ℕ) : Type 0 where
  pub each : list_all p front ≡ true
  pub stops : first_is p rest ≡ false

-- nothing, or bytes that begin with a digit
abbrev pub is_size : List ℕ → Bool
is_size [] = true
is_size (b ∷ bytes) = is_ascii_digit b

-- what comes before a `'`: nothing, or a digit and then digits and `_`
pub record IsSize (size : List ℕ) : Type 0 where
  pub each : list_all is_decimal size ≡ true
  pub first : is_size size ≡ true

-- a number, as far as it goes; whether it is a good one is asked of its text
pub data IsNumber : List ℕ → List ℕ → Type 0 where
  decimal : {d : ℕ} {digits rest : List ℕ} → is_ascii_digit d ≡ true → Run is_decimal digits rest → base_at rest ≡ None → IsNumber (d ∷ digits) rest
  based : (size digits : List ℕ) (letter : ℕ) {base : Base} {rest : List ℕ} → IsSize size → base_of letter ≡ Some base → Run (continues base) digits rest → IsNumber (size ++ 39 ∷ letter ∷ digits) rest

-- whether `*/` stands somewhere in the bytes
abbrev pub has_close : List ℕ → Bool
has_close [] = false
has_close (a ∷ bytes) = (a == 42 && first_is is_slash bytes) || has_close bytes

-- whether a byte and the next one are a symbol
abbrev pub is_pair : ℕ → List ℕ → Bool
is_pair a [] = false
is_pair a (b ∷ bytes) = is_symbol (a ∷ b ∷ [])

-- whether one byte or two at the front are a symbol
abbrev pub begins_symbol : List ℕ → Bool
begins_symbol [] = false
begins_symbol (a ∷ bytes) = is_pair a bytes || is_symbol (a ∷ [])

-- `//` or `/*`
abbrev pub begins_comment : List ℕ → Bool
begins_comment [] = false
begins_comment (a ∷ bytes) = a == 47 && first_is (λ b. b == 47 || b == 42) bytes

-- whether a blank, a comment or a token begins here, be it a good one or not
abbrev pub begins : List ℕ → Bool
begins bytes = first_is is_blank bytes || first_is begins_name bytes || first_is is_quote bytes || begins_comment bytes || begins_number bytes || begins_symbol bytes

-- what the first bytes are, with the others after them: a blank or a comment, a token, or a fault
pub data Stands : Lexed → List ℕ → List ℕ → Type 0 where
  blank : {b : ℕ} {rest : List ℕ} → is_blank b ≡ true → Stands piece.Gap (b ∷ []) rest
  line : {inner rest : List ℕ} → Run in_line inner rest → Stands piece.Gap (47 ∷ 47 ∷ inner) rest
  comment : (inner : List ℕ) {rest : List ℕ} → has_close (inner ++ 42 ∷ []) ≡ false → Stands piece.Gap (47 ∷ 42 ∷ inner ++ 42 ∷ 47 ∷ []) rest
  open_comment : {inner : List ℕ} → has_close inner ≡ false → Stands (piece.Fault flaw.OpenComment) (47 ∷ 42 ∷ inner) []
  name : {b : ℕ} {inner rest : List ℕ} → begins_name b ≡ true → Run is_word inner rest → Stands (short (name_kind (b ∷ inner)) (length (b ∷ inner))) (b ∷ inner) rest
  number : {text rest : List ℕ} → IsNumber text rest → Stands (number_piece text rest) text rest
  quoted : (inner : List ℕ) {rest : List ℕ} → list_all in_text inner ≡ true → Stands (piece.Token kind.Text) (34 ∷ inner ++ 34 ∷ []) rest
  open_text : {inner rest : List ℕ} → Run in_text inner rest → first_is is_quote rest ≡ false → Stands (piece.Fault flaw.BadLiteral) (34 ∷ inner) rest
  pair : {a b : ℕ} {rest : List ℕ} → is_symbol (a ∷ b ∷ []) ≡ true → Stands (piece.Token kind.Symbol) (a ∷ b ∷ []) rest
  single : {a : ℕ} {rest : List ℕ} → is_symbol (a ∷ []) ≡ true → is_pair a rest ≡ false → Stands (piece.Token kind.Symbol) (a ∷ []) rest
  bad_byte : {b : ℕ} {rest : List ℕ} → begins (b ∷ rest) ≡ false → Stands (piece.Fault flaw.BadByte) (b ∷ []) rest

-- the token that these bytes are at this place
abbrev pub token_at : TokenKind → ℕ → List ℕ → Token
token_at k at bytes = record { kind = k; start = at; end = at + length bytes }

-- from this place on, the bytes have these tokens, and then they end, or have this fault
pub data Splits : ℕ → List ℕ → List Token → Option LexFault → Type 0 where
  end : {at : ℕ} → Splits at [] [] None
  gap : {at : ℕ} {bytes : List ℕ} {ts : List Token} {o : Option LexFault} (text rest : List ℕ) → bytes ≡ text ++ rest → Stands piece.Gap text rest → Splits (at + length text) rest ts o → Splits at bytes ts o
  token : {at : ℕ} {k : TokenKind} {bytes : List ℕ} {ts : List Token} {o : Option LexFault} (text rest : List ℕ) → bytes ≡ text ++ rest → Stands (piece.Token k) text rest → Splits (at + length text) rest ts o → Splits at bytes (token_at k at text ∷ ts) o
  broken : {at : ℕ} {f : Flaw} {bytes : List ℕ} (text rest : List ℕ) → bytes ≡ text ++ rest → Stands (piece.Fault f) text rest → Splits at bytes [] (Some (fault_at f at))

-- the whole source has these tokens
abbrev pub Tokens : List ℕ → List Token → Type 0
Tokens bytes list = Splits 0 bytes list None

-- what a text that is a token of this kind is beside
abbrev pub IsOfKind : TokenKind → List ℕ → Type 0
IsOfKind kind.Lower text = (is_some (keyword text) ≡ false) × (first_is is_ascii_uppercase text ≡ false)
IsOfKind kind.Upper text = (is_some (keyword text) ≡ false) × (first_is is_ascii_uppercase text ≡ true)
IsOfKind kind.Keyword text = is_some (keyword text) ≡ true
IsOfKind kind.Number text = is_some (literal text) ≡ true
IsOfKind kind.Text text = first_is is_quote text ≡ true
IsOfKind kind.Symbol text = is_some (symbol text) ≡ true

-- the token is its slice of the source, with what comes after it
pub record IsTokenOf (source : List ℕ) (x : Token) : Type 0 where
  pub some : x.start < x.end
  pub within : x.end ≤ length source
  pub stands : Stands (piece.Token x.kind) (slice_range source x.start x.end) (drop x.end source)
  pub kind : IsOfKind x.kind (slice_range source x.start x.end)

-- the first place of the source that breaks these rules has this fault
abbrev pub FirstFault : List ℕ → LexFault → Type 0
FirstFault bytes f = (before : List Token) × Splits 0 bytes before (Some f)

-- a call's answer is this one, unless memory ran out
abbrev pub Gives : {X Y : Type 0} → (X → Y) → Result X LexFault → Result Y LexFault → Type 0
Gives view (Ok x) read = read ≡ Ok (view x)
Gives view (Err fault.OutOfMemory) read = Unit {0}
Gives view (Err e) read = read ≡ Err e
