-- What is at a place is what is read there.
use Rattle.std.proofs.Common.{◌≡◌, ℕ, ◌+◌, Bool, true, false, eqb, ◌&&◌, List, [], ◌∷◌, ◌++◌, length, take, drop, Some, None, refl, sym, ap, ◌∙◌, append_assoc, arith, length-append}
use Rattle.std.specs.List.{prefix_len, list_all}
use Rattle.std.specs.Char.{is_ascii_digit}
use Rattle.std.proofs.lemmas.List.{drop_at, take_at}
use Rattle.std.proofs.lemmas.Bool.Decides.{nat_tests}
use Rattle.std.proofs.lemmas.Bool.{and_parts, false_from_ne_true, or_parts}
use Rattle.bsv_ast.specs.declared.text.Base.{Base}
use Rattle.bsv_lex.specs.declared.token.TokenKind.TheVariants as kind
use Rattle.bsv_lex.specs.declared.piece.Flaw.TheVariants as flaw
use Rattle.bsv_lex.specs.declared.piece.Lexed.TheVariants as piece
use Rattle.bsv_ast.specs.Names.{begins_name, is_word}
use Rattle.bsv_lex.specs.Bytes.{is_blank, is_decimal, in_line, in_text, first_is}
use Rattle.bsv_lex.specs.Numbers.{base_of, continues}
use Rattle.bsv_lex.specs.Tokens.{short, name_kind, base_at, number_piece, is_quote, is_slash, begins_number}
use Rattle.bsv_lex.specs.Reading.{name_at, base_len, number_len, number_at, text_at, close_from, comment_by, slash_at, symbol_at, piece_at}
use Rattle.bsv_lex.specs.Tokens as t
use Rattle.bsv_lex.specs.Tokens.{Run, is_size, IsSize, IsNumber, has_close, is_pair, begins_symbol, begins_comment, begins, Stands}

-- a run is all that is counted
pub prefix_at : (p : ℕ → Bool) (front rest : List ℕ) → list_all p front ≡ true → first_is p rest ≡ false → prefix_len p (front ++ rest) ≡ length front
prefix_at p [] [] each stops = refl
prefix_at p [] (b ∷ rest) each stops = rw stops refl
prefix_at p (a ∷ front) rest each stops =
    let parts = and_parts (p a) (list_all p front) each in
    rw (parts.0) (omega (arith, prefix_at p front rest parts.1 stops))

-- ---- the branches of the reading function

name_branch : (b : ℕ) (bytes : List ℕ) → begins_name b ≡ true → piece_at (b ∷ bytes) ≡ Some (name_at (b ∷ bytes))
unfolding piece_at
name_branch b bytes is =
    let blank : is_blank b ≡ false = false_from_ne_true (is_blank b) (λ e. grind (arith, nat_tests)) in
    rw (blank, is) refl

number_branch : (b : ℕ) (bytes : List ℕ) → is_blank b ≡ false → begins_name b ≡ false → eqb b 34 ≡ false → eqb b 47 ≡ false → begins_number (b ∷ bytes) ≡ true → piece_at (b ∷ bytes) ≡ Some (number_at (b ∷ bytes))
unfolding piece_at
number_branch b bytes blank name quote slash is = rw (blank, name, quote, slash, is) refl

pub symbol_branch : (b : ℕ) (bytes : List ℕ) → is_blank b ≡ false → begins_name b ≡ false → eqb b 34 ≡ false → eqb b 47 ≡ false → begins_number (b ∷ bytes) ≡ false → piece_at (b ∷ bytes) ≡ Some (symbol_at (b ∷ bytes))
unfolding piece_at
symbol_branch b bytes blank name quote slash number = rw (blank, name, quote, slash, number) refl

pub blank_complete : (b : ℕ) (rest : List ℕ) → is_blank b ≡ true → piece_at (b ∷ rest) ≡ Some (piece.Gap, 1)
unfolding piece_at
blank_complete b rest is = rw is refl

-- ---- comments

pub line_complete : (inner rest : List ℕ) → Run in_line inner rest → piece_at (47 ∷ 47 ∷ inner ++ rest) ≡ Some (piece.Gap, 2 + length inner)
unfolding piece_at slash_at
line_complete inner rest run = ap (λ n. Some (piece.Gap, 2 + n)) (prefix_at in_line inner rest run.each run.stops)

first_same : (inner more rest : List ℕ) → first_is is_slash (inner ++ 42 ∷ more) ≡ first_is is_slash (inner ++ 42 ∷ rest)
first_same [] more rest = refl
first_same (a ∷ inner) more rest = refl

close_complete : (at : ℕ) (inner rest : List ℕ) → has_close (inner ++ 42 ∷ []) ≡ false → close_from at (inner ++ 42 ∷ 47 ∷ rest) ≡ Some (at + (length inner + 2))
close_complete at [] rest none = refl
close_complete at (a ∷ inner) rest none =
    let parts = or_parts (eqb a 42 && first_is is_slash (inner ++ 42 ∷ [])) (has_close (inner ++ 42 ∷ [])) none in
    let here : (eqb a 42 && first_is is_slash (inner ++ 42 ∷ 47 ∷ rest)) ≡ false = ap (λ v. eqb a 42 && v) (first_same inner (47 ∷ rest) []) ∙ parts.0 in
    let len : at + 1 + (length inner + 2) ≡ at + (length (a ∷ inner) + 2) = omega arith in
    rw here (close_complete (at + 1) inner rest parts.1 ∙ ap Some len)

never_complete : (at : ℕ) (inner : List ℕ) → has_close inner ≡ false → close_from at inner ≡ None
never_complete at [] none = refl
never_complete at (a ∷ inner) none =
    let parts = or_parts (eqb a 42 && first_is is_slash inner) (has_close inner) none in
    rw (parts.0) (never_complete (at + 1) inner parts.1)

pub comment_complete : (inner rest : List ℕ) → has_close (inner ++ 42 ∷ []) ≡ false → piece_at (47 ∷ 42 ∷ inner ++ 42 ∷ 47 ∷ rest) ≡ Some (piece.Gap, 2 + (length inner + 2))
unfolding piece_at slash_at
comment_complete inner rest none = ap (λ o. Some (comment_by o (inner ++ 42 ∷ 47 ∷ rest))) (close_complete 0 inner rest none) ∙ ap (λ n. Some (piece.Gap, 2 + n)) (omega arith)

pub open_complete : (inner : List ℕ) → has_close inner ≡ false → piece_at (47 ∷ 42 ∷ inner) ≡ Some (piece.Fault flaw.OpenComment, 2 + length inner)
unfolding piece_at slash_at
open_complete inner none = ap (λ o. Some (comment_by o inner)) (never_complete 0 inner none)

-- ---- names

-- a name of this text and length is read
name_read : (bytes text : List ℕ) (n : ℕ) → prefix_len is_word bytes ≡ n → take n bytes ≡ text → name_at bytes ≡ (short (name_kind text) n, n)
unfolding name_at
name_read bytes text n len front = rw len (rw front refl)

pub name_complete : (b : ℕ) (inner rest : List ℕ) → begins_name b ≡ true → Run is_word inner rest → piece_at (b ∷ inner ++ rest) ≡ Some (short (name_kind (b ∷ inner)) (length (b ∷ inner)), length (b ∷ inner))
name_complete b inner rest is run =
    let word : is_word b ≡ true = grind (arith, nat_tests) in
    let each : list_all is_word (b ∷ inner) ≡ true = rw (word, run.each) refl in
    let len : prefix_len is_word (b ∷ inner ++ rest) ≡ length (b ∷ inner) = prefix_at is_word (b ∷ inner) rest each run.stops in
    let front : take (length (b ∷ inner)) (b ∷ inner ++ rest) ≡ b ∷ inner = take_at (b ∷ inner) rest (length (b ∷ inner)) refl in
    name_branch b (inner ++ rest) is ∙ ap Some (name_read (b ∷ inner ++ rest) (b ∷ inner) (length (b ∷ inner)) len front)

-- ---- texts

pub text_complete : (inner rest : List ℕ) → list_all in_text inner ≡ true → piece_at (34 ∷ inner ++ 34 ∷ rest) ≡ Some (piece.Token kind.Text, length inner + 2)
unfolding piece_at text_at
text_complete inner rest each =
    let len : prefix_len in_text (inner ++ 34 ∷ rest) ≡ length inner = prefix_at in_text inner (34 ∷ rest) each refl in
    let behind : drop (length inner) (inner ++ 34 ∷ rest) ≡ 34 ∷ rest = drop_at inner (34 ∷ rest) (length inner) refl in
    rw len (rw behind refl)

pub open_text_complete : (inner rest : List ℕ) → Run in_text inner rest → first_is is_quote rest ≡ false → piece_at (34 ∷ inner ++ rest) ≡ Some (piece.Fault flaw.BadLiteral, length inner + 1)
unfolding piece_at text_at
open_text_complete inner rest run none =
    let len : prefix_len in_text (inner ++ rest) ≡ length inner = prefix_at in_text inner rest run.each run.stops in
    let behind : drop (length inner) (inner ++ rest) ≡ rest = drop_at inner rest (length inner) refl in
    rw len (rw (behind, none) refl)

-- ---- numbers

-- what a digit is not
pub digit_else : (d : ℕ) → is_ascii_digit d ≡ true → (is_blank d ≡ false) × (begins_name d ≡ false) × (eqb d 34 ≡ false) × (eqb d 47 ≡ false)
digit_else d is = (false_from_ne_true (is_blank d) (λ e. grind (arith, nat_tests)), false_from_ne_true (begins_name d) (λ e. grind (arith, nat_tests)), false_from_ne_true (eqb d 34) (λ e. grind (arith, nat_tests)), false_from_ne_true (eqb d 47) (λ e. grind (arith, nat_tests)))

digit_branch : (d : ℕ) (bytes : List ℕ) → is_ascii_digit d ≡ true → piece_at (d ∷ bytes) ≡ Some (number_at (d ∷ bytes))
digit_branch d bytes is =
    let other = digit_else d is in
    number_branch d bytes other.0 other.1 other.2 other.3 (rw is refl)

-- a number of this text is read, where it goes on for so many bytes
number_cut : (text rest : List ℕ) → number_len (text ++ rest) ≡ length text → number_at (text ++ rest) ≡ (number_piece text rest, length text)
unfolding number_at
number_cut text rest len =
    let front : take (length text) (text ++ rest) ≡ text = take_at text rest (length text) refl in
    let behind : drop (length text) (text ++ rest) ≡ rest = drop_at text rest (length text) refl in
    rw len (rw (front, behind) refl)

digit_decimal : (d : ℕ) → is_ascii_digit d ≡ true → is_decimal d ≡ true
digit_decimal d is = rw is refl

decimal_len : (d : ℕ) (digits rest : List ℕ) → is_ascii_digit d ≡ true → Run is_decimal digits rest → base_at rest ≡ None → number_len ((d ∷ digits) ++ rest) ≡ length (d ∷ digits)
decimal_len d digits rest is run none =
    let each : list_all is_decimal (d ∷ digits) ≡ true = rw (digit_decimal d is, run.each) refl in
    let len : prefix_len is_decimal ((d ∷ digits) ++ rest) ≡ length (d ∷ digits) = prefix_at is_decimal (d ∷ digits) rest each run.stops in
    let behind : drop (length (d ∷ digits)) ((d ∷ digits) ++ rest) ≡ rest = drop_at (d ∷ digits) rest (length (d ∷ digits)) refl in
    ap (λ n. n + base_len (base_at (drop n ((d ∷ digits) ++ rest))) (drop n ((d ∷ digits) ++ rest))) len
    ∙ ap (λ (bs : List ℕ). length (d ∷ digits) + base_len (base_at bs) bs) behind
    ∙ ap (λ o. length (d ∷ digits) + base_len o rest) none
    ∙ omega arith

based_len : (size digits rest : List ℕ) (letter : ℕ) (base : Base) → list_all is_decimal size ≡ true → base_of letter ≡ Some base → Run (continues base) digits rest → number_len (size ++ (39 ∷ letter ∷ digits ++ rest)) ≡ length size + (2 + length digits)
based_len size digits rest letter base each is run =
    let len : prefix_len is_decimal (size ++ (39 ∷ letter ∷ digits ++ rest)) ≡ length size = prefix_at is_decimal size (39 ∷ letter ∷ digits ++ rest) each refl in
    let behind : drop (length size) (size ++ (39 ∷ letter ∷ digits ++ rest)) ≡ 39 ∷ letter ∷ digits ++ rest = drop_at size (39 ∷ letter ∷ digits ++ rest) (length size) refl in
    ap (λ n. n + base_len (base_at (drop n (size ++ (39 ∷ letter ∷ digits ++ rest)))) (drop n (size ++ (39 ∷ letter ∷ digits ++ rest)))) len
    ∙ ap (λ (bs : List ℕ). length size + base_len (base_at bs) bs) behind
    ∙ ap (λ o. length size + base_len o (39 ∷ letter ∷ digits ++ rest)) is
    ∙ ap (λ n. length size + (2 + n)) (prefix_at (continues base) digits rest run.each run.stops)

based_branch : (size more : List ℕ) (letter : ℕ) (base : Base) → is_size size ≡ true → base_of letter ≡ Some base → piece_at (size ++ 39 ∷ letter ∷ more) ≡ Some (number_at (size ++ 39 ∷ letter ∷ more))
based_branch [] more letter base first is = number_branch 39 (letter ∷ more) refl refl refl refl (rw is refl)
based_branch (d ∷ size) more letter base first is = digit_branch d (size ++ 39 ∷ letter ∷ more) first

pub number_complete : (text rest : List ℕ) → IsNumber text rest → piece_at (text ++ rest) ≡ Some (number_piece text rest, length text)
number_complete text rest (t.IsNumber.decimal {d = d} {digits = digits} is run none) =
    digit_branch d (digits ++ rest) is ∙ ap Some (number_cut (d ∷ digits) rest (decimal_len d digits rest is run none))
number_complete text rest (t.IsNumber.based size digits letter {base = base} good is run) =
    let parts : (size ++ 39 ∷ letter ∷ digits) ++ rest ≡ size ++ (39 ∷ letter ∷ digits ++ rest) = append_assoc size (39 ∷ letter ∷ digits) rest in
    let len : length size + (2 + length digits) ≡ length (size ++ 39 ∷ letter ∷ digits) = omega (arith, length-append size (39 ∷ letter ∷ digits)) in
    ap piece_at parts ∙ based_branch size (digits ++ rest) letter base good.first is
    ∙ ap (λ (bs : List ℕ). Some (number_at bs)) (sym parts)
    ∙ ap Some (number_cut (size ++ 39 ∷ letter ∷ digits) rest (ap number_len parts ∙ based_len size digits rest letter base good.each is run ∙ len))
