-- What is at a place is read there, and at each place of a text something stands.
use Rattle.std.proofs.Common.{◌≡◌, ℕ, ◌+◌, Bool, true, false, cond, eqb, ◌&&◌, List, [], ◌∷◌, ◌++◌, length, Option, Some, None, is_some, refl, sym, ap, subst, ◌∙◌, append_assoc, arith, length-append}
use Rattle.std.specs.Char.{is_ascii_digit}
use Rattle.std.proofs.lemmas.List.{append-nil}
use Rattle.bsv_ast.specs.declared.text.Base.{Base}
use Rattle.bsv_lex.specs.declared.token.TokenKind.TheVariants as kind
use Rattle.bsv_lex.specs.declared.piece.Flaw.TheVariants as flaw
use Rattle.bsv_lex.specs.declared.piece.Lexed.{Lexed}
use Rattle.bsv_lex.specs.declared.piece.Lexed.TheVariants as piece
use Rattle.bsv_lex.specs.Reading.{piece_at}
use Rattle.bsv_lex.specs.Tokens as t
use Rattle.std.proofs.lemmas.Bool.{eqb-true, and_parts}
use Rattle.bsv_ast.specs.Names.{begins_name, is_word}
use Rattle.bsv_lex.specs.Bytes.{is_blank, is_decimal, in_line, in_text, first_is}
use Rattle.bsv_lex.specs.Numbers.{base_of, continues}
use Rattle.bsv_lex.specs.Tokens.{base_at, is_quote, is_slash, is_symbol, begins_number}
use Rattle.bsv_lex.specs.Tokens.{Run, IsSize, IsNumber, has_close, is_pair, begins_comment, begins, Stands}
use Rattle.bsv_lex.proofs.Complete.{blank_complete, line_complete, comment_complete, open_complete, name_complete, number_complete, text_complete, open_text_complete}
use Rattle.bsv_lex.proofs.Symbols.{pair_complete, single_complete, bad_complete, slash_begins, is_nothing}

two_more : (inner : List ℕ) → 2 + length inner ≡ length (47 ∷ 47 ∷ inner)
two_more inner = omega arith

pub place_read : (what : Lexed) (text rest : List ℕ) → Stands what text rest → piece_at (text ++ rest) ≡ Some (what, length text)
place_read what text rest (t.Stands.blank {b = b} is) = blank_complete b rest is
place_read what text rest (t.Stands.line {inner = inner} run) = line_complete inner rest run ∙ ap (λ n. Some (piece.Gap, n)) (two_more inner)
place_read what text rest (t.Stands.comment inner none) =
    let parts : (47 ∷ 42 ∷ inner ++ 42 ∷ 47 ∷ []) ++ rest ≡ 47 ∷ 42 ∷ inner ++ 42 ∷ 47 ∷ rest = append_assoc (47 ∷ 42 ∷ inner) (42 ∷ 47 ∷ []) rest in
    let len : 2 + (length inner + 2) ≡ length (47 ∷ 42 ∷ inner ++ 42 ∷ 47 ∷ []) = omega (arith, length-append inner (42 ∷ 47 ∷ [])) in
    ap piece_at parts ∙ comment_complete inner rest none ∙ ap (λ n. Some (piece.Gap, n)) len
place_read what text rest (t.Stands.open_comment {inner = inner} none) = ap piece_at (append-nil (47 ∷ 42 ∷ inner)) ∙ open_complete inner none ∙ ap (λ n. Some (piece.Fault flaw.OpenComment, n)) (two_more inner)
place_read what text rest (t.Stands.name {b = b} {inner = inner} is run) = name_complete b inner rest is run
place_read what text rest (t.Stands.number is) = number_complete text rest is
place_read what text rest (t.Stands.quoted inner each) =
    let parts : (34 ∷ inner ++ 34 ∷ []) ++ rest ≡ 34 ∷ inner ++ 34 ∷ rest = append_assoc (34 ∷ inner) (34 ∷ []) rest in
    let len : length inner + 2 ≡ length (34 ∷ inner ++ 34 ∷ []) = omega (arith, length-append inner (34 ∷ [])) in
    ap piece_at parts ∙ text_complete inner rest each ∙ ap (λ n. Some (piece.Token kind.Text, n)) len
place_read what text rest (t.Stands.open_text {inner = inner} run none) = open_text_complete inner rest run none ∙ ap (λ n. Some (piece.Fault flaw.BadLiteral, n)) (omega arith)
place_read what text rest (t.Stands.pair {a = a} {b = b} is) = pair_complete a b rest is
place_read what text rest (t.Stands.single {a = a} is none) = single_complete a rest is none
place_read what text rest (t.Stands.bad_byte {b = b} is) = bad_complete b rest is

-- ---- at each place something stands

-- the bytes that pass a test, and the rest
record Cut (p : ℕ → Bool) (bytes : List ℕ) : Type 0 where
  front : List ℕ
  back : List ℕ
  parts : bytes ≡ front ++ back
  run : Run p front back

cut_at : (p : ℕ → Bool) (b : ℕ) (bytes : List ℕ) (v : Bool) → p b ≡ v → Cut p bytes → Cut p (b ∷ bytes)
cut_at p b bytes true e c = record { front = b ∷ c.front; back = c.back; parts = ap (λ (bs : List ℕ). b ∷ bs) c.parts; run = record { each = rw (e, c.run.each) refl; stops = c.run.stops } }
cut_at p b bytes false e c = record { front = []; back = b ∷ bytes; parts = refl; run = record { each = refl; stops = e } }

cut : (p : ℕ → Bool) (bytes : List ℕ) → Cut p bytes
cut p [] = record { front = []; back = []; parts = refl; run = record { each = refl; stops = refl } }
cut p (b ∷ bytes) = cut_at p b bytes (p b) refl (cut p bytes)

-- what is at the front
pub data Found (bytes : List ℕ) : Type 0 where
  found : (what : Lexed) (text rest : List ℕ) → bytes ≡ text ++ rest → Stands what text rest → Found bytes

name_found : (b : ℕ) (bytes : List ℕ) → begins_name b ≡ true → Found (b ∷ bytes)
name_found b bytes is =
    let c = cut is_word bytes in
    found _ (b ∷ c.front) c.back (ap (λ (bs : List ℕ). b ∷ bs) c.parts) (t.Stands.name is c.run)

quote_found : (front back bytes : List ℕ) → bytes ≡ front ++ back → Run in_text front back → (v : Bool) → first_is is_quote back ≡ v → Found (34 ∷ bytes)
quote_found front back bytes parts run false is = found _ (34 ∷ front) back (ap (λ (bs : List ℕ). 34 ∷ bs) parts) (t.Stands.open_text run is)
quote_found front [] bytes parts run true is = absurd cc
quote_found front (q ∷ back) bytes parts run true is =
    let quote : q ≡ 34 = eqb-true q 34 is in
    let all : bytes ≡ front ++ 34 ∷ back = parts ∙ ap (λ (x : ℕ). front ++ x ∷ back) quote in
    found _ (34 ∷ front ++ 34 ∷ []) back (ap (λ (bs : List ℕ). 34 ∷ bs) all ∙ sym (append_assoc (34 ∷ front) (34 ∷ []) back)) (t.Stands.quoted front run.each)

text_found : (bytes : List ℕ) → Found (34 ∷ bytes)
text_found bytes = let c = cut in_text bytes in quote_found c.front c.back bytes c.parts c.run (first_is is_quote c.back) refl

-- where the first `*/` stands, if one does
data Closing (bytes : List ℕ) : Type 0 where
  closed : (inner rest : List ℕ) → bytes ≡ inner ++ 42 ∷ 47 ∷ rest → has_close (inner ++ 42 ∷ []) ≡ false → Closing bytes
  open_to_end : has_close bytes ≡ false → Closing bytes

star_first : (a : ℕ) (inner rest : List ℕ) → first_is is_slash (inner ++ 42 ∷ 47 ∷ rest) ≡ first_is is_slash (inner ++ 42 ∷ [])
star_first a [] rest = refl
star_first a (b ∷ inner) rest = refl

closing_here : (a : ℕ) (bytes : List ℕ) → (eqb a 42 && first_is is_slash bytes) ≡ true → Closing (a ∷ bytes)
closing_here a [] is = absurd (let e = and_parts (eqb a 42) false is in cc)
closing_here a (b ∷ bytes) is =
    let e = and_parts (eqb a 42) (eqb b 47) is in
    let star : a ≡ 42 = eqb-true a 42 e.0 in
    let slash : b ≡ 47 = eqb-true b 47 e.1 in
    closed [] bytes (ap (λ (x : ℕ). x ∷ b ∷ bytes) star ∙ ap (λ (x : ℕ). 42 ∷ x ∷ bytes) slash) refl

closing_later : (a : ℕ) (bytes : List ℕ) → (eqb a 42 && first_is is_slash bytes) ≡ false → Closing bytes → Closing (a ∷ bytes)
closing_later a bytes not_here (closed inner rest parts none) =
    let here : (eqb a 42 && first_is is_slash (inner ++ 42 ∷ [])) ≡ false = ap (λ v. eqb a 42 && v) (sym (star_first a inner rest)) ∙ ap (λ (bs : List ℕ). eqb a 42 && first_is is_slash bs) (sym parts) ∙ not_here in
    closed (a ∷ inner) rest (ap (λ (bs : List ℕ). a ∷ bs) parts) (rw (here, none) refl)
closing_later a bytes not_here (open_to_end none) = open_to_end (rw (not_here, none) refl)

closing_at : (a : ℕ) (bytes : List ℕ) (v : Bool) → (eqb a 42 && first_is is_slash bytes) ≡ v → Closing bytes → Closing (a ∷ bytes)
closing_at a bytes true is c = closing_here a bytes is
closing_at a bytes false is c = closing_later a bytes is c

closing : (bytes : List ℕ) → Closing bytes
closing [] = open_to_end refl
closing (a ∷ bytes) = closing_at a bytes (eqb a 42 && first_is is_slash bytes) refl (closing bytes)

block_found : (bytes : List ℕ) → Closing bytes → Found (47 ∷ 42 ∷ bytes)
block_found bytes (closed inner rest parts none) =
    found _ (47 ∷ 42 ∷ inner ++ 42 ∷ 47 ∷ []) rest (ap (λ (bs : List ℕ). 47 ∷ 42 ∷ bs) parts ∙ sym (append_assoc (47 ∷ 42 ∷ inner) (42 ∷ 47 ∷ []) rest)) (t.Stands.comment inner none)
block_found bytes (open_to_end none) = found _ (47 ∷ 42 ∷ bytes) [] (sym (append-nil (47 ∷ 42 ∷ bytes))) (t.Stands.open_comment none)

line_found : (bytes : List ℕ) → Found (47 ∷ 47 ∷ bytes)
line_found bytes =
    let c = cut in_line bytes in
    found _ (47 ∷ 47 ∷ c.front) c.back (ap (λ (bs : List ℕ). 47 ∷ 47 ∷ bs) c.parts) (t.Stands.line c.run)

slash_found : (b : ℕ) (bytes : List ℕ) (v w : Bool) → eqb b 47 ≡ v → eqb b 42 ≡ w → Found (47 ∷ b ∷ bytes)
slash_found b bytes true w is other = subst (λ (x : ℕ). Found (47 ∷ x ∷ bytes)) (sym (eqb-true b 47 is)) (line_found bytes)
slash_found b bytes false true is other = subst (λ (x : ℕ). Found (47 ∷ x ∷ bytes)) (sym (eqb-true b 42 other)) (block_found bytes (closing bytes))
slash_found b bytes false false is other =
    let none : begins_comment (47 ∷ b ∷ bytes) ≡ false = rw (is, other) refl in
    found _ (47 ∷ []) (b ∷ bytes) refl (t.Stands.bad_byte (slash_begins (b ∷ bytes) none))

comment_found : (bytes : List ℕ) → Found (47 ∷ bytes)
comment_found [] = found _ (47 ∷ []) [] refl (t.Stands.bad_byte (slash_begins [] refl))
comment_found (b ∷ bytes) = slash_found b bytes (eqb b 47) (eqb b 42) refl refl

-- a `'` and a letter that names a base
data Based (bytes : List ℕ) (base : Base) : Type 0 where
  names : (letter : ℕ) (more : List ℕ) → bytes ≡ 39 ∷ letter ∷ more → base_of letter ≡ Some base → Based bytes base

based_at : (a letter : ℕ) (more : List ℕ) (base : Base) (v : Bool) → eqb a 39 ≡ v → cond v (base_of letter) None ≡ Some base → Based (a ∷ letter ∷ more) base
based_at a letter more base true is e = names letter more (ap (λ (x : ℕ). x ∷ letter ∷ more) (eqb-true a 39 is)) e
based_at a letter more base false is e = absurd cc

base_parts : (bytes : List ℕ) (base : Base) → base_at bytes ≡ Some base → Based bytes base
base_parts [] base e = absurd cc
base_parts (a ∷ []) base e = absurd cc
base_parts (a ∷ letter ∷ more) base e = based_at a letter more base (eqb a 39) refl e

based_found : (size back : List ℕ) (base : Base) → IsSize size → Based back base → Found (size ++ back)
based_found size back base good (names letter more parts is) =
    let c = cut (continues base) more in
    let all : back ≡ (39 ∷ letter ∷ c.front) ++ c.back = parts ∙ ap (λ (bs : List ℕ). 39 ∷ letter ∷ bs) c.parts in
    found _ (size ++ 39 ∷ letter ∷ c.front) c.back (ap (λ (bs : List ℕ). size ++ bs) all ∙ sym (append_assoc size (39 ∷ letter ∷ c.front) c.back)) (t.Stands.number (t.IsNumber.based size c.front letter good is c.run))

digits_found : (d : ℕ) (front back : List ℕ) (o : Option Base) → is_ascii_digit d ≡ true → Run is_decimal front back → base_at back ≡ o → Found ((d ∷ front) ++ back)
digits_found d front back None is run none = found _ (d ∷ front) back refl (t.Stands.number (t.IsNumber.decimal is run none))
digits_found d front back (Some base) is run some = based_found (d ∷ front) back base (record { each = rw (is, run.each) refl; first = is }) (base_parts back base some)

digit_found : (d : ℕ) (bytes : List ℕ) → is_ascii_digit d ≡ true → Found (d ∷ bytes)
digit_found d bytes is =
    let c = cut is_decimal bytes in
    subst (λ (bs : List ℕ). Found (d ∷ bs)) (sym c.parts) (digits_found d c.front c.back (base_at c.back) is c.run refl)

symbol_found : (a : ℕ) (rest : List ℕ) (v w : Bool) → is_pair a rest ≡ v → is_symbol (a ∷ []) ≡ w → (is_pair a rest ≡ false → is_symbol (a ∷ []) ≡ false → begins (a ∷ rest) ≡ false) → Found (a ∷ rest)
symbol_found a [] true w is other none = absurd cc
symbol_found a (b ∷ rest) true w is other none = found _ (a ∷ b ∷ []) rest refl (t.Stands.pair is)
symbol_found a rest false true is other none = found _ (a ∷ []) rest refl (t.Stands.single other is)
symbol_found a rest false false is other none = found _ (a ∷ []) rest refl (t.Stands.bad_byte (none is other))

no_comment : (b : ℕ) (rest : List ℕ) → eqb b 47 ≡ false → begins_comment (b ∷ rest) ≡ false
no_comment b rest is = rw is refl

base_found : (b : ℕ) (rest : List ℕ) (o : Option Base) → is_blank b ≡ false → begins_name b ≡ false → eqb b 34 ≡ false → eqb b 47 ≡ false → is_ascii_digit b ≡ false → base_at (b ∷ rest) ≡ o → Found (b ∷ rest)
base_found b rest (Some base) blank name quote slash digit is = based_found [] (b ∷ rest) base (record { each = refl; first = refl }) (base_parts (b ∷ rest) base is)
base_found b rest None blank name quote slash digit is =
    let number : begins_number (b ∷ rest) ≡ false = rw digit (ap is_some is) in
    symbol_found b rest (is_pair b rest) (is_symbol (b ∷ [])) refl refl (λ pair single. is_nothing b rest (record { blank = blank; name = name; text = quote; comment = no_comment b rest slash; number = number; pair = pair; single = single }))

found_by : (b : ℕ) (rest : List ℕ) (v1 v2 v3 v4 v5 : Bool) → is_blank b ≡ v1 → begins_name b ≡ v2 → eqb b 34 ≡ v3 → eqb b 47 ≡ v4 → is_ascii_digit b ≡ v5 → Found (b ∷ rest)
found_by b rest true v2 v3 v4 v5 blank name quote slash digit = found _ (b ∷ []) rest refl (t.Stands.blank blank)
found_by b rest false true v3 v4 v5 blank name quote slash digit = name_found b rest name
found_by b rest false false true v4 v5 blank name quote slash digit = subst (λ (x : ℕ). Found (x ∷ rest)) (sym (eqb-true b 34 quote)) (text_found rest)
found_by b rest false false false true v5 blank name quote slash digit = subst (λ (x : ℕ). Found (x ∷ rest)) (sym (eqb-true b 47 slash)) (comment_found rest)
found_by b rest false false false false true blank name quote slash digit = digit_found b rest digit
found_by b rest false false false false false blank name quote slash digit = base_found b rest (base_at (b ∷ rest)) blank name quote slash digit refl

pub place_found : (b : ℕ) (rest : List ℕ) → Found (b ∷ rest)
place_found b rest = found_by b rest (is_blank b) (begins_name b) (eqb b 34) (eqb b 47) (is_ascii_digit b) refl refl refl refl refl
