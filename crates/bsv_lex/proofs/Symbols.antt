-- Symbols begin with bytes that begin nothing else; and bytes that begin nothing.
use Rattle.std.proofs.Common.{◌≡◌, ℕ, Bool, true, false, cond, eqb, not, ◌||◌, List, [], ◌∷◌, Some, None, is_some, refl, ap, subst, ◌∙◌}
use Rattle.std.specs.List.{list_all}
use Rattle.std.specs.Char.{is_ascii_digit}
use Rattle.std.specs.Str.{bytes_eq}
use Rattle.std.proofs.lemmas.Slice.Eq.{bytes_eq-Decides}
use Rattle.std.proofs.lemmas.Bool.{eqb-true, and_parts, or_parts, not-true}
use Rattle.bsv_lex.specs.declared.token.TokenKind.TheVariants as kind
use Rattle.bsv_lex.specs.declared.piece.Flaw.TheVariants as flaw
use Rattle.bsv_lex.specs.declared.piece.Lexed.TheVariants as piece
use Rattle.bsv_ast.specs.Names.{begins_name}
use Rattle.bsv_lex.specs.Bytes.{is_blank, first_is}
use Rattle.bsv_lex.specs.Words.{Entry, lookup, symbol, symbols}
use Rattle.bsv_lex.specs.Tokens.{base_at, is_quote, is_symbol, begins_number}
use Rattle.bsv_lex.specs.Reading.{slash_at, symbol_at, piece_at}
use Rattle.bsv_lex.specs.Tokens.{is_pair, begins_symbol, begins_comment, begins}
use Rattle.bsv_lex.proofs.Complete.{symbol_branch}

-- a byte that begins neither a blank, a name, a number, a text nor a comment
is_mark : ℕ → Bool
is_mark b = not (is_blank b || begins_name b || is_ascii_digit b || eqb b 34 || eqb b 39 || eqb b 47)

found_first : (p : ℕ → Bool) (entry : Entry) (entries : List Entry) (text : List ℕ) (v : Bool) → bytes_eq entry.0 text ≡ v
    → first_is p entry.0 ≡ true → (is_some (lookup entries text) ≡ true → first_is p text ≡ true)
    → is_some (cond v (Some entry.1) (lookup entries text)) ≡ true → first_is p text ≡ true
found_first p entry entries text true is here more found = subst (λ (bs : List ℕ). first_is p bs ≡ true) ((bytes_eq-Decides entry.0 text).0 is) here
found_first p entry entries text false is here more found = more found

-- where each entry of a table passes a test, so does what is found in it
lookup_first : (p : ℕ → Bool) (table : List Entry) (text : List ℕ) → list_all (λ entry. first_is p entry.0) table ≡ true → is_some (lookup table text) ≡ true → first_is p text ≡ true
lookup_first p [] text each found = absurd cc
lookup_first p (entry ∷ entries) text each found =
    let parts = and_parts (first_is p entry.0) (list_all (λ e. first_is p e.0) entries) each in
    found_first p entry entries text (bytes_eq entry.0 text) refl parts.0 (lookup_first p entries text parts.1) found

marks : list_all (λ entry. first_is is_mark entry.0) symbols ≡ true
unfolding symbols is_mark
marks = refl

symbol_first : (a : ℕ) (more : List ℕ) → is_symbol (a ∷ more) ≡ true → is_mark a ≡ true
unfolding symbol
symbol_first a more found = lookup_first is_mark symbols (a ∷ more) marks found

-- what a mark is not
record Mark (b : ℕ) : Type 0 where
  blank : is_blank b ≡ false
  name : begins_name b ≡ false
  digit : is_ascii_digit b ≡ false
  text : eqb b 34 ≡ false
  base : eqb b 39 ≡ false
  slash : eqb b 47 ≡ false

mark_is : (b : ℕ) → is_mark b ≡ true → Mark b
unfolding is_mark
mark_is b is =
    let e5 = or_parts (is_blank b || begins_name b || is_ascii_digit b || eqb b 34 || eqb b 39) (eqb b 47) (not-true _ is) in
    let e4 = or_parts (is_blank b || begins_name b || is_ascii_digit b || eqb b 34) (eqb b 39) e5.0 in
    let e3 = or_parts (is_blank b || begins_name b || is_ascii_digit b) (eqb b 34) e4.0 in
    let e2 = or_parts (is_blank b || begins_name b) (is_ascii_digit b) e3.0 in
    let e1 = or_parts (is_blank b) (begins_name b) e2.0 in
    record { blank = e1.0; name = e1.1; digit = e2.1; text = e3.1; base = e4.1; slash = e5.1 }

no_base : (b : ℕ) (rest : List ℕ) → eqb b 39 ≡ false → base_at (b ∷ rest) ≡ None
no_base b [] other = refl
no_base b (c ∷ rest) other = rw other refl

no_number : (b : ℕ) (rest : List ℕ) → is_ascii_digit b ≡ false → eqb b 39 ≡ false → begins_number (b ∷ rest) ≡ false
no_number b rest digit other = rw digit (ap is_some (no_base b rest other))

mark_branch : (b : ℕ) (rest : List ℕ) → is_mark b ≡ true → piece_at (b ∷ rest) ≡ Some (symbol_at (b ∷ rest))
mark_branch b rest is = let m = mark_is b is in symbol_branch b rest m.blank m.name m.text m.slash (no_number b rest m.digit m.base)

pub pair_complete : (a b : ℕ) (rest : List ℕ) → is_symbol (a ∷ b ∷ []) ≡ true → piece_at (a ∷ b ∷ rest) ≡ Some (piece.Token kind.Symbol, 2)
pair_complete a b rest is = mark_branch a (b ∷ rest) (symbol_first a (b ∷ []) is) ∙ rw is refl

single_at : (a : ℕ) (rest : List ℕ) (v : Bool) → is_symbol (a ∷ []) ≡ v → is_pair a rest ≡ false → symbol_at (a ∷ rest) ≡ cond v (piece.Token kind.Symbol, 1) (piece.Fault flaw.BadByte, 1)
single_at a [] v is none = rw is refl
single_at a (b ∷ rest) v is none = rw none (rw is refl)

pub single_complete : (a : ℕ) (rest : List ℕ) → is_symbol (a ∷ []) ≡ true → is_pair a rest ≡ false → piece_at (a ∷ rest) ≡ Some (piece.Token kind.Symbol, 1)
single_complete a rest is none = mark_branch a rest (symbol_first a [] is) ∙ ap Some (single_at a rest true is none)

-- what begins nothing
pub record Nothing (b : ℕ) (rest : List ℕ) : Type 0 where
  pub blank : is_blank b ≡ false
  pub name : begins_name b ≡ false
  pub text : is_quote b ≡ false
  pub comment : begins_comment (b ∷ rest) ≡ false
  pub number : begins_number (b ∷ rest) ≡ false
  pub pair : is_pair b rest ≡ false
  pub single : is_symbol (b ∷ []) ≡ false

pub nothing_is : (b : ℕ) (rest : List ℕ) → begins (b ∷ rest) ≡ false → Nothing b rest
nothing_is b rest is =
    let e5 = or_parts (is_blank b || begins_name b || is_quote b || begins_comment (b ∷ rest) || begins_number (b ∷ rest)) (begins_symbol (b ∷ rest)) is in
    let e4 = or_parts (is_blank b || begins_name b || is_quote b || begins_comment (b ∷ rest)) (begins_number (b ∷ rest)) e5.0 in
    let e3 = or_parts (is_blank b || begins_name b || is_quote b) (begins_comment (b ∷ rest)) e4.0 in
    let e2 = or_parts (is_blank b || begins_name b) (is_quote b) e3.0 in
    let e1 = or_parts (is_blank b) (begins_name b) e2.0 in
    let s = or_parts (is_pair b rest) (is_symbol (b ∷ [])) e5.1 in
    record { blank = e1.0; name = e1.1; text = e2.1; comment = e3.1; number = e4.1; pair = s.0; single = s.1 }

pub is_nothing : (b : ℕ) (rest : List ℕ) → Nothing b rest → begins (b ∷ rest) ≡ false
is_nothing b rest n = rw (n.blank, n.name, n.text, n.comment, n.number, n.pair, n.single) refl

slash_bad : (rest : List ℕ) → begins_comment (47 ∷ rest) ≡ false → slash_at rest ≡ (piece.Fault flaw.BadByte, 1)
unfolding slash_at
slash_bad [] none = refl
slash_bad (b ∷ rest) none =
    let parts = or_parts (eqb b 47) (eqb b 42) none in
    rw (parts.0, parts.1) refl

slash_piece : (rest : List ℕ) → piece_at (47 ∷ rest) ≡ Some (slash_at rest)
unfolding piece_at
slash_piece rest = refl

bad_complete_at : (b : ℕ) (rest : List ℕ) (v : Bool) → eqb b 47 ≡ v → Nothing b rest → piece_at (b ∷ rest) ≡ Some (piece.Fault flaw.BadByte, 1)
bad_complete_at b rest true is n =
    let same : b ≡ 47 = eqb-true b 47 is in
    ap (λ (x : ℕ). piece_at (x ∷ rest)) same ∙ slash_piece rest ∙ ap Some (slash_bad rest (subst (λ (x : ℕ). begins_comment (x ∷ rest) ≡ false) same n.comment))
bad_complete_at b rest false is n = symbol_branch b rest n.blank n.name n.text is n.number ∙ ap Some (single_at b rest false n.single n.pair)

pub bad_complete : (b : ℕ) (rest : List ℕ) → begins (b ∷ rest) ≡ false → piece_at (b ∷ rest) ≡ Some (piece.Fault flaw.BadByte, 1)
bad_complete b rest is = bad_complete_at b rest (eqb b 47) refl (nothing_is b rest is)

-- a `/` that begins no comment begins nothing
pub slash_begins : (rest : List ℕ) → begins_comment (47 ∷ rest) ≡ false → begins (47 ∷ rest) ≡ false
unfolding symbol symbols
slash_begins [] none = refl
slash_begins (b ∷ rest) none = rw none refl
