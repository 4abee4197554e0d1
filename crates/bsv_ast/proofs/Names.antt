-- Names byte by byte: a Lower name is made of letters, digits and `_`, so that it has no dot and no `$`, and it begins with no
-- capital letter. A text with a mark that no keyword has is no keyword. The digits of a number may be in a name.
use Rattle.std.proofs.Common.{◌≡◌, ℕ, ◌+◌, ◌%◌, ◌^◌, ◌<◌, Bool, true, false, ◌&&◌, ◌||◌, not, List, [], ◌∷◌, ◌++◌, refl, sym, subst, arith}
use Rattle.std.specs.Prelude.{◌==◌, decimal}
use Rattle.std.specs.Char.{is_ascii_digit, is_ascii_uppercase}
use Rattle.std.specs.Int.{is_in_range}
use Rattle.std.specs.List.{list_all, list_any}
use Rattle.std.specs.Str.{bytes_eq}
use Rattle.std.proofs.lemmas.Bool.{false≢true, both_ways, and_parts, and_from, or_parts, or_from, or_left, not-true, not_from_false}
use Rattle.std.proofs.lemmas.Fmt.{decimal_by_steps}
use Rattle.std.proofs.lemmas.Slice.Eq.{bytes_eq-Decides}
use Rattle.bsv_lemmas.proofs.Digits.{digit_byte}
use Rattle.bsv_lemmas.proofs.Lists.{all_joined}
use Rattle.bsv_lemmas.proofs.Truths.{neither_holds}
use Rattle.bsv_ast.specs.Names.{grammar_words, reserved_words, is_listed, is_keyword, begins_name, is_word, is_name, is_capital, is_lower}

-- ---- bytes of a name

-- where a name may begin with the byte, it may go on with it
longer : (digit capital small other : Bool) → ((capital || small) || other) ≡ true → (((digit || capital) || small) || other) ≡ true
longer true capital small other h = refl
longer false capital small other h = h

pub begins_word : (b : ℕ) → begins_name b ≡ true → is_word b ≡ true
begins_word b h = longer (is_in_range 48 57 b) (is_in_range 65 90 b) (is_in_range 97 122 b) (b == 95) h

pub word_no_dollar : (b : ℕ) → is_word b ≡ true → b ≡ 36 → ⊥
word_no_dollar b h is = false≢true (subst (λ (c : ℕ). is_word c ≡ true) is h)

pub word_no_dot : (b : ℕ) → is_word b ≡ true → b ≡ 46 → ⊥
word_no_dot b h is = false≢true (subst (λ (c : ℕ). is_word c ≡ true) is h)

name_words : (text : List ℕ) → is_name text ≡ true → list_all is_word text ≡ true
name_words [] h = absurd (false≢true h)
name_words (b ∷ bytes) h =
    let p = and_parts (begins_name b) (list_all is_word bytes) h in
    and_from (is_word b) (list_all is_word bytes) (begins_word b p.0) p.1

-- ---- a Lower name by its parts

pub record LowerParts (text : List ℕ) : Type 0 where
  pub named : is_name text ≡ true
  pub small : is_capital text ≡ false
  pub free : is_keyword text ≡ false

pub lower_parts : (text : List ℕ) → is_lower text ≡ true → LowerParts text
unfolding is_lower
lower_parts text h =
    let p = and_parts (is_name text && not (is_capital text)) (not (is_keyword text)) h in
    let q = and_parts (is_name text) (not (is_capital text)) p.0 in
    record { named = q.0; small = not-true (is_capital text) q.1; free = not-true (is_keyword text) p.1 }

pub lower_from : (text : List ℕ) → LowerParts text → is_lower text ≡ true
unfolding is_lower
lower_from text h =
    and_from (is_name text && not (is_capital text)) (not (is_keyword text))
    (and_from (is_name text) (not (is_capital text)) h.named (not_from_false (is_capital text) h.small))
    (not_from_false (is_keyword text) h.free)

pub lower_words : (text : List ℕ) → is_lower text ≡ true → list_all is_word text ≡ true
lower_words text h = name_words text (lower_parts text h).named

-- it is not empty
pub lower_some : (text rest : List ℕ) → is_lower text ≡ true → text ++ rest ≡ [] → ⊥
lower_some [] rest h e = let p = lower_parts [] h in false≢true p.named
lower_some (b ∷ text) rest h e = cc

-- it begins with a small letter or `_`
abbrev pub begins_small : List ℕ → Bool
begins_small [] = false
begins_small (b ∷ bytes) = begins_name b && not (is_ascii_uppercase b)

name_small : (text : List ℕ) → is_name text ≡ true → is_capital text ≡ false → begins_small text ≡ true
name_small [] h k = absurd (false≢true h)
name_small (b ∷ bytes) h k =
    and_from (begins_name b) (not (is_ascii_uppercase b)) (and_parts (begins_name b) (list_all is_word bytes) h).0
    (not_from_false (is_ascii_uppercase b) k)

pub lower_small : (text : List ℕ) → is_lower text ≡ true → begins_small text ≡ true
lower_small text h = let p = lower_parts text h in name_small text p.named p.small

-- ---- keywords

not_listed : (mark : List ℕ → Bool) (words : List (List ℕ)) (text : List ℕ) → list_any mark words ≡ false → mark text ≡ true
    → is_listed words text ≡ false
not_listed mark [] text none h = refl
not_listed mark (word ∷ words) text none h =
    let p = or_parts (mark word) (list_any mark words) none in
    let other : bytes_eq word text ≡ true → ⊥ = λ is. both_ways (mark word) p.0
    (subst (λ (x : List ℕ). mark x ≡ true) (sym ((bytes_eq-Decides word text).0 is)) h) in
    neither_holds (bytes_eq word text) (is_listed words text) other (not_listed mark words text p.1 h)

-- a text with a mark that no keyword has
pub no_keyword : (mark : List ℕ → Bool) → list_any mark grammar_words ≡ false → list_any mark reserved_words ≡ false → (text : List ℕ)
    → mark text ≡ true → is_keyword text ≡ false
unfolding is_keyword
no_keyword mark grammar reserved text h =
    or_from (is_listed grammar_words text) (is_listed reserved_words text) (not_listed mark grammar_words text grammar h)
    (not_listed mark reserved_words text reserved h)

-- ---- numbers

pub decimal_digits : (n : ℕ) → n < 2 ^ 64 → list_all is_ascii_digit (decimal n) ≡ true
decimal_digits = decimal_by_steps (λ n ds. list_all is_ascii_digit ds ≡ true)
    (λ n below. and_from (is_ascii_digit (48 + n)) true (digit_byte n below) refl)
    (λ n ds above h. all_joined is_ascii_digit ds ((48 + n % 10) ∷ []) h
    (and_from (is_ascii_digit (48 + n % 10)) true (digit_byte (n % 10) (omega arith)) refl))

pub digit_word : (d : ℕ) → is_ascii_digit d ≡ true → is_word d ≡ true
digit_word d h =
    or_left _ (d == 95) (or_left (is_in_range 48 57 d || is_in_range 65 90 d) (is_in_range 97 122 d)
    (or_left (is_in_range 48 57 d) (is_in_range 65 90 d) h))

pub digits_words : (ds : List ℕ) → list_all is_ascii_digit ds ≡ true → list_all is_word ds ≡ true
digits_words [] h = refl
digits_words (d ∷ ds) h =
    let p = and_parts (is_ascii_digit d) (list_all is_ascii_digit ds) h in
    and_from (is_word d) (list_all is_word ds) (digit_word d p.0) (digits_words ds p.1)

pub decimal_words : (n : ℕ) → n < 2 ^ 64 → list_all is_word (decimal n) ≡ true
decimal_words n below = digits_words (decimal n) (decimal_digits n below)
