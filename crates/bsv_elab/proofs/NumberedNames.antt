-- A Lower name stays one with `_` and a number after it: no keyword has a digit after a `_`.
use Rattle.std.proofs.Common.{◌≡◌, ℕ, ◌^◌, ◌<◌, Bool, true, false, ◌&&◌, ◌||◌, List, [], ◌∷◌, ◌++◌, length, refl, arith}
use Rattle.std.specs.Prelude.{◌==◌, codes, decimal}
use Rattle.std.specs.Char.{is_ascii_digit}
use Rattle.std.specs.List.{list_all, list_any}
use Rattle.std.proofs.lemmas.Bool.{false≢true, and_parts, and_from, or_left, or_right}
use Rattle.std.proofs.lemmas.Fmt.{decimal_nonempty}
use Rattle.bsv_lemmas.proofs.Lists.{all_joined}
use Rattle.bsv_ast.specs.Names.{grammar_words, reserved_words, begins_name, is_word, is_lower}
use Rattle.bsv_ast.proofs.Names.{lower_parts, lower_from, no_keyword, decimal_digits, digits_words}

-- ---- a digit after a `_`

abbrev begins_digit : List ℕ → Bool
begins_digit [] = false
begins_digit (d ∷ ds) = is_ascii_digit d

abbrev marked : List ℕ → Bool
marked [] = false
marked (b ∷ bytes) = (b == 95 && begins_digit bytes) || marked bytes

marked_in : (text : List ℕ) (d : ℕ) (ds : List ℕ) → is_ascii_digit d ≡ true → marked (text ++ 95 ∷ d ∷ ds) ≡ true
marked_in [] d ds h = or_left (is_ascii_digit d) (marked (d ∷ ds)) h
marked_in (b ∷ text) d ds h = or_right (b == 95 && begins_digit (text ++ 95 ∷ d ∷ ds)) (marked (text ++ 95 ∷ d ∷ ds)) (marked_in text d ds h)

grammar_unmarked : list_any marked grammar_words ≡ false
unfolding grammar_words
grammar_unmarked = refl

reserved_unmarked : list_any marked reserved_words ≡ false
unfolding reserved_words
reserved_unmarked = refl

-- ---- a number after a name

with_digits : (name ds : List ℕ) → list_all is_ascii_digit ds ≡ true → 0 < length ds → is_lower name ≡ true → is_lower (name ++ 95 ∷ ds) ≡ true
with_digits [] ds digits some h = let p = lower_parts [] h in absurd (false≢true p.named)
with_digits (b ∷ name) [] digits some h = absurd (omega arith)
with_digits (b ∷ name) (d ∷ ds) digits some h =
    let p = lower_parts (b ∷ name) h in
    let named = and_parts (begins_name b) (list_all is_word name) p.named in
    let first = and_parts (is_ascii_digit d) (list_all is_ascii_digit ds) digits in
    let words : list_all is_word (95 ∷ d ∷ ds) ≡ true = digits_words (d ∷ ds) digits in
    lower_from ((b ∷ name) ++ 95 ∷ d ∷ ds) (record {
      named = and_from (begins_name b) (list_all is_word (name ++ 95 ∷ d ∷ ds)) named.0 (all_joined is_word name (95 ∷ d ∷ ds) named.1 words);
      small = p.small;
      free = no_keyword marked grammar_unmarked reserved_unmarked ((b ∷ name) ++ 95 ∷ d ∷ ds) (marked_in (b ∷ name) d ds first.0);
    })

pub numbered_lower : (name : List ℕ) (k : ℕ) → k < 2 ^ 64 → is_lower name ≡ true → is_lower (name ++ (codes "_" ++ decimal k)) ≡ true
numbered_lower name k below h = with_digits name (decimal k) (decimal_digits k below) (decimal_nonempty k below) h
