-- No keyword has a `$`, and none begins with a capital letter.
use Rattle.std.proofs.Common.{◌≡◌, ℕ, Bool, true, false, ◌&&◌, ◌||◌, List, [], ◌∷◌, ◌++◌, refl}
use Rattle.std.specs.Prelude.{◌==◌}
use Rattle.std.specs.List.{list_any}
use Rattle.std.proofs.lemmas.Bool.{or_left, or_right}
use Rattle.bsv_ast.specs.Names.{grammar_words, reserved_words, is_keyword, is_capital}
use Rattle.bsv_ast.proofs.Names.{no_keyword}

abbrev pub has_dollar : List ℕ → Bool
has_dollar [] = false
has_dollar (b ∷ bytes) = b == 36 || has_dollar bytes

-- a capital letter comes after a `$`
abbrev pub marked : List ℕ → Bool
marked [] = false
marked (b ∷ bytes) = (b == 36 && is_capital bytes) || marked bytes

-- it is no keyword by its looks
abbrev pub is_odd : List ℕ → Bool
is_odd text = is_capital text || has_dollar text

grammar_even : list_any is_odd grammar_words ≡ false
unfolding grammar_words
grammar_even = refl

reserved_even : list_any is_odd reserved_words ≡ false
unfolding reserved_words
reserved_even = refl

odd_free : (text : List ℕ) → is_odd text ≡ true → is_keyword text ≡ false
odd_free text h = no_keyword is_odd grammar_even reserved_even text h

pub capital_free : (text : List ℕ) → is_capital text ≡ true → is_keyword text ≡ false
capital_free text h = odd_free text (or_left (is_capital text) (has_dollar text) h)

pub dollar_free : (text : List ℕ) → has_dollar text ≡ true → is_keyword text ≡ false
dollar_free text h = odd_free text (or_right (is_capital text) (has_dollar text) h)

-- there is a `$` where one is put
pub dollar_in : (text rest : List ℕ) → has_dollar (text ++ 36 ∷ rest) ≡ true
dollar_in [] rest = refl
dollar_in (b ∷ text) rest = or_right (b == 36) (has_dollar (text ++ 36 ∷ rest)) (dollar_in text rest)

pub marked_in : (text rest : List ℕ) → is_capital rest ≡ true → marked (text ++ 36 ∷ rest) ≡ true
marked_in [] rest h = or_left (is_capital rest) (marked rest) h
marked_in (b ∷ text) rest h = or_right (b == 36 && is_capital (text ++ 36 ∷ rest)) (marked (text ++ 36 ∷ rest)) (marked_in text rest h)
