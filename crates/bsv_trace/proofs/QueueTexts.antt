-- The words of a queue, one by one.
use Rattle.std.proofs.Common.{◌≡◌, ◌∙◌, ℕ, zero, suc, ◌+◌, ◌≤◌, ◌<◌, ◌==◌, false, if◌then◌else◌, List, [], ◌∷◌, ◌++◌, map, length, drop, slice_get, Some, refl, sym, ap, append-nil, arith, codes}
use Rattle.std.specs.List.{join_with_byte}
use Rattle.std.proofs.lemmas.Bool.Decides.{nat_tests}
use Rattle.bsv_lemmas.proofs.Places.{drop_one}
use Rattle.std.proofs.lemmas.Option.{slice_get-get_or}
use Rattle.bsv_bits.specs.Words.{Bits, bit}
use Rattle.bsv_bits.specs.Constants.{constant_text}
use Rattle.bsv_prim.specs.Table.{word_at}
use Rattle.bsv_trace.specs.Texts.{word_text, words_from}

-- the words from a place on begin with the one that is there
pub words_here : (words : List Bits) (number : ℕ) (word : Bits) → slice_get words number ≡ Some word
    → words_from number (drop number words) ≡ word_text number word ++ words_from (number + 1) (drop (number + 1) words)
words_here words number word at = ap (words_from number) (drop_one words number word at)

-- the same of the word that a register shows
pub words_there : (words : List Bits) (number : ℕ) (word : Bits) → number < length words → word ≡ word_at words number
    → words_from number (drop number words) ≡ word_text number word ++ words_from (number + 1) (drop (number + 1) words)
words_there words number word within is = words_here words number word (slice_get-get_or words number (bit false) within ∙ ap Some (sym is))

pub no_words : (words : List Bits) (number : ℕ) → length words ≤ number → words_from number (drop number words) ≡ []
no_words [] zero up = refl
no_words [] (suc number) up = refl
no_words (w ∷ words) zero up = absurd (omega arith)
no_words (w ∷ words) (suc number) up = later words number (suc number) (omega arith)
  where
    later : (words : List Bits) (number place : ℕ) → length words ≤ number → words_from place (drop number words) ≡ []
    later [] zero place up = refl
    later [] (suc number) place up = refl
    later (w ∷ words) zero place up = absurd (omega arith)
    later (w ∷ words) (suc number) place up = later words number place (omega arith)

not_first : (number : ℕ) → ((number + 1) == 0) ≡ false
not_first number = grind (arith, nat_tests)

joined_after : (number : ℕ) (word : Bits) (words : List Bits) → word_text (number + 1) word ++ words_from (number + 1 + 1) words ≡ 32 ∷ join_with_byte 32 (map constant_text (word ∷ words))
joined_after number word [] =
    append-nil (word_text (number + 1) word) ∙ ap (λ t. if t then constant_text word else codes " " ++ constant_text word) (not_first number)
joined_after number word (next ∷ words) =
    ap (λ t. (if t then constant_text word else codes " " ++ constant_text word) ++ words_from (number + 1 + 1) (next ∷ words)) (not_first number)
    ∙ ap (λ l. (codes " " ++ constant_text word) ++ l) (joined_after (number + 1) next words)

pub words_joined : (words : List Bits) → words_from 0 words ≡ join_with_byte 32 (map constant_text words)
words_joined [] = refl
words_joined (word ∷ []) = append-nil (constant_text word)
words_joined (word ∷ next ∷ words) = ap (λ l. constant_text word ++ l) (joined_after 0 next words)
