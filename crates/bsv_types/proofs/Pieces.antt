-- A text from left to right: a word, a blank or a mark, and what comes after it.
use Rattle.std.proofs.Common.{ℕ, ◌≡◌, ◌+◌, suc, Bool, true, false, cond, ◌==◌, if◌then◌else◌, List, [], ◌∷◌, ◌++◌, take, drop, Option, Some, None, option_map, refl, sym, ap, ◌∙◌, append_assoc, true≢false, arith}
use Rattle.std.proofs.lemmas.List.{append-nil}
use Rattle.std.specs.List.{prefix_len}
use Rattle.std.specs.Option.{option_and_then}
use Rattle.bsv_types.specs.declared.attribute_text.AttributeToken.{AttributeToken}
use Rattle.bsv_types.specs.declared.attribute_text.AttributeToken.TheVariants.{Word, Comma, Open, Close}
use Rattle.bsv_types.specs.AttributeTexts.{first_is, mark, in_word, in_front, words_and_marks}
use Rattle.bsv_ast.specs.Names.{is_word}

-- pieces in front of others, where there are these
abbrev pub with_front : List AttributeToken → Option (List AttributeToken) → Option (List AttributeToken)
with_front front rest = option_map (λ pieces. front ++ pieces) rest

abbrev word_then : List ℕ → List AttributeToken → List AttributeToken
word_then word pieces = Word word ∷ pieces

-- ---- a word

of_word : (b : ℕ) (goes_on : Bool) (o : Option (List AttributeToken)) → is_word b ≡ true → option_and_then (in_front b goes_on) o ≡ option_map (in_word b goes_on) o
of_word b goes_on None h = refl
of_word b goes_on (Some pieces) h = ap (λ c. if c then Some (in_word b goes_on pieces) else if b == 32 then Some pieces else option_map (λ piece. piece ∷ pieces) (mark b)) h

starts : (b : ℕ) (o : Option (List AttributeToken)) → option_map (in_word b false) o ≡ option_map (word_then (b ∷ [])) o
starts b None = refl
starts b (Some []) = refl
starts b (Some (Word word ∷ pieces)) = refl
starts b (Some (Comma ∷ pieces)) = refl
starts b (Some (Open ∷ pieces)) = refl
starts b (Some (Close ∷ pieces)) = refl

goes_on : (b : ℕ) (word : List ℕ) (o : Option (List AttributeToken)) → option_map (in_word b true) (option_map (word_then word) o) ≡ option_map (word_then (b ∷ word)) o
goes_on b word None = refl
goes_on b word (Some pieces) = refl

last_byte : (b : ℕ) (rest : List ℕ) → is_word b ≡ true → first_is is_word rest ≡ false → words_and_marks (b ∷ rest) ≡ option_map (word_then (b ∷ [])) (words_and_marks rest)
last_byte b rest h stops =
    of_word b (first_is is_word rest) (words_and_marks rest) h
    ∙ ap (λ more. option_map (in_word b more) (words_and_marks rest)) stops ∙ starts b (words_and_marks rest)

byte_more : (b : ℕ) (rest word : List ℕ) (o : Option (List AttributeToken)) → is_word b ≡ true → first_is is_word rest ≡ true → words_and_marks rest ≡ option_map (word_then word) o → words_and_marks (b ∷ rest) ≡ option_map (word_then (b ∷ word)) o
byte_more b rest word o h more is =
    of_word b (first_is is_word rest) (words_and_marks rest) h
    ∙ ap (λ c. option_map (in_word b c) (words_and_marks rest)) more ∙ ap (option_map (in_word b true)) is ∙ goes_on b word o

abbrev ReadsWord : List ℕ → ℕ → Type 0
ReadsWord bytes n = words_and_marks bytes ≡ option_map (word_then (take n bytes)) (words_and_marks (drop n bytes))

len_more : (b : ℕ) (rest : List ℕ) → is_word b ≡ true → prefix_len is_word (b ∷ rest) ≡ suc (prefix_len is_word rest)
len_more b rest h = ap (λ c. cond c (1 + prefix_len is_word rest) 0) h ∙ omega arith

len_none : (bytes : List ℕ) → first_is is_word bytes ≡ false → prefix_len is_word bytes ≡ 0
len_none [] h = refl
len_none (b ∷ bytes) h = ap (λ c. cond c (1 + prefix_len is_word bytes) 0) h

reads : (b : ℕ) (rest : List ℕ) (more : Bool) → is_word b ≡ true → first_is is_word rest ≡ more → (more ≡ true → ReadsWord rest (prefix_len is_word rest)) → ReadsWord (b ∷ rest) (suc (prefix_len is_word rest))
reads b rest true h is below = byte_more b rest (take (prefix_len is_word rest) rest) (words_and_marks (drop (prefix_len is_word rest) rest)) h is (below refl)
reads b rest false h is below =
    last_byte b rest h is ∙ ap (λ n. option_map (word_then (b ∷ take n rest)) (words_and_marks (drop n rest))) (sym (len_none rest is))

reads_word : (bytes : List ℕ) → first_is is_word bytes ≡ true → ReadsWord bytes (prefix_len is_word bytes)
reads_word [] h = absurd (true≢false (sym h))
reads_word (b ∷ rest) h =
    reads b rest (first_is is_word rest) h refl (λ more. reads_word rest more)
    ∙ ap (λ n. option_map (word_then (take n (b ∷ rest))) (words_and_marks (drop n (b ∷ rest)))) (sym (len_more b rest h))

-- ---- in front of what is found already

pub front_start : (o : Option (List AttributeToken)) → with_front [] o ≡ o
front_start None = refl
front_start (Some pieces) = refl

pub front_end : (front : List AttributeToken) → with_front front (Some []) ≡ Some front
front_end front = ap Some (append-nil front)

moved : (front : List AttributeToken) (piece : AttributeToken) (o : Option (List AttributeToken)) → with_front front (option_map (λ pieces. piece ∷ pieces) o) ≡ with_front (front ++ piece ∷ []) o
moved front piece None = refl
moved front piece (Some pieces) = ap Some (sym (append_assoc front (piece ∷ []) pieces))

pub after_word : (front : List AttributeToken) (b : ℕ) (rest : List ℕ) → is_word b ≡ true → with_front front (words_and_marks (b ∷ rest)) ≡ with_front (front ++ Word (take (prefix_len is_word (b ∷ rest)) (b ∷ rest)) ∷ []) (words_and_marks (drop (prefix_len is_word (b ∷ rest)) (b ∷ rest)))
after_word front b rest h = ap (with_front front) (reads_word (b ∷ rest) h) ∙ moved front _ _

no_word : (b : ℕ) (goes_on : Bool) (o : Option (List AttributeToken)) → is_word b ≡ false → option_and_then (in_front b goes_on) o ≡ option_and_then (λ pieces. if b == 32 then Some pieces else option_map (λ piece. piece ∷ pieces) (mark b)) o
no_word b goes_on None h = refl
no_word b goes_on (Some pieces) h = ap (λ c. if c then Some (in_word b goes_on pieces) else if b == 32 then Some pieces else option_map (λ piece. piece ∷ pieces) (mark b)) h

same : (o : Option (List AttributeToken)) → option_and_then (λ pieces. Some pieces) o ≡ o
same None = refl
same (Some pieces) = refl

pub after_blank : (front : List AttributeToken) (b : ℕ) (rest : List ℕ) → is_word b ≡ false → (b == 32) ≡ true → with_front front (words_and_marks (b ∷ rest)) ≡ with_front front (words_and_marks rest)
after_blank front b rest h is =
    ap (with_front front) (
    no_word b (first_is is_word rest) (words_and_marks rest) h
    ∙ ap (λ c. option_and_then (λ pieces. if c then Some pieces else option_map (λ piece. piece ∷ pieces) (mark b)) (words_and_marks rest)) is
    ∙ same (words_and_marks rest)
    )

of_mark : (b : ℕ) (rest : List ℕ) → is_word b ≡ false → (b == 32) ≡ false → words_and_marks (b ∷ rest) ≡ option_and_then (λ pieces. option_map (λ piece. piece ∷ pieces) (mark b)) (words_and_marks rest)
of_mark b rest h is =
    no_word b (first_is is_word rest) (words_and_marks rest) h
    ∙ ap (λ c. option_and_then (λ pieces. if c then Some pieces else option_map (λ piece. piece ∷ pieces) (mark b)) (words_and_marks rest)) is

marked : (m : Option AttributeToken) (piece : AttributeToken) (o : Option (List AttributeToken)) → m ≡ Some piece → option_and_then (λ pieces. option_map (λ x. x ∷ pieces) m) o ≡ option_map (λ pieces. piece ∷ pieces) o
marked m piece None h = refl
marked m piece (Some pieces) h = ap (λ (x : Option AttributeToken). option_map (λ y. y ∷ pieces) x) h

pub after_mark : (front : List AttributeToken) (b : ℕ) (rest : List ℕ) (piece : AttributeToken) → is_word b ≡ false → (b == 32) ≡ false → mark b ≡ Some piece → with_front front (words_and_marks (b ∷ rest)) ≡ with_front (front ++ piece ∷ []) (words_and_marks rest)
after_mark front b rest piece h is m = ap (with_front front) (of_mark b rest h is ∙ marked (mark b) piece (words_and_marks rest) m) ∙ moved front piece (words_and_marks rest)

unmarked : (m : Option AttributeToken) (o : Option (List AttributeToken)) → m ≡ None → option_and_then (λ pieces. option_map (λ x. x ∷ pieces) m) o ≡ None
unmarked m None h = refl
unmarked m (Some pieces) h = ap (λ (x : Option AttributeToken). option_map (λ y. y ∷ pieces) x) h

pub bad_byte : (front : List AttributeToken) (b : ℕ) (rest : List ℕ) → is_word b ≡ false → (b == 32) ≡ false → mark b ≡ None → with_front front (words_and_marks (b ∷ rest)) ≡ None
bad_byte front b rest h is m = ap (with_front front) (of_mark b rest h is ∙ unmarked (mark b) (words_and_marks rest) m)

pub ruleset reading = (front_start, front_end, after_word, after_blank, after_mark, bad_byte)
