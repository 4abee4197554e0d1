-- The bytes of names and of numbers.
use Rattle.std.proofs.Common.{◌≡◌, ◌∙◌, ℕ, zero, suc, ◌+◌, ◌*◌, ◌/◌, ◌%◌, ◌^◌, ◌<◌, ◌≤◌, Bool, true, ◌||◌, ◌==◌, List, [], ◌∷◌, ◌++◌, codes, decimal, length, refl, sym, ap, subst, arith, append_assoc}
use Rattle.std.proofs.lemmas.Bool.Decides.{nat_tests}
use Rattle.std.proofs.lemmas.Fmt.{decimal_by_steps, decimal_injective, decimal_nonempty}
use Rattle.std.proofs.lemmas.List.{same_from_push}
use Rattle.std.proofs.Math.Pow.{pow_mono}
use Rattle.std.proofs.lemmas.Nat.{pow-add}
use Rattle.std.specs.Char.{is_ascii_digit}
use Rattle.std.proofs.lemmas.Bool.{or_left}
use Rattle.bsv_lemmas.proofs.Digits.{digit_byte}
use Rattle.bsv_bits.specs.Words.{Bits, IsWord}
use Rattle.bsv_bits.specs.Constants.{constant_text, hex_digits, hex_glyph, digit_count}
use Rattle.bsv_ast.specs.Names.{begins_name, is_word}
use Rattle.bsv_vtext.specs.Widths.{width_fits}
use Rattle.bsv_vtext.specs.Modules.{is_name_byte}
use Rattle.bsv_vtext.proofs.Runs.{Each, Passes, Stops, each_append, each_weaker, split, regrouped}

-- what is in a name, in a number or in a constant
unfoldable pub is_glyph : ℕ → Bool
is_glyph b = is_name_byte b || b == 39

-- ---- which bytes are glyphs

pub word_is_name_byte : (b : ℕ) → is_word b ≡ true → is_name_byte b ≡ true
word_is_name_byte b e = or_left (is_word b) (b == 36) e

pub name_byte_is_glyph : (b : ℕ) → is_name_byte b ≡ true → is_glyph b ≡ true
unfolding is_glyph
name_byte_is_glyph b e = or_left (is_name_byte b) (b == 39) e

pub first_is_name_byte : (b : ℕ) → begins_name b ≡ true → is_name_byte b ≡ true
first_is_name_byte b e = grind (arith, nat_tests)

pub digit_is_name_byte : (b : ℕ) → is_ascii_digit b ≡ true → is_name_byte b ≡ true
digit_is_name_byte b e = grind (arith, nat_tests)

pub digit_begins_no_name : (b : ℕ) → is_ascii_digit b ≡ true → begins_name b ≡ true → ⊥
digit_begins_no_name b e f = grind (arith, nat_tests)

-- ---- numbers

pub decimal_digits : (n : ℕ) → n < 2 ^ 64 → Each (Passes is_ascii_digit) (decimal n)
decimal_digits = decimal_by_steps (λ n ds. Each (Passes is_ascii_digit) ds)
    (λ n h. (digit_byte n h, tt))
    (λ n ds h some. each_append (Passes is_ascii_digit) ds ((48 + n % 10) ∷ []) some (digit_byte (n % 10) (omega arith), tt))

pub decimal_name_bytes : (n : ℕ) → n < 2 ^ 64 → Each (Passes is_name_byte) (decimal n)
decimal_name_bytes n h = each_weaker (Passes is_ascii_digit) (Passes is_name_byte) digit_is_name_byte (decimal n) (decimal_digits n h)

pub decimal_glyphs : (n : ℕ) → n < 2 ^ 64 → Each (Passes is_glyph) (decimal n)
decimal_glyphs n h = each_weaker (Passes is_name_byte) (Passes is_glyph) name_byte_is_glyph (decimal n) (decimal_name_bytes n h)

pub same_number : (m n : ℕ) (r s : List ℕ) → m < 2 ^ 64 → n < 2 ^ 64 → Stops is_glyph r → Stops is_glyph s → decimal m ++ r ≡ decimal n ++ s
    → (m ≡ n) × (r ≡ s)
same_number m n r s below under stop end e =
    let parts = split is_glyph (decimal m) (decimal n) r s (decimal_glyphs m below) (decimal_glyphs n under) stop end e in
    (decimal_injective m n below under parts.0, parts.1)

-- a width is some, and small enough to be told by a number
pub fits_some : (width : ℕ) → width_fits width ≡ true → 1 ≤ width
fits_some width e = grind (arith, nat_tests)

pub fits_below : (width : ℕ) → width_fits width ≡ true → width < 2 ^ 64
fits_below width e = let most : width ≤ 128 = grind (arith, nat_tests) in omega arith

-- ---- constants

hex_glyph_byte : (n : ℕ) → n < 16 → is_name_byte (hex_glyph n) ≡ true
hex_glyph_byte n h = grind (arith, nat_tests)

hex_name_bytes : (count n : ℕ) → Each (Passes is_name_byte) (hex_digits count n)
hex_name_bytes zero n = tt
hex_name_bytes (suc count) n =
    each_append (Passes is_name_byte) (hex_digits count (n / 16)) (hex_glyph (n % 16) ∷ []) (hex_name_bytes count (n / 16))
    (hex_glyph_byte (n % 16) (omega arith), tt)

same_glyph : (m n : ℕ) → m < 16 → n < 16 → hex_glyph m ≡ hex_glyph n → m ≡ n
same_glyph m n h l e = grind (arith, nat_tests)

same_from_parts : (m n : ℕ) → m / 16 ≡ n / 16 → m % 16 ≡ n % 16 → m ≡ n
same_from_parts m n e f = omega arith

same_hex : (count m n : ℕ) → m < 16 ^ count → n < 16 ^ count → hex_digits count m ≡ hex_digits count n → m ≡ n
same_hex zero m n h l e = omega arith
same_hex (suc count) m n h l e =
    let parts = same_from_push (hex_digits count (m / 16)) (hex_digits count (n / 16)) (hex_glyph (m % 16)) (hex_glyph (n % 16)) e in
    same_from_parts m n
    (same_hex count (m / 16) (n / 16) (quotient_below m count h) (quotient_below n count l) parts.0)
    (same_glyph (m % 16) (n % 16) (omega arith) (omega arith) parts.1)
  where
    quotient_below : (n count : ℕ) → n < 16 ^ suc count → n / 16 < 16 ^ count
    quotient_below n count h = omega arith

power_of_four : (k : ℕ) → 2 ^ (4 * k) ≡ 16 ^ k
power_of_four zero = refl
power_of_four (suc k) =
    let four : 4 * suc k ≡ 4 + 4 * k = omega arith in
    let so : 2 ^ (4 * suc k) ≡ 16 * 2 ^ (4 * k) = ap (λ (n : ℕ). 2 ^ n) four ∙ pow-add 2 4 (4 * k) in
    omega (arith, so, power_of_four k)

-- a word has as many digits as it asks for
word_below : (w : Bits) → IsWord w → w.value < 16 ^ digit_count w.width
word_below w word =
    let wide : w.width ≤ 4 * digit_count w.width = omega arith in
    let more : 2 ^ w.width ≤ 2 ^ (4 * digit_count w.width) = pow_mono {i = w.width} {j = 4 * digit_count w.width} wide in
    let same : 2 ^ (4 * digit_count w.width) ≡ 16 ^ digit_count w.width = power_of_four (digit_count w.width) in
    omega (arith, word.below)

width_below : (w : Bits) → IsWord w → w.width < 2 ^ 64
width_below w word = omega (arith, word.most)

pub constant_glyphs : (w : Bits) → IsWord w → Each (Passes is_glyph) (constant_text w)
unfolding constant_text is_glyph
constant_glyphs w word =
    each_append (Passes is_glyph) (decimal w.width ++ codes "'h") (hex_digits (digit_count w.width) w.value)
    (each_append (Passes is_glyph) (decimal w.width) (codes "'h") (decimal_glyphs w.width (width_below w word)) (refl, (refl, tt)))
    (each_weaker (Passes is_name_byte) (Passes is_glyph) name_byte_is_glyph (hex_digits (digit_count w.width) w.value)
    (hex_name_bytes (digit_count w.width) w.value))

same_word : (v w : Bits) → v.width ≡ w.width → v.value ≡ w.value → v ≡ w
same_word v w e f = ap (λ (n : ℕ). record { width = n; value = v.value }) e ∙ ap (λ (n : ℕ). record { width = w.width; value = n }) f

pub same_constant : (v w : Bits) → IsWord v → IsWord w → constant_text v ≡ constant_text w → v ≡ w
unfolding constant_text
same_constant v w word other e =
    let whole : decimal v.width ++ (codes "'h" ++ hex_digits (digit_count v.width) v.value) ≡ decimal w.width
    ++ (codes "'h" ++ hex_digits (digit_count w.width) w.value)
    = regrouped (decimal v.width) (codes "'h") (hex_digits (digit_count v.width) v.value) (decimal w.width) (codes "'h")
    (hex_digits (digit_count w.width) w.value) e in
    let parts = split is_name_byte (decimal v.width) (decimal w.width) _ _ (decimal_name_bytes v.width (width_below v word))
    (decimal_name_bytes w.width (width_below w other)) refl refl whole in
    let width : v.width ≡ w.width = decimal_injective v.width w.width (width_below v word) (width_below w other) parts.0 in
    let digits : hex_digits (digit_count v.width) v.value ≡ hex_digits (digit_count w.width) w.value = cc (parts.1) in
    let under : w.value < 16 ^ digit_count v.width = subst (λ (n : ℕ). w.value < 16 ^ digit_count n) (sym width) (word_below w other) in
    let value : v.value ≡ w.value = same_hex (digit_count v.width) v.value w.value (word_below v word) under
    (digits ∙ ap (λ (n : ℕ). hex_digits (digit_count n) w.value) (sym width)) in
    same_word v w width value

-- a constant begins with a digit
abbrev pub BeginsWith : (ℕ → Bool) → List ℕ → Type 0
BeginsWith p [] = ⊥
BeginsWith p (b ∷ bs) = p b ≡ true

digits_first : (ds : List ℕ) (r : List ℕ) → 0 < length ds → Each (Passes is_ascii_digit) ds → BeginsWith is_ascii_digit (ds ++ r)
digits_first [] r some digits = absurd (omega arith)
digits_first (d ∷ ds) r some digits = digits.0

pub constant_first : (w : Bits) → IsWord w → BeginsWith is_ascii_digit (constant_text w)
unfolding constant_text
constant_first w word =
    subst (BeginsWith is_ascii_digit) (sym (append_assoc (decimal w.width) (codes "'h") (hex_digits (digit_count w.width) w.value)))
    (digits_first (decimal w.width) (codes "'h" ++ hex_digits (digit_count w.width) w.value) (decimal_nonempty w.width (width_below w word))
    (decimal_digits w.width (width_below w word)))
