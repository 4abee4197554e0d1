-- How the signals of a module are spelled: eight sorts of names that differ by their first bytes, by a `$` and by a capital
-- letter after it; and all of them are names in Verilog.
use Rattle.std.proofs.Common.{◌≡◌, ◌∙◌, ℕ, ◌^◌, ◌<◌, Bool, true, false, ◌&&◌, not, List, [], ◌∷◌, ◌++◌, refl, sym, ap, ap₂, codes, if◌then◌else◌}
use Rattle.std.specs.Prelude.{◌==◌, decimal}
use Rattle.std.specs.Char.{is_ascii_uppercase}
use Rattle.std.specs.List.{list_all}
use Rattle.std.proofs.lemmas.Bool.{false≢true, and_parts, and_from, or_from, or_left, not-true, not_from_false, false_from_ne_true, eqb-true, cond-true, cond-false}
use Rattle.std.proofs.lemmas.List.Folds.{list_all-append}
use Rattle.bsv_ast.specs.Names.{is_lower, is_keyword, begins_name, is_word, is_capital}
use Rattle.bsv_ast.proofs.Names.{begins_small, word_no_dollar, lower_words, lower_small, decimal_words}
use Rattle.bsv_vtext.specs.Modules.{is_name_byte, is_signal_name}
use Rattle.bsv_vtext.specs.Signals.{argument_name, enable_name, ready_name, fire_name}
use Rattle.bsv_vgen.specs.Names.{verilog_name}
use Rattle.bsv_vgen.proofs.Keywords.{has_dollar, marked, capital_free, dollar_free, dollar_in, marked_in}
use Rattle.bsv_vgen.proofs.VerilogPaths.{IsRoute, verilog_bytes, small_first}

-- ---- sorts

pub data Sort : Type 0 where
  Clocks : Sort
  Resets : Sort
  Enables : Sort
  Arguments : Sort
  Readies : Sort
  Results : Sort
  Registers : Sort
  Wires : Sort

-- RST_N, and else RDY_
abbrev second_sort : List ℕ → Sort
second_sort [] = Resets
second_sort (b ∷ bytes) = if b == 83 then Resets else Readies

-- CLK, R.., EN_, and else N.. or WILL_FIRE_
abbrev capital_sort : ℕ → List ℕ → Sort
capital_sort b bytes = if b == 67 then Clocks else if b == 82 then second_sort bytes else if b == 69 then Enables else Wires

abbrev small_sort : List ℕ → Sort
small_sort text = if marked text then Registers else if has_dollar text then Arguments else Results

abbrev pub sort : List ℕ → Sort
sort [] = Clocks
sort (b ∷ bytes) = if is_ascii_uppercase b then capital_sort b bytes else small_sort (b ∷ bytes)

pub clock_sort : sort (codes "CLK") ≡ Clocks
clock_sort = refl

pub reset_sort : sort (codes "RST_N") ≡ Resets
reset_sort = refl

pub enable_sort : (name : List ℕ) → sort (enable_name name) ≡ Enables
enable_sort name = refl

pub ready_sort : (name : List ℕ) → sort (ready_name name) ≡ Readies
ready_sort name = refl

pub fire_sort : (name : List ℕ) → sort (fire_name name) ≡ Wires
fire_sort name = refl

pub numbered_sort : (digits : List ℕ) → sort (codes "N" ++ digits) ≡ Wires
numbered_sort digits = refl

-- a wire with a number tells of nothing that fires
pub numbered_or_fire : (digits name : List ℕ) → codes "N" ++ digits ≡ fire_name name → ⊥
numbered_or_fire digits name e = false≢true (sym (ap begins_n e)) where
  begins_n : List ℕ → Bool
  begins_n [] = false
  begins_n (b ∷ bytes) = b == 78

small_is : (text rest : List ℕ) → begins_small text ≡ true → sort (text ++ rest) ≡ small_sort (text ++ rest)
small_is [] rest h = absurd (false≢true h)
small_is (b ∷ text) rest h =
    cond-false (is_ascii_uppercase b) (capital_sort b (text ++ rest)) (small_sort (b ∷ (text ++ rest)))
    (not-true (is_ascii_uppercase b) (and_parts (begins_name b) (not (is_ascii_uppercase b)) h).1)

pub register_sort : (path rest : List ℕ) → IsRoute path → is_capital rest ≡ true → sort (verilog_name path ++ 36 ∷ rest) ≡ Registers
register_sort path rest p h =
    small_is (verilog_name path) (36 ∷ rest) (small_first path p.small)
    ∙ cond-true (marked (verilog_name path ++ 36 ∷ rest)) Registers _ (marked_in (verilog_name path) rest h)

-- ---- names with one `$`, and without

no_dollar : (b : ℕ) → is_word b ≡ true → b == 36 ≡ false
no_dollar b h = false_from_ne_true (b == 36) (λ e. word_no_dollar b h (eqb-true b 36 e))

words_unmarked : (text : List ℕ) → list_all is_word text ≡ true → marked text ≡ false
words_unmarked [] h = refl
words_unmarked (b ∷ text) h =
    let p = and_parts (is_word b) (list_all is_word text) h in
    or_from (b == 36 && is_capital text) (marked text) (ap (λ c. c && is_capital text) (no_dollar b p.0)) (words_unmarked text p.1)

words_bare : (text : List ℕ) → list_all is_word text ≡ true → has_dollar text ≡ false
words_bare [] h = refl
words_bare (b ∷ text) h =
    let p = and_parts (is_word b) (list_all is_word text) h in
    or_from (b == 36) (has_dollar text) (no_dollar b p.0) (words_bare text p.1)

small_capital : (text : List ℕ) → begins_small text ≡ true → is_capital text ≡ false
small_capital [] h = refl
small_capital (b ∷ text) h = not-true (is_ascii_uppercase b) (and_parts (begins_name b) (not (is_ascii_uppercase b)) h).1

between_unmarked : (m a : List ℕ) → list_all is_word m ≡ true → is_lower a ≡ true → marked (m ++ 36 ∷ a) ≡ false
between_unmarked [] a h k = or_from (is_capital a) (marked a) (small_capital a (lower_small a k)) (words_unmarked a (lower_words a k))
between_unmarked (b ∷ m) a h k =
    let p = and_parts (is_word b) (list_all is_word m) h in
    or_from (b == 36 && is_capital (m ++ 36 ∷ a)) (marked (m ++ 36 ∷ a)) (ap (λ c. c && is_capital (m ++ 36 ∷ a)) (no_dollar b p.0))
    (between_unmarked m a p.1 k)

pub argument_sort : (m a : List ℕ) → is_lower m ≡ true → is_lower a ≡ true → sort (argument_name m a) ≡ Arguments
argument_sort m a h k =
    small_is m (36 ∷ a) (lower_small m h)
    ∙ cond-false (marked (m ++ 36 ∷ a)) Registers _ (between_unmarked m a (lower_words m h) k)
    ∙ cond-true (has_dollar (m ++ 36 ∷ a)) Arguments Results (dollar_in m a)

unmarked_sort : (text : List ℕ) → marked text ≡ false → has_dollar text ≡ false → small_sort text ≡ Results
unmarked_sort text h k = cond-false (marked text) Registers _ h ∙ cond-false (has_dollar text) Arguments Results k

result_is : (m : List ℕ) → begins_small m ≡ true → sort m ≡ small_sort m
result_is [] h = absurd (false≢true h)
result_is (b ∷ m) h = cond-false (is_ascii_uppercase b) (capital_sort b m) (small_sort (b ∷ m)) (small_capital (b ∷ m) h)

pub result_sort : (m : List ℕ) → is_lower m ≡ true → sort m ≡ Results
result_sort m h = result_is m (lower_small m h) ∙ unmarked_sort m (words_unmarked m (lower_words m h)) (words_bare m (lower_words m h))

-- a name without `$` ends where one stands
words_cut : (m n a c : List ℕ) → list_all is_word m ≡ true → list_all is_word n ≡ true → m ++ 36 ∷ a ≡ n ++ 36 ∷ c → (m ≡ n) × (a ≡ c)
words_cut [] [] a c h k e = let same : a ≡ c = cc in (refl, same)
words_cut [] (b ∷ n) a c h k e =
    let first : b ≡ 36 = cc in absurd (word_no_dollar b (and_parts (is_word b) (list_all is_word n) k).0 first)
words_cut (b ∷ m) [] a c h k e =
    let first : b ≡ 36 = cc in absurd (word_no_dollar b (and_parts (is_word b) (list_all is_word m) h).0 first)
words_cut (b ∷ m) (d ∷ n) a c h k e =
    let first : b ≡ d = cc in
    let rest : m ++ 36 ∷ a ≡ n ++ 36 ∷ c = cc in
    let more = words_cut m n a c (and_parts (is_word b) (list_all is_word m) h).1 (and_parts (is_word d) (list_all is_word n) k).1 rest in
    (ap₂ (λ (x : ℕ) (bytes : List ℕ). x ∷ bytes) first more.0, more.1)

pub argument_told : (m n a c : List ℕ) → is_lower m ≡ true → is_lower n ≡ true → argument_name m a ≡ argument_name n c → (m ≡ n) × (a ≡ c)
argument_told m n a c h k e = words_cut m n a c (lower_words m h) (lower_words n k) e

-- ---- names in Verilog

named_by : (b : ℕ) (bytes : List ℕ) → begins_name b ≡ true → list_all is_name_byte bytes ≡ true → is_keyword (b ∷ bytes) ≡ false
    → is_signal_name (b ∷ bytes) ≡ true
named_by b bytes first all free =
    and_from (begins_name b && list_all is_name_byte bytes) (not (is_keyword (b ∷ bytes)))
    (and_from (begins_name b) (list_all is_name_byte bytes) first all) (not_from_false (is_keyword (b ∷ bytes)) free)

pub fire_named : (path : List ℕ) → IsRoute path → is_signal_name (fire_name (verilog_name path)) ≡ true
fire_named path p =
    named_by 87 (codes "ILL_FIRE_" ++ verilog_name path) refl (verilog_bytes path p) (capital_free (fire_name (verilog_name path)) refl)

pub words_named : (text : List ℕ) → list_all is_word text ≡ true → list_all is_name_byte text ≡ true
words_named [] h = refl
words_named (b ∷ text) h =
    let p = and_parts (is_word b) (list_all is_word text) h in
    and_from (is_name_byte b) (list_all is_name_byte text) (or_left (is_word b) (b == 36) p.0) (words_named text p.1)

pub numbered_named : (n : ℕ) → n < 2 ^ 64 → is_signal_name (codes "N" ++ decimal n) ≡ true
numbered_named n below = named_by 78 (decimal n) refl (words_named (decimal n) (decimal_words n below)) (capital_free (78 ∷ decimal n) refl)

both_bytes : (xs ys : List ℕ) → list_all is_name_byte xs ≡ true → list_all is_name_byte ys ≡ true → list_all is_name_byte (xs ++ ys) ≡ true
both_bytes xs ys h k = list_all-append is_name_byte xs ys ∙ and_from (list_all is_name_byte xs) (list_all is_name_byte ys) h k

after_named : (text rest : List ℕ) → begins_small text ≡ true → list_all is_name_byte text ≡ true → list_all is_name_byte rest ≡ true
    → is_signal_name (text ++ 36 ∷ rest) ≡ true
after_named [] rest first h k = absurd (false≢true first)
after_named (b ∷ text) rest first h k =
    named_by b (text ++ 36 ∷ rest) (and_parts (begins_name b) (not (is_ascii_uppercase b)) first).0
    (both_bytes text (36 ∷ rest) (and_parts (is_name_byte b) (list_all is_name_byte text) h).1 k)
    (dollar_free ((b ∷ text) ++ 36 ∷ rest) (dollar_in (b ∷ text) rest))

pub register_named : (path rest : List ℕ) → IsRoute path → list_all is_name_byte rest ≡ true → is_signal_name (verilog_name path ++ 36 ∷ rest) ≡ true
register_named path rest p h = after_named (verilog_name path) rest (small_first path p.small) (verilog_bytes path p) h
