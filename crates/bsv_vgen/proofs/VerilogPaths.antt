-- Paths: Lower names joined by dots. With `$` for each dot they stay apart, they are made of bytes of a name, and no capital
-- letter comes after a `$`.
use Rattle.std.proofs.Common.{◌≡◌, ◌∙◌, ℕ, Bool, true, false, ◌&&◌, ◌||◌, not, List, [], ◌∷◌, ◌++◌, refl, sym, ap, ap₂, subst, if◌then◌else◌}
use Rattle.std.specs.Prelude.{◌==◌}
use Rattle.std.specs.Char.{is_ascii_uppercase}
use Rattle.std.specs.List.{list_all}
use Rattle.std.proofs.lemmas.Bool.{false≢true, both_ways, and_parts, and_from, or_left, not-true, eqb-true}
use Rattle.bsv_lemmas.proofs.Lists.{same_head, same_tail}
use Rattle.bsv_ast.specs.Names.{is_lower, begins_name, is_word, is_capital}
use Rattle.bsv_ast.proofs.Names.{begins_small, begins_word, word_no_dollar, word_no_dot, lower_words, lower_small}
use Rattle.bsv_design.specs.design.Designs.{IsDotted}
use Rattle.bsv_design.specs.design.Paths.{joined}
use Rattle.bsv_vtext.specs.Modules.{is_name_byte}
use Rattle.bsv_vgen.specs.Names.{written, verilog_name}

-- ---- what is needed of a path

-- the byte may come before these bytes
abbrev fits_before : ℕ → List ℕ → Bool
fits_before b bytes = is_word b || (b == 46 && begins_small bytes)

abbrev routed : List ℕ → Bool
routed [] = true
routed (b ∷ bytes) = fits_before b bytes && routed bytes

pub record IsRoute (path : List ℕ) : Type 0 where
  pub routed : routed path ≡ true
  pub small : begins_small path ≡ true

words_routed : (text : List ℕ) → list_all is_word text ≡ true → routed text ≡ true
words_routed [] h = refl
words_routed (b ∷ text) h =
    let p = and_parts (is_word b) (list_all is_word text) h in
    and_from (fits_before b text) (routed text) (or_left (is_word b) (b == 46 && begins_small text) p.0) (words_routed text p.1)

-- a name, a dot and a path
dot_routed : (text rest : List ℕ) → list_all is_word text ≡ true → IsRoute rest → routed (text ++ 46 ∷ rest) ≡ true
dot_routed [] rest h r = and_from (fits_before 46 rest) (routed rest) r.small r.routed
dot_routed (b ∷ text) rest h r =
    let p = and_parts (is_word b) (list_all is_word text) h in
    and_from (fits_before b (text ++ 46 ∷ rest)) (routed (text ++ 46 ∷ rest)) (or_left (is_word b) _ p.0) (dot_routed text rest p.1 r)

small_more : (text rest : List ℕ) → begins_small text ≡ true → begins_small (text ++ rest) ≡ true
small_more [] rest h = absurd (false≢true h)
small_more (b ∷ text) rest h = h

pub lower_route : (text : List ℕ) → is_lower text ≡ true → IsRoute text
lower_route text h = record { routed = words_routed text (lower_words text h); small = lower_small text h }

joined_route : (first : List ℕ) (rest : List (List ℕ)) → list_all is_lower (first ∷ rest) ≡ true → IsRoute (joined (first ∷ rest))
joined_route first [] h = lower_route first (and_parts (is_lower first) true h).0
joined_route first (name ∷ names) h =
    let p = and_parts (is_lower first) (list_all is_lower (name ∷ names)) h in
    record {
      routed = dot_routed first (joined (name ∷ names)) (lower_words first p.0) (joined_route name names p.1);
      small = small_more first (46 ∷ joined (name ∷ names)) (lower_small first p.0);
    }

pub dotted_route : (path : List ℕ) → IsDotted path → IsRoute path
dotted_route path d = subst IsRoute (sym d.is) (joined_route d.first d.rest d.lower)

-- ---- the name in Verilog

word_stays : (b : ℕ) → is_word b ≡ true → written b ≡ b
word_stays b h = by (b == 46) refl where
  by : (t : Bool) → b == 46 ≡ t → (if t then 36 else b) ≡ b
  by true e = absurd (word_no_dot b h (eqb-true b 46 e))
  by false e = refl

words_stay : (text : List ℕ) → list_all is_word text ≡ true → verilog_name text ≡ text
words_stay [] h = refl
words_stay (b ∷ text) h =
    let p = and_parts (is_word b) (list_all is_word text) h in
    ap₂ (λ (c : ℕ) (bytes : List ℕ). c ∷ bytes) (word_stays b p.0) (words_stay text p.1)

pub lower_stays : (text : List ℕ) → is_lower text ≡ true → verilog_name text ≡ text
lower_stays text h = words_stay text (lower_words text h)

-- a byte of a path is a byte of a name, or a dot before a name
data ByteOf (b : ℕ) (bytes : List ℕ) : Type 0 where
  word : is_word b ≡ true → ByteOf b bytes
  dot : b ≡ 46 → begins_small bytes ≡ true → ByteOf b bytes

byte_of : (b : ℕ) (bytes : List ℕ) → fits_before b bytes ≡ true → ByteOf b bytes
byte_of b bytes h = by (is_word b) refl h where
  by : (t : Bool) → is_word b ≡ t → (t || (b == 46 && begins_small bytes)) ≡ true → ByteOf b bytes
  by true e g = word e
  by false e g = let p = and_parts (b == 46) (begins_small bytes) g in dot (eqb-true b 46 p.0) p.1

dot_written : (b : ℕ) → b ≡ 46 → written b ≡ 36
dot_written b e = ap written e

-- what is written as `$` is a dot
dollar_dot : (b : ℕ) (bytes : List ℕ) → ByteOf b bytes → written b ≡ 36 → begins_small bytes ≡ true
dollar_dot b bytes (word h) e = absurd (word_no_dollar b h (sym (word_stays b h) ∙ e))
dollar_dot b bytes (dot is small) e = small

byte_same : (b c : ℕ) (xs ys : List ℕ) → ByteOf b xs → ByteOf c ys → written b ≡ written c → b ≡ c
byte_same b c xs ys (word h) (word k) e = sym (word_stays b h) ∙ e ∙ word_stays c k
byte_same b c xs ys (word h) (dot is small) e = absurd (word_no_dollar b h (sym (word_stays b h) ∙ e ∙ dot_written c is))
byte_same b c xs ys (dot is small) (word k) e = absurd (word_no_dollar c k (sym (word_stays c k) ∙ sym e ∙ dot_written b is))
byte_same b c xs ys (dot is small) (dot at other) e = is ∙ sym at

byte_named : (b : ℕ) (bytes : List ℕ) → ByteOf b bytes → is_name_byte (written b) ≡ true
byte_named b bytes (word h) = subst (λ (c : ℕ). is_name_byte c ≡ true) (sym (word_stays b h)) (or_left (is_word b) (b == 36) h)
byte_named b bytes (dot is small) = subst (λ (c : ℕ). is_name_byte c ≡ true) (sym (dot_written b is)) refl

-- paths are one where their names in Verilog are
same_routed : (xs ys : List ℕ) → routed xs ≡ true → routed ys ≡ true → verilog_name xs ≡ verilog_name ys → xs ≡ ys
same_routed [] [] p q e = refl
same_routed [] (c ∷ ys) p q e = absurd cc
same_routed (b ∷ xs) [] p q e = absurd cc
same_routed (b ∷ xs) (c ∷ ys) p q e =
    let left = and_parts (fits_before b xs) (routed xs) p in
    let right = and_parts (fits_before c ys) (routed ys) q in
    let first = same_head (written b) (written c) (verilog_name xs) (verilog_name ys) e in
    let rest = same_tail (written b) (written c) (verilog_name xs) (verilog_name ys) e in
    ap₂ (λ (d : ℕ) (bytes : List ℕ). d ∷ bytes) (byte_same b c xs ys (byte_of b xs left.0) (byte_of c ys right.0) first)
    (same_routed xs ys left.1 right.1 rest)

pub verilog_same : (xs ys : List ℕ) → IsRoute xs → IsRoute ys → verilog_name xs ≡ verilog_name ys → xs ≡ ys
verilog_same xs ys p q e = same_routed xs ys p.routed q.routed e

bytes_routed : (xs : List ℕ) → routed xs ≡ true → list_all is_name_byte (verilog_name xs) ≡ true
bytes_routed [] h = refl
bytes_routed (b ∷ xs) h =
    let p = and_parts (fits_before b xs) (routed xs) h in
    and_from (is_name_byte (written b)) (list_all is_name_byte (verilog_name xs)) (byte_named b xs (byte_of b xs p.0)) (bytes_routed xs p.1)

pub verilog_bytes : (xs : List ℕ) → IsRoute xs → list_all is_name_byte (verilog_name xs) ≡ true
verilog_bytes xs p = bytes_routed xs p.routed

-- its first byte
pub small_first : (xs : List ℕ) → begins_small xs ≡ true → begins_small (verilog_name xs) ≡ true
small_first [] h = h
small_first (b ∷ xs) h =
    let p = and_parts (begins_name b) (not (is_ascii_uppercase b)) h in
    subst (λ (c : ℕ). begins_small (c ∷ []) ≡ true) (sym (word_stays b (begins_word b p.0))) h

not_capital : (xs rest : List ℕ) → begins_small xs ≡ true → is_capital (xs ++ rest) ≡ false
not_capital [] rest h = absurd (false≢true h)
not_capital (b ∷ xs) rest h = not-true (is_ascii_uppercase b) (and_parts (begins_name b) (not (is_ascii_uppercase b)) h).1

-- ---- a path, and after it `$` and a capital letter

-- the first dot is not where the other path ends
dot_goes_on : (c : ℕ) (r s ys : List ℕ) → is_capital r ≡ true → fits_before c ys ≡ true → 36 ∷ r ≡ written c ∷ (verilog_name ys ++ s) → ⊥
dot_goes_on c r s ys h fits e =
    let small = dollar_dot c ys (byte_of c ys fits) (sym (same_head 36 (written c) r (verilog_name ys ++ s) e)) in
    let behind = same_tail 36 (written c) r (verilog_name ys ++ s) e in
    both_ways (is_capital r) (ap is_capital behind ∙ not_capital (verilog_name ys) s (small_first ys small)) h

cut : (xs ys r s : List ℕ) → routed xs ≡ true → routed ys ≡ true → is_capital r ≡ true → is_capital s ≡ true
    → verilog_name xs ++ 36 ∷ r ≡ verilog_name ys ++ 36 ∷ s → (verilog_name xs ≡ verilog_name ys) × (r ≡ s)
cut [] [] r s p q h k e = (refl, same_tail 36 36 r s e)
cut [] (c ∷ ys) r s p q h k e = absurd (dot_goes_on c r (36 ∷ s) ys h (and_parts (fits_before c ys) (routed ys) q).0 e)
cut (b ∷ xs) [] r s p q h k e = absurd (dot_goes_on b s (36 ∷ r) xs k (and_parts (fits_before b xs) (routed xs) p).0 (sym e))
cut (b ∷ xs) (c ∷ ys) r s p q h k e =
    let first = same_head (written b) (written c) (verilog_name xs ++ 36 ∷ r) (verilog_name ys ++ 36 ∷ s) e in
    let rest = same_tail (written b) (written c) (verilog_name xs ++ 36 ∷ r) (verilog_name ys ++ 36 ∷ s) e in
    let more = cut xs ys r s (and_parts (fits_before b xs) (routed xs) p).1 (and_parts (fits_before c ys) (routed ys) q).1 h k rest in
    (ap₂ (λ (d : ℕ) (bytes : List ℕ). d ∷ bytes) first more.0, more.1)

-- the path and what comes after it are told
pub path_told : (xs ys r s : List ℕ) → IsRoute xs → IsRoute ys → is_capital r ≡ true → is_capital s ≡ true
    → verilog_name xs ++ 36 ∷ r ≡ verilog_name ys ++ 36 ∷ s → (xs ≡ ys) × (r ≡ s)
path_told xs ys r s p q h k e =
    let parts = cut xs ys r s p.routed q.routed h k e in
    (verilog_same xs ys p q parts.0, parts.1)
