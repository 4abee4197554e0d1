-- The line and the column of a byte, one byte at a time.
use Rattle.std.proofs.Common.{◌≡◌, ℕ, ◌+◌, ◌<◌, ◌==◌, ◌||◌, Bool, true, false, if◌then◌else◌, List, [], ◌∷◌, ◌++◌, length, take, filter, get_or, refl, ap, ◌∙◌, length-append, arith}
use Rattle.std.proofs.lemmas.List.{take_more}
use Rattle.std.proofs.lemmas.List.Elements.{filter-append}
use Rattle.std.proofs.lemmas.List.Folds.{list_any-append}
use Rattle.std.specs.List.{list_any}
use Rattle.bsv_lemmas.proofs.Truths.{or_false, or_true}
use Rattle.bsv_flow.specs.Positions.{is_line_feed, last_line}

alone : (b : ℕ) (is : Bool) → (b == 10) ≡ is → length (filter is_line_feed (b ∷ [])) ≡ (if is then 1 else 0)
alone b true e = rw e refl
alone b false e = rw e refl

any_more : (xs : List ℕ) (b : ℕ) (is : Bool) → (b == 10) ≡ is → list_any is_line_feed (xs ++ b ∷ []) ≡ (list_any is_line_feed xs || is)
any_more xs b true e = list_any-append is_line_feed xs (b ∷ []) ∙ rw e refl
any_more xs b false e = list_any-append is_line_feed xs (b ∷ []) ∙ rw e refl

last_ended : (xs : List ℕ) (b : ℕ) → (b == 10) ≡ true → last_line (xs ++ b ∷ []) ≡ []
last_ended [] b e = rw e refl
last_ended (x ∷ xs) b e =
    let any : list_any is_line_feed ((x ∷ xs) ++ b ∷ []) ≡ true = any_more (x ∷ xs) b true e ∙ or_true (list_any is_line_feed (x ∷ xs)) in
    rw any (last_ended xs b e)

kept : (x b : ℕ) (xs : List ℕ) (p : Bool) → last_line (xs ++ b ∷ []) ≡ last_line xs ++ b ∷ [] → (if p then last_line (xs ++ b ∷ []) else x ∷ (xs ++ b ∷ [])) ≡ (if p then last_line xs else x ∷ xs) ++ b ∷ []
kept x b xs true e = e
kept x b xs false e = refl

last_longer : (xs : List ℕ) (b : ℕ) → (b == 10) ≡ false → last_line (xs ++ b ∷ []) ≡ last_line xs ++ b ∷ []
last_longer [] b e = rw e refl
last_longer (x ∷ xs) b e =
    let any : list_any is_line_feed ((x ∷ xs) ++ b ∷ []) ≡ list_any is_line_feed (x ∷ xs) = any_more (x ∷ xs) b false e ∙ or_false (list_any is_line_feed (x ∷ xs)) in
    rw any (kept x b xs (list_any is_line_feed (x ∷ xs)) (last_longer xs b e))

is_it : (b : ℕ) → b ≡ 10 → (b == 10) ≡ true
is_it b e = rw e refl

is_not : (b : ℕ) → (b ≡ 10 → ⊥) → (b == 10) ≡ false
is_not b other = grind (arith, other)

module _ (bytes : List ℕ) (i : ℕ) (below : i < length bytes) where
  lines_by : (is : Bool) → (get_or bytes i 0 == 10) ≡ is → length (filter is_line_feed (take (i + 1) bytes)) ≡ length (filter is_line_feed (take i bytes)) + (if is then 1 else 0)
  lines_by is e =
      ap (λ xs. length (filter is_line_feed xs)) (take_more bytes i 0 below)
      ∙ ap length (filter-append is_line_feed (take i bytes) (get_or bytes i 0 ∷ []))
      ∙ length-append (filter is_line_feed (take i bytes)) (filter is_line_feed (get_or bytes i 0 ∷ []))
      ∙ ap (λ n. length (filter is_line_feed (take i bytes)) + n) (alone (get_or bytes i 0) is e)

  -- a LF is one line more
  pub lines_more : get_or bytes i 0 ≡ 10 → length (filter is_line_feed (take (i + 1) bytes)) ≡ length (filter is_line_feed (take i bytes)) + 1
  lines_more e = lines_by true (is_it (get_or bytes i 0) e)

  -- every other byte is none
  pub lines_same : (get_or bytes i 0 ≡ 10 → ⊥) → length (filter is_line_feed (take (i + 1) bytes)) ≡ length (filter is_line_feed (take i bytes)) + 0
  lines_same other = lines_by false (is_not (get_or bytes i 0) other)

  -- a LF begins a line
  pub column_first : get_or bytes i 0 ≡ 10 → length (last_line (take (i + 1) bytes)) ≡ 0
  column_first e = ap (λ xs. length (last_line xs)) (take_more bytes i 0 below) ∙ ap length (last_ended (take i bytes) (get_or bytes i 0) (is_it (get_or bytes i 0) e))

  -- every other byte makes it longer
  pub column_more : (get_or bytes i 0 ≡ 10 → ⊥) → length (last_line (take (i + 1) bytes)) ≡ length (last_line (take i bytes)) + 1
  column_more other =
      ap (λ xs. length (last_line xs)) (take_more bytes i 0 below)
      ∙ ap length (last_longer (take i bytes) (get_or bytes i 0) (is_not (get_or bytes i 0) other))
      ∙ length-append (last_line (take i bytes)) (get_or bytes i 0 ∷ [])
