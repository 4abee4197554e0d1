-- The rows of blocks, one block after the other, are the rows of all elements.
use Rattle.std.proofs.Common.{◌≡◌, ◌∙◌, ℕ, zero, suc, ◌+◌, ◌<◌, inl, inr, List, [], ◌∷◌, ◌++◌, length, Some, Err, Ok, IfOk, Result, refl, sym, ap, subst, arith, length-append}
use Rattle.std.proofs.Math.Nat.{div-le_of_le-mul, div-mul-le_self, mul-div_cancel_left, mul-le-mul_right, zero-div, zero-mul}
use Rattle.std.proofs.lemmas.Bool.{cases_lt}
use Rattle.std.proofs.lemmas.Nat.{le-div}
use Rattle.std.proofs.lemmas.Option.{same_Some}
use Rattle.std.specs.List.{flat_map}
use Rattle.std.specs.Prelude.{◌*◌, ◌/◌, ◌-◌, ◌≤◌, slice_get}
use Rattle.bsv_lemmas.proofs.Places.{at_left, at_right}
use Rattle.bsv_design.specs.declared.kind.Kind.{Kind}
use Rattle.bsv_schedule.specs.declared.relating.related.Relation.{Relation}
use Rattle.bsv_schedule.specs.declared.relating.rows.Row.{Row}
use Rattle.bsv_schedule.specs.declared.relating.usage.Use.{Use}
use Rattle.bsv_schedule.specs.relating.Blocks.{block_count, block_start, AreRowsBetween, AreRowsOfBlock}
use Rattle.bsv_schedule.specs.relating.Rows.{marks_in, AreMarksOf}

-- ---- where blocks begin

pub some_blocks : (n : ℕ) → 0 < n → 0 < block_count n
some_blocks n some = omega (arith, some)

-- the first block begins at the first element
pub starts_first : (n : ℕ) → block_start n 0 ≡ 0
starts_first n = ap (λ m. m / block_count n) (zero-mul n) ∙ zero-div (block_count n)

-- after the last block all elements end
pub starts_last : (n : ℕ) → block_start n (block_count n) ≡ n
starts_last zero = refl
starts_last (suc n) = mul-div_cancel_left (suc n) {n = block_count (suc n)} (some_blocks (suc n) (omega arith))

-- no block begins before the one before it
pub starts_rise : (n k : ℕ) → 0 < n → block_start n k ≤ block_start n (k + 1)
starts_rise n k some =
    let less : k * n ≤ (k + 1) * n = mul-le-mul_right n (omega arith) in
    le-div (k * n / block_count n) ((k + 1) * n) (block_count n) (some_blocks n some) (omega (arith, div-mul-le_self (k * n) (block_count n), less))

-- a block begins within the elements, or at their end
pub starts_within : (n k : ℕ) → k ≤ block_count n → block_start n k ≤ n
starts_within n k within = div-le_of_le-mul (block_count n) (mul-le-mul_right n within)

-- ---- rows joined

module _ (ks : List Kind) (us : List (List Use)) where
  abbrev pub IsRowOf : ℕ → Row → Type 0
  IsRowOf a row = (w : Relation) → AreMarksOf w ks us a (marks_in w row)

  pub no_rows : (from : ℕ) → AreRowsBetween ks us from from []
  no_rows from = record {
    count = omega arith;
    each = λ i row is. absurd (let n : ⊥ = cc in n);
  }

  pub rows_joined : (from middle to : ℕ) (xs ys : List Row) → AreRowsBetween ks us from middle xs → AreRowsBetween ks us middle to ys
      → AreRowsBetween ks us from to (xs ++ ys)
  rows_joined from middle to xs ys first second = record {
    count = omega (arith, length-append xs ys, first.count, second.count);
    each = at;
  } where
    at : (i : ℕ) (row : Row) → slice_get (xs ++ ys) i ≡ Some row → IsRowOf (from + i) row
    at i row is = elim (cases_lt i (length xs)) [
      | inl less ↦ first.each i row (sym (at_left xs ys i less) ∙ is)
      | inr more ↦
          let k : ℕ = i - length xs in
          let same : i ≡ length xs + k = omega (arith, more) in
          let there : slice_get ys k ≡ Some row = sym (at_right xs ys k) ∙ (ap (slice_get (xs ++ ys)) (sym same) ∙ is) in
          subst (λ a. IsRowOf a row) (omega (arith, first.count, same)) (second.each k row there)
    ]

  -- one row more
  pub row_more : (from to : ℕ) (rows : List Row) (row : Row) → AreRowsBetween ks us from to rows → IsRowOf to row
      → AreRowsBetween ks us from (to + 1) (rows ++ row ∷ [])
  row_more from to rows row before last = rows_joined from to (to + 1) rows (row ∷ []) before (record {
    count = refl;
    each = only;
  }) where
    only : (i : ℕ) (r : Row) → slice_get (row ∷ []) i ≡ Some r → IsRowOf (to + i) r
    only zero r is = subst (IsRowOf (to + 0)) (same_Some row r is) (subst (λ a. IsRowOf a row) (omega arith) last)
    only (suc i) r is = absurd (let n : ⊥ = cc in n)

  module _ {V : Type 0} (items : V → List Row) where
    -- blocks of which each begins where the one before it ends
    pub blocks_joined : (start : ℕ → ℕ) (blocks : List V)
        → ((k : ℕ) (v : V) → slice_get blocks k ≡ Some v → AreRowsBetween ks us (start k) (start (suc k)) (items v))
        → AreRowsBetween ks us (start 0) (start (length blocks)) (flat_map items blocks)
    blocks_joined start [] each = no_rows (start 0)
    blocks_joined start (v ∷ vs) each =
        rows_joined (start 0) (start (suc 0)) (start (suc (length vs))) (items v) (flat_map items vs) (each 0 v refl)
        (blocks_joined (λ k. start (suc k)) vs (λ k w is. each (suc k) w is))

    pub blocks_are_rows : (blocks : List V) → length blocks ≡ block_count (length us)
        → ((k : ℕ) (v : V) → slice_get blocks k ≡ Some v → AreRowsOfBlock ks us k (items v))
        → AreRowsBetween ks us 0 (length us) (flat_map items blocks)
    blocks_are_rows blocks long each =
        let start = block_start (length us) in
        let next : (k : ℕ) → k + 1 ≡ suc k = λ k. omega arith in
        let ends : start (length blocks) ≡ length us = ap start long ∙ starts_last (length us) in
        let all = blocks_joined start blocks (λ k v is. subst (λ m. AreRowsBetween ks us (start k) (start m) (items v)) (next k) (each k v is).between) in
        subst (λ from. AreRowsBetween ks us from (length us) (flat_map items blocks)) (starts_first (length us))
        (subst (λ to. AreRowsBetween ks us (start 0) to (flat_map items blocks)) ends all)

  -- the rows between the ends of a block are its rows
  pub block_between : {V E : Type 0} (items : V → List Row) (found : Result V E) (n k from to : ℕ) → n ≡ length us → from ≡ block_start n k → to ≡ block_start n (k + 1)
      → IfOk found (λ v. AreRowsBetween ks us from to (items v)) → IfOk found (λ v. AreRowsOfBlock ks us k (items v))
  block_between items (Err e) n k from to long first last h = h
  block_between items (Ok v) n k from to long first last h =
      record {
        between = subst (λ a. AreRowsBetween ks us a (block_start (length us) (k + 1)) (items v)) (first ∙ ap (λ m. block_start m k) long)
            (subst (λ b. AreRowsBetween ks us from b (items v)) (last ∙ ap (λ m. block_start m (k + 1)) long) h);
      }
