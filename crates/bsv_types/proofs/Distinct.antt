-- Names that are distinct are at one place each.
use Rattle.std.proofs.Common.{◌≡◌, ◌∙◌, ℕ, zero, suc, true, false, List, [], ◌∷◌, Some, refl, sym, ap}
use Rattle.std.specs.Prelude.{slice_get}
use Rattle.std.specs.List.{list_any}
use Rattle.std.specs.Str.{bytes_eq}
use Rattle.std.proofs.lemmas.Bool.{both_ways, and_parts, or_parts, not-true}
use Rattle.std.proofs.lemmas.Option.{same_Some}
use Rattle.std.proofs.lemmas.Slice.Eq.{bytes_eq-Decides}
use Rattle.bsv_types.specs.Names.{distinct}

pub not_among : (x : List ℕ) (xs : List (List ℕ)) (k : ℕ) → list_any (bytes_eq x) xs ≡ false → slice_get xs k ≡ Some x → ⊥
not_among x [] k none is = absurd (let n : ⊥ = cc in n)
not_among x (y ∷ ys) zero none is =
    both_ways (bytes_eq x y) (or_parts (bytes_eq x y) (list_any (bytes_eq x) ys) none).0 ((bytes_eq-Decides x y).1 (sym (same_Some y x is)))
not_among x (y ∷ ys) (suc k) none is = not_among x ys k (or_parts (bytes_eq x y) (list_any (bytes_eq x) ys) none).1 is

pub distinct_places : (xs : List (List ℕ)) (i j : ℕ) (x : List ℕ) → distinct xs ≡ true → slice_get xs i ≡ Some x → slice_get xs j ≡ Some x → i ≡ j
distinct_places [] i j x h f g = absurd (let n : ⊥ = cc in n)
distinct_places (y ∷ ys) zero zero x h f g = refl
distinct_places (y ∷ ys) zero (suc j) x h f g =
    let p = and_parts _ (distinct ys) h in
    absurd (not_among y ys j (not-true (list_any (bytes_eq y) ys) p.0) (g ∙ sym f))
distinct_places (y ∷ ys) (suc i) zero x h f g =
    let p = and_parts _ (distinct ys) h in
    absurd (not_among y ys i (not-true (list_any (bytes_eq y) ys) p.0) (f ∙ sym g))
distinct_places (y ∷ ys) (suc i) (suc j) x h f g =
    ap (λ (k : ℕ). suc k) (distinct_places ys i j x (and_parts _ (distinct ys) h).1 f g)
