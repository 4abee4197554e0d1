-- Entries that are added one by one, and names of which no two are one.
use Rattle.std.proofs.Common.{◌≡◌, ℕ, Bool, true, false, cond, not, ◌||◌, ◌⊎◌, inl, inr, List, [], ◌∷◌, ◌++◌, Some, None, refl, sym, ap}
use Rattle.std.specs.List.{list_all}
use Rattle.std.specs.Str.{bytes_eq}
use Rattle.std.proofs.lemmas.Slice.Eq.{bytes_eq-Decides}
use Rattle.std.proofs.lemmas.Bool.{and_parts, and_from, or_left, not-true, or_right, or_parts, not_from_false, or_from}
use Rattle.std.proofs.lemmas.Option.{same_Some}
use Rattle.bsv_scopes.specs.Scopes.{Entries, found, is_listed, is_defined, with_name}
use Rattle.bsv_types.specs.Names.{distinct}

-- ---- entries

pub found_more : {V : Type 0} (name m : List ℕ) (v u : V) (es : Entries V) → found name (with_name m v es) ≡ Some u → (found name es ≡ Some u) ⊎ (v ≡ u)
found_more name m v u [] e = by (bytes_eq name m) e where
  by : (b : Bool) → cond b (Some v) None ≡ Some u → (found name [] ≡ Some u) ⊎ (v ≡ u)
  by true e = inr (same_Some v u e)
  by false e = absurd cc
found_more name m v u (x ∷ es) e = by (bytes_eq name x.0) (found_more name m v u es) e where
  by : (b : Bool) → (found name (with_name m v es) ≡ Some u → (found name es ≡ Some u) ⊎ (v ≡ u)) → cond b (Some x.1) (found name (with_name m v es)) ≡ Some u → (cond b (Some x.1) (found name es) ≡ Some u) ⊎ (v ≡ u)
  by true later e = inl e
  by false later e = later e

-- ---- names that are listed

pub bytes_other : (x y : List ℕ) → bytes_eq x y ≡ false → bytes_eq y x ≡ false
bytes_other x y e = by (bytes_eq y x) refl where
  by : (b : Bool) → bytes_eq y x ≡ b → b ≡ false
  by true is = let same = (bytes_eq-Decides x y).1 (sym ((bytes_eq-Decides y x).0 is)) in absurd cc
  by false is = refl

-- a name that fails a test is none of those that pass it
pub not_listed : (p : List ℕ → Bool) (name : List ℕ) (xs : List (List ℕ)) → list_all p xs ≡ true → p name ≡ false → is_listed name xs ≡ false
not_listed p name [] all fails = refl
not_listed p name (x ∷ xs) all fails =
    let h = and_parts (p x) (list_all p xs) all in
    or_from (bytes_eq name x) (is_listed name xs) (by (bytes_eq name x) refl h.0) (not_listed p name xs h.1 fails) where
      by : (b : Bool) → bytes_eq name x ≡ b → p x ≡ true → b ≡ false
      by true is passes = let same = ap p ((bytes_eq-Decides name x).0 is) in absurd cc
      by false is passes = refl

pub distinct_with : (name : List ℕ) (xs ys : List (List ℕ)) → distinct (xs ++ ys) ≡ true → is_listed name (xs ++ ys) ≡ false → distinct (xs ++ name ∷ ys) ≡ true
distinct_with name [] ys d new = and_from (not (is_listed name ys)) (distinct ys) (not_from_false (is_listed name ys) new) d
distinct_with name (x ∷ xs) ys d new =
    let h = and_parts (not (is_listed x (xs ++ ys))) (distinct (xs ++ ys)) d in
    let n = or_parts (bytes_eq name x) (is_listed name (xs ++ ys)) new in
    and_from (not (is_listed x (xs ++ name ∷ ys))) (distinct (xs ++ name ∷ ys))
    (not_from_false (is_listed x (xs ++ name ∷ ys)) (listed_with x name xs ys (not-true (is_listed x (xs ++ ys)) h.0) (bytes_other name x n.0)))
    (distinct_with name xs ys h.1 n.1) where
      listed_with : (y m : List ℕ) (front back : List (List ℕ)) → is_listed y (front ++ back) ≡ false → bytes_eq y m ≡ false → is_listed y (front ++ m ∷ back) ≡ false
      listed_with y m [] back e f = or_from (bytes_eq y m) (is_listed y back) f e
      listed_with y m (a ∷ front) back e f =
          let h = or_parts (bytes_eq y a) (is_listed y (front ++ back)) e in
          or_from (bytes_eq y a) (is_listed y (front ++ m ∷ back)) h.0 (listed_with y m front back h.1 f)

-- names that are defined stay so
pub defined_more : {V : Type 0} (name m : List ℕ) (v : V) (es : Entries V) → is_defined name es ≡ true → is_defined name (with_name m v es) ≡ true
defined_more name m v [] e = absurd cc
defined_more name m v (x ∷ es) e = by (bytes_eq name x.0) (defined_more name m v es) e where
  by : (b : Bool) → (is_defined name es ≡ true → is_defined name (with_name m v es) ≡ true) → (b || is_defined name es) ≡ true → (b || is_defined name (with_name m v es)) ≡ true
  by true later e = refl
  by false later e = later e

pub defined_now : {V : Type 0} (m : List ℕ) (v : V) (es : Entries V) → is_defined m (with_name m v es) ≡ true
defined_now m v [] = or_left (bytes_eq m m) false ((bytes_eq-Decides m m).1 refl)
defined_now m v (x ∷ es) = or_right (bytes_eq m x.0) (is_defined m (with_name m v es)) (defined_now m v es)

pub all_defined_more : {V : Type 0} (ns : List (List ℕ)) (m : List ℕ) (v : V) (es : Entries V) → list_all (λ n. is_defined n es) ns ≡ true → list_all (λ n. is_defined n (with_name m v es)) ns ≡ true
all_defined_more [] m v es e = refl
all_defined_more (n ∷ ns) m v es e =
    let h = and_parts (is_defined n es) (list_all (λ n. is_defined n es) ns) e in
    and_from (is_defined n (with_name m v es)) (list_all (λ n. is_defined n (with_name m v es)) ns) (defined_more n m v es h.0) (all_defined_more ns m v es h.1)
