-- Lists, and each two of their items.
use Rattle.std.proofs.Common.{◌≡◌, ◌∙◌, ℕ, zero, suc, ◌<◌, Bool, true, List, [], ◌∷◌, map, Some, refl, sym, ap, subst, arith}
use Rattle.std.specs.Prelude.{slice_get}
use Rattle.std.specs.List.{AllByRecursion, list_all}
use Rattle.std.proofs.lemmas.Bool.{and_parts}
use Rattle.std.proofs.lemmas.Option.{same_Some}

-- an item of a list that was computed item by item
pub record IsOf {A B : Type 0} (f : A → B) (xs : List A) (k : ℕ) (y : B) : Type 0 where
  pub item : A
  pub is : slice_get xs k ≡ Some item
  pub gives : f item ≡ y

pub item_of : {A B : Type 0} (f : A → B) (xs : List A) (k : ℕ) (y : B) → slice_get (map f xs) k ≡ Some y → IsOf f xs k y
item_of f [] k y e = absurd (let h : ⊥ = cc in h)
item_of f (x ∷ xs) zero y e = record { item = x; is = refl; gives = same_Some (f x) y e }
item_of f (x ∷ xs) (suc k) y e = let h = item_of f xs k y e in record { item = h.item; is = h.is; gives = h.gives }

pub all_at : {A : Type 0} (P : A → Type 0) (xs : List A) → AllByRecursion P xs → (k : ℕ) (x : A) → slice_get xs k ≡ Some x → P x
all_at P [] h k x e = absurd (let n : ⊥ = cc in n)
all_at P (y ∷ ys) h zero x e = subst P (same_Some y x e) h.0
all_at P (y ∷ ys) h (suc k) x e = all_at P ys h.1 k x e

pub holds_at_all : {A : Type 0} (p : A → Bool) (xs : List A) → list_all p xs ≡ true → (k : ℕ) (x : A) → slice_get xs k ≡ Some x → p x ≡ true
holds_at_all p [] h k x e = absurd (let n : ⊥ = cc in n)
holds_at_all p (y ∷ ys) h zero x e = let same : y ≡ x = cc in ap p (sym same) ∙ (and_parts (p y) (list_all p ys) h).0
holds_at_all p (y ∷ ys) h (suc k) x e = holds_at_all p ys (and_parts (p y) (list_all p ys) h).1 k x e

-- each item of a list is in this relation to each later one
abbrev pub Pairs : {A : Type 0} → (A → A → Type 0) → List A → Type 0
Pairs P [] = Unit {0}
Pairs P (x ∷ xs) = AllByRecursion (P x) xs × Pairs P xs

pub pair_at : {A : Type 0} (P : A → A → Type 0) (xs : List A) → Pairs P xs → (i j : ℕ) (x y : A) → i < j → slice_get xs i ≡ Some x → slice_get xs j ≡ Some y → P x y
pair_at P [] h i j x y l e f = absurd (let n : ⊥ = cc in n)
pair_at P (z ∷ zs) h zero zero x y l e f = absurd (omega arith)
pair_at P (z ∷ zs) h zero (suc j) x y l e f = subst (λ w. P w y) (same_Some z x e) (all_at (P z) zs h.0 j y f)
pair_at P (z ∷ zs) h (suc i) zero x y l e f = absurd (omega arith)
pair_at P (z ∷ zs) h (suc i) (suc j) x y l e f = pair_at P zs h.1 i j x y (omega arith) e f
