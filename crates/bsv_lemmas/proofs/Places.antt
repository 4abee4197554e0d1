-- The items of a list by their places: of two lists joined, of a list with one item set, of a list that was
-- computed item by item; what a test of all items says at one place; and a list that is cut at a place.
use Rattle.std.proofs.Common.{◌≡◌, ◌≢◌, ◌∙◌, ℕ, zero, suc, ◌+◌, ◌<◌, Bool, true, List, [], ◌∷◌, ◌++◌, map, take, drop, length, Some, refl, sym, ap, subst, arith}
use Rattle.std.specs.Prelude.{slice_get, slice_set, option_map}
use Rattle.std.specs.List.{AllByRecursion, list_all}
use Rattle.std.proofs.lemmas.Bool.{and_parts}
use Rattle.std.proofs.lemmas.Option.{slice_get-map, same_Some}

-- a place below the length has an item
pub item_there : {A : Type 0} (xs : List A) (i : ℕ) → i < length xs → (x : A) × (slice_get xs i ≡ Some x)
item_there [] i below = absurd (omega arith)
item_there (x ∷ xs) zero below = (x, refl)
item_there (x ∷ xs) (suc i) below = item_there xs i (omega arith)

pub mapped_at : {A B : Type 0} (f : A → B) (xs : List A) (i : ℕ) (x : A) → slice_get xs i ≡ Some x → slice_get (map f xs) i ≡ Some (f x)
mapped_at f xs i x e = slice_get-map f xs i ∙ ap (option_map f) e

-- ---- two lists joined

pub at_left : {A : Type 0} (xs ys : List A) (i : ℕ) → i < length xs → slice_get (xs ++ ys) i ≡ slice_get xs i
at_left [] ys i below = absurd (omega arith)
at_left (x ∷ xs) ys zero below = refl
at_left (x ∷ xs) ys (suc i) below = at_left xs ys i (omega arith)

pub stays_left : {A : Type 0} (xs ys : List A) (i : ℕ) (x : A) → slice_get xs i ≡ Some x → slice_get (xs ++ ys) i ≡ Some x
stays_left [] ys i x e = absurd (let n : ⊥ = cc in n)
stays_left (y ∷ xs) ys zero x e = e
stays_left (y ∷ xs) ys (suc i) x e = stays_left xs ys i x e

pub at_right : {A : Type 0} (xs ys : List A) (i : ℕ) → slice_get (xs ++ ys) (length xs + i) ≡ slice_get ys i
at_right [] ys i = ap (slice_get ys) (omega arith)
at_right (x ∷ xs) ys i = ap (slice_get (x ∷ (xs ++ ys))) more ∙ at_right xs ys i
  where
    more : length (x ∷ xs) + i ≡ suc (length xs + i)
    more = omega arith

pub at_middle : {A : Type 0} (xs ys : List A) (x : A) → slice_get (xs ++ x ∷ ys) (length xs) ≡ Some x
at_middle [] ys x = refl
at_middle (y ∷ xs) ys x = at_middle xs ys x

pub at_end : {A : Type 0} (xs : List A) (x : A) → slice_get (xs ++ x ∷ []) (length xs) ≡ Some x
at_end xs x = at_middle xs [] x

-- ---- one item set

pub set_there : {A : Type 0} (xs : List A) (i : ℕ) (x : A) → i < length xs → slice_get (slice_set xs i x) i ≡ Some x
set_there [] i x below = absurd (omega arith)
set_there (y ∷ xs) zero x below = refl
set_there (y ∷ xs) (suc i) x below = set_there xs i x (omega arith)

pub set_elsewhere : {A : Type 0} (xs : List A) (j i : ℕ) (x : A) → j ≢ i → slice_get (slice_set xs j x) i ≡ slice_get xs i
set_elsewhere [] j i x other = refl
set_elsewhere (y ∷ xs) zero zero x other = absurd (other refl)
set_elsewhere (y ∷ xs) zero (suc i) x other = refl
set_elsewhere (y ∷ xs) (suc j) zero x other = refl
set_elsewhere (y ∷ xs) (suc j) (suc i) x other = set_elsewhere xs j i x (λ e. other (ap suc e))

-- ---- a test of every item

pub passes_at : {A : Type 0} (p : A → Bool) (xs : List A) (i : ℕ) (x : A) → list_all p xs ≡ true → slice_get xs i ≡ Some x → p x ≡ true
passes_at p [] i x all e = absurd (let n : ⊥ = cc in n)
passes_at p (y ∷ xs) zero x all e = subst (λ z. p z ≡ true) (same_Some y x e) (and_parts (p y) (list_all p xs) all).0
passes_at p (y ∷ xs) (suc i) x all e = passes_at p xs i x (and_parts (p y) (list_all p xs) all).1 e

pub all_at : {A : Type 0} (P : A → Type 0) (xs : List A) → AllByRecursion P xs → (i : ℕ) (x : A) → slice_get xs i ≡ Some x → P x
all_at P [] h i x e = absurd (let n : ⊥ = cc in n)
all_at P (y ∷ ys) h zero x e = subst P (same_Some y x e) h.0
all_at P (y ∷ ys) h (suc i) x e = all_at P ys h.1 i x e

pub all_from : {A : Type 0} (P : A → Type 0) (xs : List A) → ((i : ℕ) (x : A) → slice_get xs i ≡ Some x → P x) → AllByRecursion P xs
all_from P [] h = tt
all_from P (x ∷ xs) h = (h zero x refl, all_from P xs (λ i y e. h (suc i) y e))

-- ---- a list cut at a place

pub take_one : {A : Type 0} (xs : List A) (i : ℕ) (x : A) → slice_get xs i ≡ Some x → take (i + 1) xs ≡ take i xs ++ x ∷ []
take_one {A} [] i x e = absurd (let n : ⊥ = cc in n)
take_one {A} (y ∷ ys) zero x e = ap (λ (z : A). z ∷ []) (same_Some y x e)
take_one {A} (y ∷ ys) (suc i) x e =
    let place : suc i + 1 ≡ suc (i + 1) = omega arith in
    ap (λ (n : ℕ). take n (y ∷ ys)) place ∙ ap (λ (zs : List A). y ∷ zs) (take_one ys i x e)

-- the rest of a list from a place on begins with what is there
pub drop_one : {A : Type 0} (xs : List A) (i : ℕ) (x : A) → slice_get xs i ≡ Some x → drop i xs ≡ x ∷ drop (i + 1) xs
drop_one [] i x e = absurd (let n : ⊥ = cc in n)
drop_one (y ∷ ys) zero x e = cc
drop_one (y ∷ ys) (suc i) x e =
    let one : suc i + 1 ≡ suc (i + 1) = omega arith in
    drop_one ys i x e ∙ ap (λ n. x ∷ drop n (y ∷ ys)) (sym one)
