-- Elements of lists one after the other, and names that are taken.
use Rattle.std.proofs.Common.{◌≡◌, ◌∙◌, ℕ, zero, suc, ◌+◌, Bool, true, false, ◌||◌, List, [], ◌∷◌, ◌++◌, length, Option, Some, Result, Ok, refl, sym, ap, subst, arith, if◌then◌else◌}
use Rattle.std.specs.Prelude.{slice_get}
use Rattle.std.specs.List.{list_any}
use Rattle.std.specs.Str.{bytes_eq}
use Rattle.std.proofs.lemmas.Bool.{both_ways, or_parts, or_left, or_right}
use Rattle.std.proofs.lemmas.List.{append-nil, append_assoc, append_cancel_left}
use Rattle.std.proofs.lemmas.List.Folds.{list_any-append}
use Rattle.std.proofs.lemmas.Slice.Eq.{bytes_eq-Decides}
use Rattle.std.proofs.lemmas.Option.{same_Some}

-- ---- steps that may be refused

pub not_empty : {A : Type 0} (a : A) (xs : List A) → a ∷ xs ≡ [] → ⊥
not_empty a xs e = cc

-- a list is not longer than itself
pub ends : {A : Type 0} (xs ys : List A) → xs ≡ xs ++ ys → ys ≡ []
ends xs ys e = append_cancel_left xs ys [] (sym e ∙ sym (append-nil xs))

pub chosen : {A E : Type 0} (c : Bool) (x y : Result A E) (b : A) (P : Type 0) → (x ≡ Ok b → P) → (y ≡ Ok b → P) → (if c then x else y) ≡ Ok b → P
chosen true x y b P f g e = f e
chosen false x y b P f g e = g e

-- ---- elements

pub data Found {A : Type 0} (xs ys : List A) (n : ℕ) (x : A) : Type 0 where
  in_first : slice_get xs n ≡ Some x → Found xs ys n x
  in_second : (k : ℕ) → n ≡ length xs + k → slice_get ys k ≡ Some x → Found xs ys n x

found_later : {A : Type 0} (y : A) (xs ys : List A) (n : ℕ) (x : A) → Found xs ys n x → Found (y ∷ xs) ys (suc n) x
found_later y xs ys n x (in_first e) = in_first e
found_later y xs ys n x (in_second k is e) = in_second k (omega arith) e

pub found : {A : Type 0} (xs ys : List A) (n : ℕ) (x : A) → slice_get (xs ++ ys) n ≡ Some x → Found xs ys n x
found [] ys n x e = in_second n (omega arith) e
found (y ∷ xs) ys zero x e = in_first e
found (y ∷ xs) ys (suc n) x e = found_later y xs ys n x (found xs ys n x e)

pub only_one : {A : Type 0} (y : A) (n : ℕ) (x : A) → slice_get (y ∷ []) n ≡ Some x → (n ≡ 0) × (y ≡ x)
only_one y zero x e = (refl, same_Some y x e)
only_one y (suc n) x e = absurd cc

pub none_there : {A : Type 0} (n : ℕ) (x : A) → ◌≡◌ {A = Option A} (slice_get [] n) (Some x) → ⊥
none_there n x e = cc

-- ---- names that are taken

abbrev pub is_in : List ℕ → List (List ℕ) → Bool
is_in name names = list_any (bytes_eq name) names

-- more names are taken than before
pub record Longer (before after : List (List ℕ)) : Type 0 where
  pub more : List (List ℕ)
  pub is : after ≡ before ++ more

pub longer_none : (names : List (List ℕ)) → Longer names names
longer_none names = record { more = []; is = sym (append-nil names) }

pub longer_both : (a b c : List (List ℕ)) → Longer a b → Longer b c → Longer a c
longer_both a b c h g = record { more = h.more ++ g.more; is = g.is ∙ ap (λ z. z ++ g.more) h.is ∙ append_assoc a h.more g.more }

in_parts : (name : List ℕ) (a b : List (List ℕ)) (h : Longer a b) → is_in name b ≡ (is_in name a || is_in name h.more)
in_parts name a b h = ap (is_in name) h.is ∙ list_any-append (bytes_eq name) a h.more

pub fresh_before : (name : List ℕ) (a b : List (List ℕ)) → Longer a b → is_in name b ≡ false → is_in name a ≡ false
fresh_before name a b h e = (or_parts (is_in name a) (is_in name h.more) (sym (in_parts name a b h) ∙ e)).0

pub taken_after : (name : List ℕ) (a b : List (List ℕ)) → Longer a b → is_in name a ≡ true → is_in name b ≡ true
taken_after name a b h e = in_parts name a b h ∙ or_left (is_in name a) (is_in name h.more) e

pub taken_one : (name : List ℕ) (names : List (List ℕ)) → is_in name (names ++ name ∷ []) ≡ true
taken_one name names =
    list_any-append (bytes_eq name) names (name ∷ [])
    ∙ or_right (is_in name names) (is_in name (name ∷ [])) (or_left (bytes_eq name name) false ((bytes_eq-Decides name name).1 refl))

-- one that is taken and one that is free differ
pub names_differ : (name other : List ℕ) (names : List (List ℕ)) → is_in name names ≡ true → is_in other names ≡ false → name ≡ other → ⊥
names_differ name other names taken fresh same = both_ways (is_in other names) fresh (subst (λ z. is_in z names ≡ true) same taken)
