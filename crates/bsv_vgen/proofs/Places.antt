-- What is at a place of the lists that a module's names are made of.
use Rattle.std.proofs.Common.{◌≡◌, ◌∙◌, ℕ, zero, suc, ◌+◌, Bool, true, false, cond, List, [], ◌∷◌, ◌++◌, map, take, length, Some, refl, sym, ap, arith, codes}
use Rattle.std.specs.Prelude.{slice_get, decimal}
use Rattle.std.specs.List.{flat_map, list_any}
use Rattle.std.specs.Str.{bytes_eq}
use Rattle.std.proofs.lemmas.Bool.{both_ways, or_parts}
use Rattle.std.proofs.lemmas.List.{length-append}
use Rattle.std.proofs.lemmas.Option.{same_Some}
use Rattle.std.proofs.lemmas.Slice.Eq.{bytes_eq-Decides}
use Rattle.bsv_graph.specs.Edges.{numbers_below}
use Rattle.bsv_design.specs.design.Roles.{is_value}
use Rattle.bsv_design.specs.scheme.Schemes.{Outline}
use Rattle.bsv_vtext.specs.declared.tree.VWire.{VWire}
use Rattle.bsv_vgen.specs.Names.{numbered_wire, numbered_from, fire_wire, fire_wires}
use Rattle.bsv_graph.proofs.Below.{count_below}

-- ---- lists

pub data Found {A : Type 0} (xs ys : List A) (n : ℕ) (x : A) : Type 0 where
  in_first : slice_get xs n ≡ Some x → Found xs ys n x
  in_second : (k : ℕ) → n ≡ length xs + k → slice_get ys k ≡ Some x → Found xs ys n x

found_later : {A : Type 0} (y : A) (xs ys : List A) (n : ℕ) (x : A) → Found xs ys n x → Found (y ∷ xs) ys (suc n) x
found_later y xs ys n x (in_first e) = in_first e
found_later y xs ys n x (in_second k is e) = in_second k (omega arith) e

pub found : {A : Type 0} (xs ys : List A) (n : ℕ) (x : A) → slice_get (xs ++ ys) n ≡ Some x → Found xs ys n x
found [] ys n x e = in_second n (omega arith) e
found (y ∷ xs) ys zero x e = in_first e
found (y ∷ xs) ys (suc n) x e = found_later y xs ys n x (found xs ys n x e)

-- what is made of an element
pub record MadeOf {A B : Type 0} (f : A → B) (xs : List A) (n : ℕ) (y : B) : Type 0 where
  pub from : A
  pub at : slice_get xs n ≡ Some from
  pub is : f from ≡ y

pub made_of : {A B : Type 0} (f : A → B) (xs : List A) (n : ℕ) (y : B) → slice_get (map f xs) n ≡ Some y → MadeOf f xs n y
made_of f [] n y e = absurd cc
made_of f (x ∷ xs) zero y e = record { from = x; at = refl; is = same_Some (f x) y e }
made_of f (x ∷ xs) (suc n) y e = let m = made_of f xs n y e in record { from = m.from; at = m.at; is = m.is }

only_one : (n k x : ℕ) → slice_get (n ∷ []) k ≡ Some x → (k ≡ 0) × (x ≡ n)
only_one n zero x e = (refl, sym (same_Some n x e))
only_one n (suc k) x e = absurd cc

one_more : (n k x : ℕ) → (slice_get (numbers_below n) k ≡ Some x → x ≡ k) → Found (numbers_below n) (n ∷ []) k x → x ≡ k
one_more n k x h (in_first e) = h e
one_more n k x h (in_second j is e) = let o = only_one n j x e in omega (arith, o.0, o.1, count_below n)

pub number_at : (n k x : ℕ) → slice_get (numbers_below n) k ≡ Some x → x ≡ k
number_at zero k x e = absurd cc
number_at (suc n) k x e = one_more n k x (number_at n k x) (found (numbers_below n) (n ∷ []) k x e)

-- no two of a list's names are one
taken_there : (x y : List ℕ) (xs : List (List ℕ)) (n : ℕ) → list_any (bytes_eq x) xs ≡ false → slice_get xs n ≡ Some y → x ≡ y → ⊥
taken_there x y [] n none e same = absurd cc
taken_there x y (z ∷ xs) zero none e same =
    both_ways (bytes_eq x z) (or_parts (bytes_eq x z) (list_any (bytes_eq x) xs) none).0
    ((bytes_eq-Decides x z).1 (same ∙ sym (same_Some z y e)))
taken_there x y (z ∷ xs) (suc n) none e same = taken_there x y xs n (or_parts (bytes_eq x z) (list_any (bytes_eq x) xs) none).1 e same

-- ---- lists one after the other

-- how many elements come before those of the n-th one
abbrev pub before : {A B : Type 0} → (A → List B) → List A → ℕ → ℕ
before f xs n = length (flat_map f (take n xs))

-- the element of one of the lists that is at this place of the whole
pub record FromOne {A B : Type 0} (f : A → List B) (xs : List A) (k : ℕ) (y : B) : Type 0 where
  pub number : ℕ
  pub one : A
  pub at : slice_get xs number ≡ Some one
  pub inner : ℕ
  pub has : slice_get (f one) inner ≡ Some y
  pub place : k ≡ before f xs number + inner

one_later : {A B : Type 0} (f : A → List B) (x : A) (xs : List A) (k : ℕ) (y : B)
    → ((j : ℕ) → slice_get (flat_map f xs) j ≡ Some y → FromOne f xs j y) → Found (f x) (flat_map f xs) k y → FromOne f (x ∷ xs) k y
one_later f x xs k y more (in_first e) = record { number = 0; one = x; at = refl; inner = k; has = e; place = omega arith }
one_later f x xs k y more (in_second j is e) =
    let o = more j e in
    record {
      number = suc o.number;
      one = o.one;
      at = o.at;
      inner = o.inner;
      has = o.has;
      place = omega (arith, is, o.place, length-append (f x) (flat_map f (take o.number xs)));
    }

pub from_one : {A B : Type 0} (f : A → List B) (xs : List A) (k : ℕ) (y : B) → slice_get (flat_map f xs) k ≡ Some y → FromOne f xs k y
from_one f [] k y e = absurd cc
from_one f (x ∷ xs) k y e = one_later f x xs k y (λ j. from_one f xs j y) (found (f x) (flat_map f xs) k y e)

-- ---- wires with numbers

pub record IsNumbered (k : ℕ) (ws : List ℕ) (n : ℕ) (w : VWire) : Type 0 where
  pub is : w.name ≡ codes "N" ++ decimal (k + n)

pub numbered_at : (k : ℕ) (ws : List ℕ) (n : ℕ) (w : VWire) → slice_get (numbered_from k ws) n ≡ Some w → IsNumbered k ws n w
numbered_at k [] n w e = absurd cc
numbered_at k (x ∷ ws) zero w e =
    let same : numbered_wire k x ≡ w = same_Some (numbered_wire k x) w e in
    let number : k ≡ k + 0 = omega arith in
    record { is = ap (λ (v : VWire). v.name) (sym same) ∙ ap (λ j. codes "N" ++ decimal j) number }
numbered_at k (x ∷ ws) (suc n) w e =
    let number : (k + 1) + n ≡ k + suc n = omega arith in
    record { is = (numbered_at (k + 1) ws n w e).is ∙ ap (λ j. codes "N" ++ decimal j) number }

-- ---- wires that tell what fires

-- how many wires come before that of the n-th element
abbrev pub fires_before : List Outline → ℕ → ℕ
fires_before os n = length (fire_wires (take n os))

pub record IsFire (os : List Outline) (k : ℕ) (w : VWire) : Type 0 where
  pub number : ℕ
  pub outline : Outline
  pub at : slice_get os number ≡ Some outline
  pub is : fire_wire outline.name ≡ w
  pub place : k ≡ fires_before os number

fire_later : (o : Outline) (os : List Outline) (k j : ℕ) (w : VWire) (h : IsFire os k w) → j ≡ fires_before (o ∷ os) (suc h.number)
    → IsFire (o ∷ os) j w
fire_later o os k j w h place = record { number = suc h.number; outline = h.outline; at = h.at; is = h.is; place = place }

-- how many come before the next element, where this one has a wire or none
fires_more : (o : Outline) (os : List Outline) (b : Bool) (n : ℕ) → is_value o.role ≡ b
    → length (cond b (fire_wires (take n os)) (fire_wire o.name ∷ fire_wires (take n os))) ≡ fires_before (o ∷ os) (suc n)
fires_more o os b n is = ap (λ c. length (cond c (fire_wires (take n os)) (fire_wire o.name ∷ fire_wires (take n os)))) (sym is)

fire_first : (o : Outline) (os : List Outline) (w : VWire) → ((k : ℕ) → slice_get (fire_wires os) k ≡ Some w → IsFire os k w)
    → (b : Bool) → is_value o.role ≡ b → (k : ℕ) → slice_get (cond b (fire_wires os) (fire_wire o.name ∷ fire_wires os)) k ≡ Some w
    → IsFire (o ∷ os) k w
fire_first o os w more true is k e = let h = more k e in fire_later o os k k w h (h.place ∙ fires_more o os true h.number is)
fire_first o os w more false is zero e = record { number = 0; outline = o; at = refl; is = same_Some (fire_wire o.name) w e; place = refl }
fire_first o os w more false is (suc k) e =
    let h = more k e in fire_later o os k (suc k) w h (ap suc h.place ∙ fires_more o os false h.number is)

pub fire_at : (os : List Outline) (k : ℕ) (w : VWire) → slice_get (fire_wires os) k ≡ Some w → IsFire os k w
fire_at [] k w e = absurd cc
fire_at (o ∷ os) k w e = fire_first o os w (λ j. fire_at os j w) (is_value o.role) refl k e

-- each element that may fire has one
pub record HasFireWire (os : List Outline) (name : List ℕ) : Type 0 where
  pub place : ℕ
  pub at : slice_get (fire_wires os) place ≡ Some (fire_wire name)

pub fire_of : (os : List Outline) (n : ℕ) (o : Outline) → slice_get os n ≡ Some o → is_value o.role ≡ false → HasFireWire os o.name
fire_of [] n o e acts = absurd cc
fire_of (p ∷ os) zero o e acts =
    let same : p ≡ o = same_Some p o e in
    let value : is_value p.role ≡ false = ap (λ (x : Outline). is_value x.role) same ∙ acts in
    record {
      place = 0;
      at = ap (λ c. slice_get (cond c (fire_wires os) (fire_wire p.name ∷ fire_wires os)) 0) value
          ∙ ap (λ (x : Outline). Some (fire_wire x.name)) same;
    }
fire_of (p ∷ os) (suc n) o e acts = by (is_value p.role) refl (fire_of os n o e acts) where
  by : (b : Bool) → is_value p.role ≡ b → HasFireWire os o.name → HasFireWire (p ∷ os) o.name
  by true is h = record {
    place = h.place;
    at = ap (λ c. slice_get (cond c (fire_wires os) (fire_wire p.name ∷ fire_wires os)) h.place) is ∙ h.at;
  }
  by false is h = record {
    place = suc h.place;
    at = ap (λ c. slice_get (cond c (fire_wires os) (fire_wire p.name ∷ fire_wires os)) (suc h.place)) is ∙ h.at;
  }
