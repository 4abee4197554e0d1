-- Each method is once, directly in the body.
use Rattle.std.proofs.Common.{◌≡◌, ◌∙◌, ℕ, zero, suc, ◌<◌, Bool, true, false, not, ◌&&◌, List, [], ◌∷◌, length, Option, Some, None, Ok, refl, sym, ap, subst, arith}
use Rattle.std.specs.Prelude.{◌==◌, nat_lt, slice_get, slice_set}
use Rattle.std.specs.List.{list_all, list_any}
use Rattle.std.proofs.lemmas.Bool.{eqb-true, lt-ltb, and_parts, and_from}
use Rattle.std.proofs.lemmas.Option.{same_Some}
use Rattle.bsv_ast.specs.declared.text.Span.{Span}
use Rattle.bsv_types.specs.declared.modules.Method.{Method}
use Rattle.bsv_types.specs.Methods.{Signature}
use Rattle.bsv_types.specs.Modules.{each_once}
use Rattle.bsv_statements.proofs.RightCalls.{ok_is, went}
use Rattle.bsv_modules.specs.Modules.{is_free}
use Rattle.bsv_modules.specs.Programs.{no_methods, all_there}

-- ---- one place is taken

abbrev pub placed : List (Option Method) → ℕ → Method → List (Option Method)
placed ms n m = slice_set ms n (Some m)

pub free_within : (ms : List (Option Method)) (n : ℕ) → is_free n ms ≡ true → n < length ms
free_within [] n free = absurd cc
free_within (x ∷ ms) zero free = omega arith
free_within (x ∷ ms) (suc n) free = omega (arith, free_within ms n free)

pub place_taken : (ms : List (Option Method)) (n : ℕ) (m : Method) → is_free n ms ≡ true → is_free n (placed ms n m) ≡ false
place_taken [] n m free = absurd cc
place_taken (x ∷ ms) zero m free = refl
place_taken (x ∷ ms) (suc n) m free = place_taken ms n m free

-- what is free later was free before
pub freed : (ms : List (Option Method)) (n k : ℕ) (m : Method) → is_free k (placed ms n m) ≡ true → is_free k ms ≡ true
freed [] n k m free = free
freed (x ∷ ms) zero zero m free = absurd cc
freed (x ∷ ms) zero (suc k) m free = free
freed (x ∷ ms) (suc n) zero m free = free
freed (x ∷ ms) (suc n) (suc k) m free = freed ms n k m free

-- how many stand
abbrev pub standing : List (Option Method) → ℕ
standing [] = 0
standing (None ∷ ms) = standing ms
standing (Some m ∷ ms) = suc (standing ms)

pub one_stands : (ms : List (Option Method)) (n : ℕ) (m : Method) → is_free n ms ≡ true → standing (placed ms n m) ≡ suc (standing ms)
one_stands [] n m free = absurd cc
one_stands (None ∷ ms) zero m free = refl
one_stands (Some x ∷ ms) zero m free = absurd cc
one_stands (None ∷ ms) (suc n) m free = one_stands ms n m free
one_stands (Some x ∷ ms) (suc n) m free = ap suc (one_stands ms n m free)

-- ---- numbers that are free

pub all_freed : (ms : List (Option Method)) (n : ℕ) (m : Method) (ks : List ℕ) → list_all (λ k. is_free k (placed ms n m)) ks ≡ true → list_all (λ k. is_free k ms) ks ≡ true
all_freed ms n m [] free = refl
all_freed ms n m (k ∷ ks) free =
    let b = and_parts (is_free k (placed ms n m)) (list_all (λ k. is_free k (placed ms n m)) ks) free in
    and_from (is_free k ms) (list_all (λ k. is_free k ms) ks) (freed ms n k m b.0) (all_freed ms n m ks b.1)

-- a number that is taken is none of those that are free
pub none_of : (ms : List (Option Method)) (n : ℕ) (ks : List ℕ) → is_free n ms ≡ false → list_all (λ k. is_free k ms) ks ≡ true → list_any (λ k. n == k) ks ≡ false
none_of ms n [] is_taken free = refl
none_of ms n (k ∷ ks) is_taken free =
    let b = and_parts (is_free k ms) (list_all (λ k. is_free k ms) ks) free in
    by (n == k) refl b.0 (none_of ms n ks is_taken b.1)
  where
    by : (t : Bool) → (n == k) ≡ t → is_free k ms ≡ true → list_any (λ k. n == k) ks ≡ false → list_any (λ k. n == k) (k ∷ ks) ≡ false
    by true is here others =
        let same = eqb-true n k is in
        let never : true ≡ false = sym here ∙ ap (λ j. is_free j ms) (sym same) ∙ is_taken in
        absurd cc
    by false is here others = rw is others

pub once_more : (ms : List (Option Method)) (n limit : ℕ) (m : Method) (ks : List ℕ) → limit ≡ length ms → is_free n ms ≡ true → list_all (λ k. is_free k (placed ms n m)) ks ≡ true → each_once limit ks ≡ true → each_once limit (n ∷ ks) ≡ true
once_more ms n limit m ks many free others once =
    let within : n < length ms = free_within ms n free in
    let below = lt-ltb n limit (omega arith) in
    let other = ap not (none_of (placed ms n m) n ks (place_taken ms n m free) others) in
    and_from (nat_lt n limit && not (list_any (λ k. n == k) ks)) (each_once limit ks) (and_from (nat_lt n limit) (not (list_any (λ k. n == k) ks)) below other) once

-- ---- at the start and at the end

pub none_stand : (wanted : List Signature) → standing (no_methods wanted) ≡ 0
none_stand [] = refl
none_stand (q ∷ wanted) = none_stand wanted

-- all of them, where none is missing
pub record AllThere (ms : List (Option Method)) (xs : List Method) : Type 0 where
  pub many : length ms ≡ length xs
  pub stand : standing ms ≡ length xs
  pub there : (n : ℕ) (m : Method) → slice_get ms n ≡ Some (Some m) → slice_get xs n ≡ Some m

pub there_all : (s : Span) (ms : List (Option Method)) (xs : List Method) → all_there s ms ≡ Ok xs → AllThere ms xs
there_all s [] xs e = subst (AllThere []) (ok_is [] xs e) (record { many = refl; stand = refl; there = λ n m is. absurd cc })
there_all s (None ∷ ms) xs e = absurd cc
there_all s (Some x ∷ ms) xs e =
    let rest = went (all_there s ms) _ xs e in
    let h = there_all s ms rest.0 rest.1 in
    let there_is : (n : ℕ) (m : Method) → slice_get (Some x ∷ ms) n ≡ Some (Some m) → slice_get (x ∷ rest.0) n ≡ Some m = at_place x ms rest.0 h.there in
    subst (AllThere (Some x ∷ ms)) (ok_is (x ∷ rest.0) xs rest.2) (record { many = ap suc h.many; stand = ap suc h.stand; there = there_is })
  where
    at_place : (x : Method) (ms : List (Option Method)) (ys : List Method) → ((n : ℕ) (m : Method) → slice_get ms n ≡ Some (Some m) → slice_get ys n ≡ Some m) → (n : ℕ) (m : Method) → slice_get (Some x ∷ ms) n ≡ Some (Some m) → slice_get (x ∷ ys) n ≡ Some m
    at_place x ms ys h zero m is = same_Some (Some x) (Some m) is
    at_place x ms ys h (suc n) m is = h n m is
