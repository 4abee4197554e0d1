-- The places of instances among the primitives.
use Rattle.std.proofs.Common.{◌≡◌, ◌∙◌, ℕ, zero, suc, ◌+◌, ◌<◌, ◌≤◌, List, [], ◌∷◌, ◌++◌, length, get_or, Some, refl, sym, ap, subst, arith}
use Rattle.std.specs.Prelude.{slice_get}
use Rattle.std.proofs.lemmas.Option.{get_or_from_slice_get}
use Rattle.bsv_tree.specs.declared.tree.Instance.{Instance}
use Rattle.bsv_tree.specs.tree.Elements.{parts_before, is_part, one_if}
use Rattle.bsv_inline.specs.Placed.{ArePartNumbers}

-- the numbers from one on
abbrev pub numbers_from : ℕ → List Instance → List ℕ
numbers_from count [] = count ∷ []
numbers_from count (i ∷ is) = count ∷ numbers_from (count + one_if (is_part i.made)) is

as_many : (count : ℕ) (is : List Instance) → length (numbers_from count is) ≡ length is + 1
as_many count [] = refl
as_many count (i ∷ is) =
    let o = one_if (is_part i.made) in
    let e : length (numbers_from (count + o) is) ≡ length is + 1 = as_many (count + o) is in
    omega arith

got : (count : ℕ) (is : List Instance) (n : ℕ) → n ≤ length is → slice_get (numbers_from count is) n ≡ Some (count + parts_before is n)
got count [] zero below = let e : count ≡ count + 0 = omega arith in ap Some e
got count [] (suc n) below = absurd (omega arith)
got count (i ∷ is) zero below = let e : count ≡ count + 0 = omega arith in ap Some e
got count (i ∷ is) (suc n) below =
    let o = one_if (is_part i.made) in
    let e : count + o + parts_before is n ≡ count + (o + parts_before is n) = omega arith in
    got (count + o) is n (omega arith) ∙ ap Some e

are_numbers : (is : List Instance) → ArePartNumbers is (numbers_from 0 is)
are_numbers is = record { as_many = as_many 0 is; at = λ n below. let e : 0 + parts_before is n ≡ parts_before is n = omega arith in got 0 is n below ∙ ap Some e }

pub numbered : (is rest : List Instance) (numbers all : List ℕ) (count : ℕ) → numbers_from 0 is ≡ numbers ++ numbers_from count rest → length rest ≡ 0 → all ≡ numbers ++ count ∷ []
    → ArePartNumbers is all
numbered is [] numbers all count e done a = subst (ArePartNumbers is) (e ∙ sym a) (are_numbers is)
numbered is (i ∷ rest) numbers all count e done a = absurd (omega arith)

-- after the last instance there are no more
pub past_all : (is : List Instance) (n : ℕ) → length is ≤ n → parts_before is n ≡ parts_before is (length is)
past_all [] zero h = refl
past_all [] (suc n) h = refl
past_all (i ∷ is) zero h = absurd (omega arith)
past_all (i ∷ is) (suc n) h = ap (λ (k : ℕ). one_if (is_part i.made) + k) (past_all is n (omega arith))

pub within : (is : List Instance) (numbers : List ℕ) → ArePartNumbers is numbers → (n : ℕ) → n < length is → get_or numbers n 0 ≡ parts_before is n
within is numbers h n below = get_or_from_slice_get numbers n _ 0 (h.at n (omega arith))

pub behind : (is : List Instance) (numbers : List ℕ) → ArePartNumbers is numbers → (n : ℕ) → length is ≤ n → get_or numbers (length is) 0 ≡ parts_before is n
behind is numbers h n past = get_or_from_slice_get numbers (length is) _ 0 (h.at (length is) (omega arith)) ∙ sym (past_all is n past)

pub ruleset numbers_at = (within, behind)
