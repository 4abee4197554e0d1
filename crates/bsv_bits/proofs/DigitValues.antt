-- A number only grows by its digits.
use Rattle.std.proofs.Common.{◌≡◌, ℕ, ◌+◌, ◌*◌, ◌^◌, ◌<◌, ◌≤◌, Bool, true, false, nat_lt, if◌then◌else◌, List, [], ◌∷◌, length, get_or, Option, Some, None, refl, arith}
use Rattle.std.proofs.Math.Nat.{le-mul_of_pos_right}
use Rattle.std.proofs.lemmas.Bool.Decides.{nat_tests}
use Rattle.bsv_bits.specs.DigitValues.{with_digit, value_from, value_of, digit_value}

grows_by : (radix number digit : ℕ) → 1 ≤ radix → number ≤ number * radix + digit
grows_by radix number digit some =
    let positive : 0 < radix = omega (arith, some) in
    omega (arith, le-mul_of_pos_right {m = radix} number positive)

grows : (radix number b : ℕ) → 1 ≤ radix → number ≤ with_digit radix number b
grows radix number b some = grind (arith, nat_tests, grows_by radix number (digit_value b) some)

pub value_from-grows : (radix number : ℕ) (digits : List ℕ) → 1 ≤ radix → number ≤ value_from radix number digits
value_from-grows radix number [] some = omega arith
value_from-grows radix number (b ∷ digits) some = omega (arith, grows radix number b some, value_from-grows radix (with_digit radix number b) digits some)

-- where the digits up to here are too large a number, so are all of them
pub value_of-most : (radix number b : ℕ) (digits rest : List ℕ) → 1 ≤ radix → value_from radix 0 digits ≡ value_from radix number (b ∷ rest) → nat_lt (with_digit radix number b) (2 ^ 128) ≡ false → nat_lt (value_of radix digits) (2 ^ 128) ≡ false
unfolding value_of
value_of-most radix number b digits rest some same most =
    let up : with_digit radix number b ≤ value_from radix (with_digit radix number b) rest = value_from-grows radix (with_digit radix number b) rest some in
    grind (arith, nat_tests, same, up, most)

-- which way an `if` went that gave nothing, or something
pub none_if : {A : Type 0} (b : Bool) (x : A) (r : Option A) → r ≡ (if b then Some x else None) → r ≡ None → b ≡ false
none_if true x r is none = absurd cc
none_if false x r is none = refl

pub some_if : {A : Type 0} (b : Bool) (x y : A) (r : Option A) → r ≡ (if b then Some x else None) → r ≡ Some y → b ≡ true
some_if true x y r is some = refl
some_if false x y r is some = absurd cc

pub value_of-none : (radix number : ℕ) (digits rest : List ℕ) (r : Option ℕ) → 1 ≤ radix → 1 ≤ length rest → value_from radix 0 digits ≡ value_from radix number rest
    → r ≡ (if nat_lt (with_digit radix number (get_or rest 0 0)) (2 ^ 128) then Some (with_digit radix number (get_or rest 0 0)) else None) → r ≡ None
    → ◌≡◌ {A = Option ℕ} None (if nat_lt (value_of radix digits) (2 ^ 128) then Some (value_of radix digits) else None)
value_of-none radix number digits [] r some more same is none = absurd (omega (arith, more))
value_of-none radix number digits (b ∷ rest) r some more same is none =
    rw (value_of-most radix number b digits rest some same (none_if (nat_lt (with_digit radix number b) (2 ^ 128)) (with_digit radix number b) r is none)) refl

nothing_left : (radix value : ℕ) (digits rest : List ℕ) → length rest < 1 → value_from radix 0 digits ≡ value_from radix value rest → value_of radix digits ≡ value
unfolding value_of
nothing_left radix value digits [] none same = same
nothing_left radix value digits (b ∷ rest) none same = absurd (omega (arith, none))

pub value_of-end : (radix value : ℕ) (digits rest : List ℕ) → length rest < 1 → value_from radix 0 digits ≡ value_from radix value rest → value < 2 ^ 128
    → ◌≡◌ {A = Option ℕ} (Some value) (if nat_lt (value_of radix digits) (2 ^ 128) then Some (value_of radix digits) else None)
value_of-end radix value digits rest none same below =
    let is : value_of radix digits ≡ value = nothing_left radix value digits rest none same in
    let test : nat_lt value (2 ^ 128) ≡ true = grind (arith, nat_tests) in
    rw is (rw test refl)
