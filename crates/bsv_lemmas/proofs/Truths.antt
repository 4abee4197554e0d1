-- Truths joined by `&&`, `||` and `if`: the halves of one that holds, and what one half leaves.
use Rattle.std.proofs.Common.{◌≡◌, Bool, true, false, ◌&&◌, ◌||◌, if◌then◌else◌, refl}

pub both_left : (a b : Bool) → (a && b) ≡ true → a ≡ true
both_left true b h = refl
both_left false b h = h

pub both_right : (a b : Bool) → (a && b) ≡ true → b ≡ true
both_right true b h = h
both_right false b h = absurd (let n : ⊥ = cc in n)

pub both_turned : (a b : Bool) → (a && b) ≡ (b && a)
both_turned true true = refl
both_turned true false = refl
both_turned false true = refl
both_turned false false = refl

pub or_false : (a : Bool) → (a || false) ≡ a
or_false true = refl
or_false false = refl

pub or_true : (a : Bool) → (a || true) ≡ true
or_true true = refl
or_true false = refl

-- an `or` whose right half is false holds by its left half
pub from_or_false : (a : Bool) → (a || false) ≡ true → a ≡ true
from_or_false true h = refl
from_or_false false h = h

-- a choice of `true` and a rest that is false, where the condition never holds
pub neither_holds : (a rest : Bool) → (a ≡ true → ⊥) → rest ≡ false → (if a then true else rest) ≡ false
neither_holds true rest never h = absurd (never refl)
neither_holds false rest never h = h
