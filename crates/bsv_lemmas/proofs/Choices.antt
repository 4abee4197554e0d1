-- Values of which one of two is given: what is known of `Option`, `Result` and `if` from what came of them.
use Rattle.std.proofs.Common.{◌≡◌, Bool, true, false, if◌then◌else◌, Option, Some, None, option_map, Result, Ok, Err, refl}
use Rattle.std.proofs.lemmas.Option.{same_Some}
use mathlib.Core.Sum.{⊎_set}

pub option_set : {A : Type 0} → IsSet A → IsSet (Option A)
option_set set = hlevel (⊎_set, set)

-- what is mapped was there
pub was_there : {A B : Type 0} (f : A → B) (o : Option A) (y : B) → option_map f o ≡ Some y → (x : A) × (o ≡ Some x) × (f x ≡ y)
was_there f None y e = absurd (let n : ⊥ = cc in n)
was_there f (Some x) y e = (x, refl, same_Some (f x) y e)

-- an `if` that gave nothing, where one branch gives something
pub nothing_given : {A : Type 0} (b : Bool) (x : A) (r : Option A) → r ≡ (if b then Some x else None) → r ≡ None → b ≡ false
nothing_given true x r is none = absurd (let n : ⊥ = cc in n)
nothing_given false x r is none = refl

pub same_ok : {A E : Type 0} (x y : A) → ◌≡◌ {A = Result A E} (Ok x) (Ok y) → x ≡ y
same_ok x y e = cc

pub same_err : {A E : Type 0} (x y : E) → ◌≡◌ {A = Result A E} (Err x) (Err y) → x ≡ y
same_err x y e = cc

pub err_never_ok : {A E : Type 0} (x : E) (y : A) → ◌≡◌ {A = Result A E} (Err x) (Ok y) → ⊥
err_never_ok x y e = cc

-- a test that went well, with the error on its `else`, and with the error on its `then`
pub passed : {A E : Type 0} (c : Bool) (x : Result A E) (z : E) (y : A) → (if c then x else Err z) ≡ Ok y → (c ≡ true) × (x ≡ Ok y)
passed true x z y e = (refl, e)
passed false x z y e = absurd (let n : ⊥ = cc in n)

pub not_refused : {A E : Type 0} (c : Bool) (x : Result A E) (z : E) (y : A) → (if c then Err z else x) ≡ Ok y → (c ≡ false) × (x ≡ Ok y)
not_refused true x z y e = absurd (let n : ⊥ = cc in n)
not_refused false x z y e = (refl, e)
