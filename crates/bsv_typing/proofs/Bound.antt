-- Steps that may fail, taken apart, and tests that are passed.
use Rattle.std.proofs.Common.{◌≡◌, Bool, true, false, cond, Option, Some, None, refl, subst}
use Rattle.std.proofs.lemmas.Option.{same_Some}
use Rattle.bsv_types.specs.Kinds.{Kind, same_kind}
use Rattle.bsv_types.specs.Operators.{◌>>=◌}
use Rattle.bsv_types.proofs.Same.{same_is}
use Rattle.bsv_context.specs.Env.{TypedExpr, wanted}
use Rattle.bsv_typing.specs.Operands.{Check, check_if}
use Rattle.bsv_typing.specs.Forms.{if_true}

-- a step that gave something, and what went on with it
pub taken : {A B : Type 0} (r : Option A) (f : A → Option B) (y : B) → (r >>= f) ≡ Some y → (x : A) × (r ≡ Some x) × (f x ≡ Some y)
taken None f y e = absurd cc
taken (Some x) f y e = (x, refl, e)

-- a test that was passed
pub tested : {A : Type 0} (b : Bool) (x y : A) → if_true b x ≡ Some y → (b ≡ true) × (x ≡ y)
tested true x y e = (refl, same_Some x y e)
tested false x y e = absurd cc

-- and a step after a test, or after one that failed
pub tested_step : {A : Type 0} (b : Bool) (r : Option A) (y : A) → cond b r None ≡ Some y → (b ≡ true) × (r ≡ Some y)
tested_step true r y e = (refl, e)
tested_step false r y e = absurd cc

pub failed_step : {A : Type 0} (b : Bool) (r : Option A) (y : A) → cond b None r ≡ Some y → (b ≡ false) × (r ≡ Some y)
failed_step true r y e = absurd cc
failed_step false r y e = (refl, e)

pub checked : (b : Bool) (check : Check) (want : Option Kind) (m : TypedExpr) → check_if b check want ≡ Some m → (b ≡ true) × (check want ≡ Some m)
checked true check want m e = (refl, e)
checked false check want m e = absurd cc

-- the type that was expected
abbrev pub HasKind : Option Kind → Kind → Type 0
HasKind None k = Unit {0}
HasKind (Some j) k = k ≡ j

pub has_kind : (want : Option Kind) (k : Kind) → HasKind want k → (j : Kind) → want ≡ Some j → k ≡ j
has_kind None k h j e = absurd cc
has_kind (Some i) k h j e = cc

pub wanted_is : (want : Option Kind) (t m : TypedExpr) → wanted want t ≡ Some m → (t ≡ m) × HasKind want m.kind
wanted_is None t m e = (same_Some t m e, tt)
wanted_is (Some k) t m e =
    let h = tested_step (same_kind t.kind k) (Some t) m e in
    let is = same_Some t m h.1 in
    (is, subst (λ x. x.kind ≡ k) is (same_is t.kind k h.0))
