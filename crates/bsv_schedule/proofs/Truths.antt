-- What tests come to.
use Rattle.std.proofs.Common.{◌≡◌, Bool, true, false, refl, sym}
use Rattle.std.specs.Prelude.{IsTrue}

-- tests that are true where the other is are one
pub same_truths : (r s : Bool) → (IsTrue r → IsTrue s) → (IsTrue s → IsTrue r) → r ≡ s
same_truths true true f g = refl
same_truths true false f g = sym (f refl)
same_truths false true f g = g refl
same_truths false false f g = refl
