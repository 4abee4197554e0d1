-- A kind that may be given, where it is the one that is asked for.
use Rattle.std.proofs.Common.{◌≡◌, true, Option, Some, None, ap}
use Rattle.bsv_types.specs.Kinds.{Kind}
use Rattle.bsv_types.specs.Operators.{is_kind}
use Rattle.bsv_types.proofs.Same.{same_is}

pub kind_given : (o : Option Kind) (k : Kind) → is_kind o k ≡ true → o ≡ Some k
kind_given None k e = absurd (let n : ⊥ = cc in n)
kind_given (Some j) k e = ap Some (same_is j k e)
