-- What is decided so far, part by part.
use Rattle.std.proofs.Common.{◌≡◌}
use Rattle.bsv_serial.specs.Decider.{SoFar}

pub same_so_far : (x y : SoFar) → x.calls_made ≡ y.calls_made → x.stoppers ≡ y.stoppers → x.fates ≡ y.fates → x ≡ y
same_so_far x y calls_made stoppers fates = λ i. record { calls_made = calls_made i; stoppers = stoppers i; fates = fates i }
