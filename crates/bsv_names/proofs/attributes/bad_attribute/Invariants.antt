use Rattle.std.proofs.Common.{◌≡◌, ◌+◌, length}
use Rattle.bsv_names.specs.Attributes as spec
use Rattle.bsv_names.proofs.attributes.bad_attribute.Given as goal

abbrev pub decreases-loop-source : goal.decreases-loop-source
decreases-loop-source l = length l.rest

abbrev pub invariant-loop-source : goal.invariant-loop-source
invariant-loop-source l = (l.index + length l.rest ≡ length l.packages) × (spec.first_malformed (spec.in_packages l.index l.rest) ≡ spec.first_malformed (spec.in_packages 0 l.packages))
