use Rattle.std.proofs.Common.{◌≡◌, length}
use Rattle.bsv_names.specs.Attributes as spec
use Rattle.bsv_names.proofs.attributes.bad_of_owner.Given as goal

abbrev pub decreases-loop-group : goal.decreases-loop-group
decreases-loop-group l = length l.rest

abbrev pub invariant-loop-group : goal.invariant-loop-group
invariant-loop-group l = spec.first_malformed (spec.of_owner l.number l.owner l.rest) ≡ spec.first_malformed (spec.of_owner l.number l.owner l.groups)
