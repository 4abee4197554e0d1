use Rattle.std.proofs.Common.{◌≡◌, length, map}
use Rattle.bsv_names.specs.Attributes as spec
use Rattle.bsv_names.proofs.attributes.bad_among.Given as goal

abbrev pub decreases-loop-written : goal.decreases-loop-written
decreases-loop-written l = length l.rest

abbrev pub invariant-loop-written : goal.invariant-loop-written
invariant-loop-written l = spec.first_malformed (map (spec.standing l.number l.owner) l.rest) ≡ spec.first_malformed (map (spec.standing l.number l.owner) l.attributes)
