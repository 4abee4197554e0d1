use Rattle.std.proofs.Common.{◌≡◌, drop}
use Rattle.bsv_elab.specs.Attributes as spec
use Rattle.bsv_elab.proofs.attributes.positions.Given as goal

abbrev pub invariant-loop-name : goal.invariant-loop-name
invariant-loop-name l = spec.positions l.attribute l.rules l.names ≡ spec.positions_from l.attribute l.rules l.found (drop l.name-index l.names)
