use Rattle.std.proofs.Common.{◌≡◌, drop}
use Rattle.bsv_elab.specs.Making as spec
use Rattle.bsv_elab.proofs.making.is_around.Given as goal

abbrev pub invariant-loop-other : goal.invariant-loop-other
invariant-loop-other l = spec.is_around l.«module» l.around ≡ spec.is_around l.«module» (drop l.other-index l.around)
