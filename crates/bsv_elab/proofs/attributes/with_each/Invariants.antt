use Rattle.std.proofs.Common.{◌≡◌, take}
use Rattle.bsv_elab.specs.Attributes as spec
use Rattle.bsv_elab.proofs.attributes.with_each.Given as goal

abbrev pub invariant-loop-right : goal.invariant-loop-right
invariant-loop-right l = l.pairs ≡ spec.with_each l.left (take l.right-index l.rights)
