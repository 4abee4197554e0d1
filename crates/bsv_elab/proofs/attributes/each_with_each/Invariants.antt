use Rattle.std.proofs.Common.{◌≡◌, ◌++◌, drop}
use Rattle.bsv_elab.specs.Attributes as spec
use Rattle.bsv_elab.proofs.attributes.each_with_each.Given as goal

abbrev pub invariant-loop-left : goal.invariant-loop-left
invariant-loop-left l = spec.each_with_each l.lefts l.rights ≡ l.pairs ++ spec.each_with_each (drop l.left-index l.lefts) l.rights
