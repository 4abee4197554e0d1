use Rattle.std.proofs.Common.{◌≡◌, map, take}
use Rattle.bsv_tree.specs.carrying.Values as spec
use Rattle.bsv_tree.proofs.value.atoms.Given as goal

abbrev pub invariant-loop-value : goal.invariant-loop-value
invariant-loop-value l = l.found ≡ map spec.atom_of (take l.value-index l.values)
