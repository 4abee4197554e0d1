use Rattle.std.proofs.Common.{◌≡◌, drop}
use Rattle.bsv_tree.specs.carrying.Values as spec
use Rattle.bsv_tree.proofs.value.all_static.Given as goal

abbrev pub invariant-loop-value : goal.invariant-loop-value
invariant-loop-value l = spec.all_static l.values ≡ spec.all_static (drop l.value-index l.values)
