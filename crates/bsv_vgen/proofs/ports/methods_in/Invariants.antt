use Rattle.std.proofs.Common.{◌≡◌, ◌++◌, ◌≤◌, length, take, drop, ◌-◌}
use Rattle.bsv_design.specs.scheme.States.{methods_in}
use Rattle.bsv_vgen.proofs.ports.methods_in.Given as goal

abbrev pub invariant-loop-count : goal.invariant-loop-count
invariant-loop-count l = (l.count ≤ length l.elements) × (methods_in l.elements ≡ take l.count l.elements ++ methods_in (drop l.count l.elements))

abbrev pub decreases-loop-count : goal.decreases-loop-count
decreases-loop-count l = length l.elements - l.count
