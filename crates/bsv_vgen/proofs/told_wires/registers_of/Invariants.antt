use Rattle.std.proofs.Common.{◌≡◌, ◌++◌, length}
use Rattle.bsv_vgen.specs.Modules.{registers_of}
use Rattle.bsv_vgen.proofs.told_wires.registers_of.Given as goal

abbrev pub invariant-loop-name : goal.invariant-loop-name
invariant-loop-name l = l.made ++ registers_of l.rest l.left ≡ registers_of l.names l.registers

abbrev pub decreases-loop-name : goal.decreases-loop-name
decreases-loop-name l = length l.rest
