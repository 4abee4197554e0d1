use Rattle.std.proofs.Common.{◌≡◌, ◌++◌, length}
use Rattle.bsv_vgen.specs.Names.{register_names}
use Rattle.bsv_vgen.proofs.names.register_names.Given as goal

abbrev pub invariant-loop-part : goal.invariant-loop-part
invariant-loop-part l = l.names ++ register_names l.rest ≡ register_names l.parts

abbrev pub decreases-loop-part : goal.decreases-loop-part
decreases-loop-part l = length l.rest
