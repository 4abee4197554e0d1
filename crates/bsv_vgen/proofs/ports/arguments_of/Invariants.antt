use Rattle.std.proofs.Common.{◌≡◌, ◌++◌, map, length}
use Rattle.bsv_vgen.specs.Interfaces.{argument_of}
use Rattle.bsv_vgen.proofs.ports.arguments_of.Given as goal

abbrev pub invariant-loop-port : goal.invariant-loop-port
invariant-loop-port l = l.args ++ map argument_of l.rest ≡ map argument_of l.ports

abbrev pub decreases-loop-port : goal.decreases-loop-port
decreases-loop-port l = length l.rest
