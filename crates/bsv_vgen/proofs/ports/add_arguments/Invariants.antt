use Rattle.std.proofs.Common.{◌≡◌, ◌++◌, length}
use Rattle.bsv_vgen.specs.Modules.{argument_inputs}
use Rattle.bsv_vgen.proofs.ports.add_arguments.Given as goal

abbrev pub invariant-loop-port : goal.invariant-loop-port
invariant-loop-port l = l.known ++ argument_inputs l.method l.number l.rest ≡ l.initial.known ++ argument_inputs l.method 0 l.ports

abbrev pub decreases-loop-port : goal.decreases-loop-port
decreases-loop-port l = length l.rest
