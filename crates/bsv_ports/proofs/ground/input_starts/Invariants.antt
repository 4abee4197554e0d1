use Rattle.std.proofs.Common.{◌≡◌, ◌++◌, length}
use Rattle.bsv_ports.specs.Starts.{input_starts}
use Rattle.bsv_ports.proofs.ground.input_starts.Given as goal

abbrev pub invariant-loop-element : goal.invariant-loop-element
invariant-loop-element l = l.starts.items ++ input_starts l.next l.rest ≡ input_starts 0 l.elements

abbrev pub decreases-loop-element : goal.decreases-loop-element
decreases-loop-element l = length l.rest
