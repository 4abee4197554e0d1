use Rattle.std.proofs.Common.{◌≡◌, ◌++◌, map, length}
use Rattle.bsv_ports.specs.Starts.{register_starts}
use Rattle.bsv_ports.proofs.ground.register_starts.Given as goal

abbrev pub invariant-loop-part : goal.invariant-loop-part
invariant-loop-part l =
    l.starts.items ++ register_starts l.next (map (λ p. p.kind) l.rest) ≡ register_starts l.inputs (map (λ p. p.kind) l.parts)

abbrev pub decreases-loop-part : goal.decreases-loop-part
decreases-loop-part l = length l.rest
