use Rattle.std.proofs.Common.{◌≡◌, ◌++◌, map, length}
use Rattle.bsv_clock.specs.Shows.{cell, cells_of}
use Rattle.bsv_ports.proofs.ground.registers_of.Given as goal

abbrev pub invariant-loop-part : goal.invariant-loop-part
invariant-loop-part l =
    map cell l.registers ++ cells_of (map (λ p. p.kind) l.rest) ≡ cells_of (map (λ p. p.kind) l.parts)

abbrev pub decreases-loop-part : goal.decreases-loop-part
decreases-loop-part l = length l.rest
