use Rattle.std.proofs.Common.{◌≡◌, ◌++◌, length, map}
use Rattle.bsv_sim.proofs.registers.starts.Given as goal

abbrev pub invariant-loop-register : goal.invariant-loop-register
invariant-loop-register l = l.words.items ++ map (λ r. r.start) l.rest ≡ map (λ r. r.start) l.registers

abbrev pub decreases-loop-register : goal.decreases-loop-register
decreases-loop-register l = length l.rest
