use Rattle.std.proofs.Common.{◌≡◌, ◌++◌, length, map}
use Rattle.bsv_inline.specs.Placed.{placed_call}
use Rattle.bsv_inline.proofs.placer.Placer.calls.Given as goal

abbrev pub decreases-loop-call : goal.decreases-loop-call
decreases-loop-call l = length l.rest

abbrev pub invariant-loop-call : goal.invariant-loop-call
invariant-loop-call l = map (placed_call l.self.instances.now) l.calls ≡ l.own ++ map (placed_call l.self.instances.now) l.rest
