use Rattle.std.proofs.Common.{◌≡◌, length}
use Rattle.bsv_share.proofs.moves.destinations.Given as goal

abbrev pub invariant-loop : goal.invariant-loop
invariant-loop l = length l.to ≡ l.counter

abbrev pub invariant-loop-node : goal.invariant-loop-node
invariant-loop-node l = length l.to ≡ l.count
