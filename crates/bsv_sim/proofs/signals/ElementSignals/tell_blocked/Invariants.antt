use Rattle.std.proofs.Common.{◌≡◌, ◌≤◌}
use Rattle.std.specs.Prelude.{filter, vec_len, vec_capacity}
use Rattle.bsv_graph.specs.Edges.{numbers_below}
use Rattle.bsv_sim.specs.AtHand.{signals}
use Rattle.bsv_sim.specs.Signals.{is_blocked}
use Rattle.bsv_sim.proofs.signals.ElementSignals.tell_blocked.Given as goal

abbrev pub invariant-loop-number : goal.invariant-loop-number
invariant-loop-number l = record {
  room : vec_len l.blocked ≤ l.number;
  capacity : vec_capacity l.initial.blocked ≤ vec_capacity l.blocked;
  tells : l.blocked.items ≡ filter (λ n. is_blocked (signals l.self) l.asked n) (numbers_below l.number);
}
