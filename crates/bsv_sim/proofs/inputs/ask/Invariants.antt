use Rattle.std.proofs.Common.{◌≡◌, ◌++◌, ◌+◌, ◌≤◌, length}
use Rattle.std.specs.Prelude.{vec_len, vec_capacity}
use Rattle.bsv_design.specs.scheme.Seen.{asking}
use Rattle.bsv_sim.specs.Inputs.{inputs, of_methods}
use Rattle.bsv_sim.proofs.inputs.ask.Given as goal

abbrev pub invariant-loop-is_asked : goal.invariant-loop-is_asked
invariant-loop-is_asked l = record {
  room : vec_len l.inputs + length (of_methods l.asked l.args) ≤ vec_capacity l.inputs;
  capacity : vec_capacity l.initial.inputs ≤ vec_capacity l.inputs;
  adds : l.inputs.items ++ of_methods l.asked l.args ≡ inputs (asking l.requests);
}

abbrev pub decreases-loop-is_asked : goal.decreases-loop-is_asked
decreases-loop-is_asked l = length l.asked
