use Rattle.std.proofs.Common.{◌≡◌, ◌++◌, ◌+◌, ◌≤◌, length, map}
use Rattle.std.specs.Prelude.{vec_len, vec_capacity}
use Rattle.bsv_sim.specs.Inputs.{zero_like}
use Rattle.bsv_sim.proofs.inputs.add_zeros.Given as goal

abbrev pub invariant-loop-word : goal.invariant-loop-word
invariant-loop-word l = record {
  room : vec_len l.inputs + length l.rest ≤ vec_capacity l.inputs;
  capacity : vec_capacity l.initial.inputs ≤ vec_capacity l.inputs;
  adds : l.inputs.items ++ map zero_like l.rest ≡ l.initial.inputs.items ++ map zero_like l.words;
}

abbrev pub decreases-loop-word : goal.decreases-loop-word
decreases-loop-word l = length l.rest
