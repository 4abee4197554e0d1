use Rattle.std.proofs.Common.{◌≡◌, ◌++◌, ◌+◌, ◌≤◌, length, map}
use Rattle.std.specs.Prelude.{IsTrue, vec_len, vec_capacity}
use Rattle.bsv_design.specs.design.Bodies.{at}
use Rattle.bsv_sim.specs.AtHand.{all_below}
use Rattle.bsv_engine.specs.Engines.{code_of, words_of}
use Rattle.bsv_sim.proofs.registers.take_over.Given as goal

abbrev pub invariant-loop-node : goal.invariant-loop-node
invariant-loop-node l = record {
  below : IsTrue (all_below (length (code_of l.engine).nodes) l.rest);
  room : vec_len l.registers + length l.rest ≤ vec_capacity l.registers;
  words : l.registers.items ++ map (at (words_of l.engine)) l.rest ≡ map (at (words_of l.engine)) l.nexts;
}

abbrev pub decreases-loop-node : goal.decreases-loop-node
decreases-loop-node l = length l.rest
