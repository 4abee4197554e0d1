use Rattle.std.proofs.Common.{◌≡◌, [], length}
use Rattle.bsv_net.specs.declared.node.NetNode.TheVariants as net
use Rattle.bsv_engine.specs.Runs.{Stand, Loads}
use Rattle.bsv_engine.proofs.step.inputs.Given as goal

-- the places are those of the nodes so far
abbrev pub invariant-loop-place : goal.invariant-loop-place
invariant-loop-place l = record {
  stand : Stand Loads net.Input [] l.own l.nodes l.places;
  count : length l.places ≡ l.place;
}
