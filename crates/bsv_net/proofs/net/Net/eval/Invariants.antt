use Rattle.std.proofs.Common.{◌≡◌, length, take}
use Rattle.bsv_net.specs.Nets.{words}
use Rattle.bsv_net.proofs.net.Net.eval.Given as goal

abbrev pub invariant-loop-place : goal.invariant-loop-place
invariant-loop-place l = record {
  long : length l.values ≡ length l.self.nodes;
  words : take l.place l.values ≡ words (take l.place l.self.nodes) l.inputs l.registers;
}
