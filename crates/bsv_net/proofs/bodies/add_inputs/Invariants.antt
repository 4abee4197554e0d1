use Rattle.std.proofs.Common.{◌≡◌, ◌++◌, map, take}
use Rattle.bsv_net.specs.Nets.{port}
use Rattle.bsv_net.proofs.bodies.add_inputs.Given as goal

abbrev pub invariant-loop-width : goal.invariant-loop-width
invariant-loop-width l = l.found ≡ l.initial.found ++ map port (take l.width-index l.inputs)
