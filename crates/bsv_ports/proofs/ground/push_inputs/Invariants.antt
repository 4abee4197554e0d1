use Rattle.std.proofs.Common.{◌≡◌, ◌++◌, map, take}
use Rattle.bsv_ports.proofs.ground.push_inputs.Given as goal

abbrev pub invariant-loop-port : goal.invariant-loop-port
invariant-loop-port l = l.widths ≡ l.initial.widths ++ map (λ p. p.width) (take l.port-index l.ports)
