use Rattle.std.proofs.Common.{◌≡◌, map, take}
use Rattle.bsv_fire.specs.FireBuilder.{no_ports}
use Rattle.bsv_fire.proofs.net_so_far.no_ports.Given as goal

abbrev pub invariant-loop-part : goal.invariant-loop-part
invariant-loop-part l = l.ports.items ≡ no_ports (map (λ p. p.kind) (take l.part-index l.parts))
