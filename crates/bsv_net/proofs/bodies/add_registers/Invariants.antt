use Rattle.std.proofs.Common.{◌≡◌, ◌++◌, map, take}
use Rattle.bsv_net.specs.Nets.{port, register_widths}
use Rattle.bsv_net.proofs.bodies.add_registers.Given as goal

abbrev pub invariant-loop-register : goal.invariant-loop-register
invariant-loop-register l =
    l.found ≡ l.initial.found ++ map port (register_widths (take l.register-index l.registers))
