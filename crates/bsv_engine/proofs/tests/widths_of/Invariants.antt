use Rattle.std.proofs.Common.{◌≡◌, take}
use Rattle.bsv_net.specs.Nets.{register_widths}
use Rattle.bsv_engine.proofs.tests.widths_of.Given as goal

abbrev pub invariant-loop-register : goal.invariant-loop-register
invariant-loop-register l = l.widths ≡ register_widths (take l.register-index l.registers)
