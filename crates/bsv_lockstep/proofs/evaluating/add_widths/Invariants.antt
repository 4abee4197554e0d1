use Rattle.std.proofs.Common.{◌≡◌, ◌++◌, take}
use Rattle.bsv_net.specs.Nets.{register_widths}
use Rattle.bsv_lockstep.proofs.evaluating.add_widths.Given as goal

abbrev pub invariant-loop-register : goal.invariant-loop-register
invariant-loop-register l = l.widths ≡ l.initial.widths ++ register_widths (take l.register-index l.registers)
