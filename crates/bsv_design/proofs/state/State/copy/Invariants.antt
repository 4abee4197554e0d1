use Rattle.std.proofs.Common.{◌≡◌, take}
use Rattle.bsv_design.proofs.state.State.copy.Given as goal

abbrev pub invariant-loop-part : goal.invariant-loop-part
invariant-loop-part l = l.parts.items ≡ take l.part-index l.self.parts.items
