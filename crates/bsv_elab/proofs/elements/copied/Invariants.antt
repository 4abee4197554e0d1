use Rattle.std.proofs.Common.{◌≡◌, take}
use Rattle.bsv_elab.proofs.elements.copied.Given as goal

abbrev pub invariant-loop-binding : goal.invariant-loop-binding
invariant-loop-binding l = l.found ≡ take l.binding-index l.bindings
