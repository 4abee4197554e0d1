use Rattle.std.proofs.Common.{◌≡◌, map, take}
use Rattle.bsv_typing.specs.Typing.{operator}
use Rattle.bsv_typing.proofs.forms.operators.Given as goal

abbrev pub invariant-loop-sign : goal.invariant-loop-sign
invariant-loop-sign l = l.found ≡ map operator (take l.sign-index l.signs)
