use Rattle.std.proofs.Common.{◌≡◌, drop}
use Rattle.bsv_typing.specs.Forms.{field_from}
use Rattle.bsv_typing.proofs.front.field_from.Given as goal

abbrev pub invariant-loop-number : goal.invariant-loop-number
invariant-loop-number l = field_from l.number l.name (drop l.number l.fields) ≡ field_from 0 l.name l.fields
