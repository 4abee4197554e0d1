use Rattle.std.proofs.Common.{◌≡◌, map, take}
use Rattle.bsv_types.specs.declared.operators.Op.TheVariants as op
use Rattle.bsv_typing.proofs.forms.sets.Given as goal

abbrev pub invariant-loop-field : goal.invariant-loop-field
invariant-loop-field l = l.found ≡ map op.Set (take l.field-index l.fields)
