use Rattle.bsv_types.specs.Shapes.{widths_by}
use Rattle.bsv_types.specs.Widths.{field_kinds}
use Rattle.bsv_types.proofs.Counted.{widths_end}
use Rattle.bsv_types.proofs.widths.counted_widths.Goals as goal

pub returns : goal.returns
returns c = widths_end c.args.enums.now c.args.structs.now c.loop-field.rest.now c.loop-field.width (widths_by c.args.enums.now c.args.structs.now (field_kinds c.args.fields.now)) c.in_default.ensures.cases c.loop-field.invariant.few c.loop-field.invariant.sum
