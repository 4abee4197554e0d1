use Rattle.std.proofs.Common.{◌≡◌, ◌≤◌, length, Some}
use Rattle.bsv_types.specs.Shapes.{plus, widths_by}
use Rattle.bsv_types.specs.Widths.{field_kinds}
use Rattle.bsv_types.proofs.widths.counted_widths.Given as goal

abbrev pub decreases-loop-field : goal.decreases-loop-field
decreases-loop-field l = length l.rest

abbrev pub invariant-loop-field : goal.invariant-loop-field
invariant-loop-field l = record {
  sum : plus (Some l.width) (widths_by l.enums l.structs (field_kinds l.rest)) ≡ widths_by l.enums l.structs (field_kinds l.fields);
  few : l.width ≤ 4294967295;
}
