use Rattle.std.proofs.Common.{◌+◌, ◌*◌}
use Rattle.bsv_vcd.proofs.values.+values.Given as goal

abbrev pub decreases-add_value : goal.decreases-add_value
decreases-add_value l = 3 * l.depth

abbrev pub decreases-add_struct : goal.decreases-add_struct
decreases-add_struct l = 3 * l.depth + 2

abbrev pub decreases-add_fields : goal.decreases-add_fields
decreases-add_fields l = 3 * l.depth + 1

abbrev pub decreases-add_maybe : goal.decreases-add_maybe
decreases-add_maybe l = 3 * l.depth + 1
