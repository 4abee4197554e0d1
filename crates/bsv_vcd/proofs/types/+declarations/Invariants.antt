use Rattle.std.proofs.Common.{◌+◌, ◌*◌}
use Rattle.bsv_vcd.proofs.types.+declarations.Given as goal

abbrev pub decreases-in_statement : goal.decreases-in_statement
decreases-in_statement l = 2 * l.depth

abbrev pub decreases-in_statements : goal.decreases-in_statements
decreases-in_statements l = 2 * l.depth + 1

abbrev pub decreases-in_branches : goal.decreases-in_branches
decreases-in_branches l = 2 * l.depth + 1

abbrev pub decreases-in_last : goal.decreases-in_last
decreases-in_last l = 2 * l.depth + 1
