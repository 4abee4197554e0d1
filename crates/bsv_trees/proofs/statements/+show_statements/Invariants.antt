-- Each call has less fuel than the one that makes it.
use Rattle.bsv_trees.proofs.statements.+show_statements.Given as goal

abbrev pub decreases-show_stmts : goal.decreases-show_stmts
decreases-show_stmts l = l.fuel

abbrev pub decreases-show_stmt : goal.decreases-show_stmt
decreases-show_stmt l = l.fuel

abbrev pub decreases-show_if : goal.decreases-show_if
decreases-show_if l = l.fuel

abbrev pub decreases-show_arms : goal.decreases-show_arms
decreases-show_arms l = l.fuel
