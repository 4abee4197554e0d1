-- Each call has less fuel than the one that makes it.
use Rattle.bsv_trees.proofs.modules.+show_modules.Given as goal

abbrev pub decreases-show_module_stmts : goal.decreases-show_module_stmts
decreases-show_module_stmts l = l.fuel

abbrev pub decreases-show_module_stmt : goal.decreases-show_module_stmt
decreases-show_module_stmt l = l.fuel

abbrev pub decreases-show_module_if : goal.decreases-show_module_if
decreases-show_module_if l = l.fuel
