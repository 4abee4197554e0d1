-- Each call has less fuel than the one that makes it.
use Rattle.bsv_trees.proofs.expressions.+show_expressions.Given as goal

abbrev pub decreases-show_exprs : goal.decreases-show_exprs
decreases-show_exprs l = l.fuel

abbrev pub decreases-show_expr : goal.decreases-show_expr
decreases-show_expr l = l.fuel

abbrev pub decreases-show_chain : goal.decreases-show_chain
decreases-show_chain l = l.fuel

abbrev pub decreases-show_choice : goal.decreases-show_choice
decreases-show_choice l = l.fuel

abbrev pub decreases-show_fields : goal.decreases-show_fields
decreases-show_fields l = l.fuel

abbrev pub decreases-show_suffixes : goal.decreases-show_suffixes
decreases-show_suffixes l = l.fuel
