use Rattle.std.proofs.Common.{◌≡◌, length}
use Rattle.std.specs.List.{list_all}
use Rattle.bsv_design.specs.design.Widths.{condition_fits}
use Rattle.bsv_widths.proofs.elements.conditions_fit.Given as goal

abbrev pub decreases-loop-condition : goal.decreases-loop-condition
decreases-loop-condition l = length l.rest

abbrev pub invariant-loop-condition : goal.invariant-loop-condition
invariant-loop-condition l = list_all (condition_fits l.widths) l.rest ≡ list_all (condition_fits l.widths) l.conditions
