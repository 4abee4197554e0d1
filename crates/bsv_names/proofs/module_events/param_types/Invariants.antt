use Rattle.std.proofs.Common.{◌≡◌, ◌++◌, length}
use Rattle.bsv_names.specs.ModuleEvents as spec
use Rattle.bsv_names.proofs.module_events.param_types.Given as goal

abbrev pub decreases-loop-param : goal.decreases-loop-param
decreases-loop-param l = length l.rest

abbrev pub invariant-loop-param : goal.invariant-loop-param
invariant-loop-param l = l.found ++ spec.param_types l.rest ≡ l.fn.found ++ spec.param_types l.params
