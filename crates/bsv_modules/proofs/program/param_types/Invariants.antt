use Rattle.std.proofs.Common.{◌≡◌, ◌++◌, length}
use Rattle.bsv_types.specs.Methods.{param_kinds}
use Rattle.bsv_modules.specs.Seen.{kinds}
use Rattle.bsv_modules.proofs.program.param_types.Given as goal

abbrev pub decreases-loop-param : goal.decreases-loop-param
decreases-loop-param l = length l.rest

abbrev pub invariant-loop-param : goal.invariant-loop-param
invariant-loop-param l = kinds l.found ++ param_kinds l.rest ≡ param_kinds l.params
