use Rattle.std.proofs.Common.{◌≡◌, length}
use Rattle.bsv_types.specs.Names.{lower_names}
use Rattle.bsv_types.specs.Modules.{param_names}
use Rattle.bsv_modules.specs.Seen.{seen_names}
use Rattle.bsv_modules.proofs.Distinct.{are_new_lower}
use Rattle.bsv_modules.proofs.named.params_named.Given as goal

abbrev pub decreases-loop-param : goal.decreases-loop-param
decreases-loop-param l = length l.rest

abbrev pub invariant-loop-param : goal.invariant-loop-param
invariant-loop-param l = are_new_lower (seen_names l.names) (param_names l.rest) ≡ lower_names (param_names l.params)
