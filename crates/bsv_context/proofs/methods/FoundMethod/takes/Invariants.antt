use Rattle.std.proofs.Common.{◌≡◌, length}
use Rattle.bsv_types.specs.Methods.{param_kinds}
use Rattle.bsv_types.specs.Operators.{same_kinds}
use Rattle.bsv_context.specs.Seen.{params_of}
use Rattle.bsv_context.proofs.methods.FoundMethod.takes.Given as goal

abbrev pub decreases-loop-param : goal.decreases-loop-param
decreases-loop-param l = length l.given

abbrev pub invariant-loop-param : goal.invariant-loop-param
invariant-loop-param l = same_kinds (param_kinds l.given) (params_of l.wanted) ≡ same_kinds (param_kinds l.params) (params_of l.self.params)
