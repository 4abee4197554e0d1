use Rattle.std.proofs.Common.{◌≡◌, length}
use Rattle.bsv_names.specs.Untyped.{with_params}
use Rattle.bsv_names.specs.UntypedSeen.{variables}
use Rattle.bsv_names.proofs.untyped.Variables.declare_params.Given as goal

abbrev pub decreases-loop-param : goal.decreases-loop-param
decreases-loop-param l = length l.rest

abbrev pub invariant-loop-param : goal.invariant-loop-param
invariant-loop-param l = with_params l.typed l.rest (variables l.self) ≡ with_params l.typed l.params (variables l.fn.self)
