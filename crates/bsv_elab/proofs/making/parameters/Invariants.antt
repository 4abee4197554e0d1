use Rattle.std.proofs.Common.{◌≡◌, ◌++◌, drop}
use Rattle.bsv_elab.specs.Making as spec
use Rattle.bsv_elab.proofs.making.parameters.Given as goal

abbrev pub invariant-loop-param : goal.invariant-loop-param
invariant-loop-param l = spec.parameters l.params l.arguments ≡ l.found ++ spec.parameters (drop l.param-index l.params) l.rest
