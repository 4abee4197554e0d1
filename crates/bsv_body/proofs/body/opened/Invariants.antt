use Rattle.std.proofs.Common.{◌≡◌, ◌-◌}
use Rattle.bsv_body.specs.Opening as opening
use Rattle.bsv_body.proofs.body.opened.Given as goal

abbrev pub invariant-loop-place : goal.invariant-loop-place
invariant-loop-place l = opening.opened l.arguments ≡ opening.arguments_from l.place (l.arguments - l.place) l.state
