use Rattle.std.proofs.Common.{◌≡◌, take}
use Rattle.bsv_fire.specs.Bodies.{sites}
use Rattle.bsv_fire.proofs.body.sites.Given as goal

abbrev pub invariant-loop-call : goal.invariant-loop-call
invariant-loop-call l = l.found ≡ sites l.places (take l.call-index l.calls)
