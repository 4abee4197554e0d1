use Rattle.std.proofs.Common.{◌≡◌, take}
use Rattle.bsv_design.specs.scheme.States as states
use Rattle.bsv_design.proofs.requests.zeros.Given as goal

abbrev pub invariant-loop-port : goal.invariant-loop-port
invariant-loop-port l = l.words ≡ states.zeros (take l.port-index l.ports)
