use Rattle.std.proofs.Common.{◌≡◌, length}
use Rattle.bsv_sim.specs.AtHand.{signals}
use Rattle.bsv_sim.specs.Stoppers.{all_noted}
use Rattle.bsv_sim.proofs.signals.ElementSignals.find_stoppers.Given as goal

abbrev pub invariant-loop-number : goal.invariant-loop-number
invariant-loop-number l =
    all_noted (signals l.self) l.stops l.stoppers l.rest ≡ all_noted (signals l.self) l.stops l.initial.stoppers l.urgency

abbrev pub decreases-loop-number : goal.decreases-loop-number
decreases-loop-number l = length l.rest
