use Rattle.std.proofs.Common.{◌≡◌, length}
use Rattle.bsv_serial.specs.AtHand as hand
use Rattle.bsv_serial.specs.Decider.{CanDecideAll, all_decided, undecided}
use Rattle.bsv_serial.proofs.decider.Decider.decide_all.Given as goal

abbrev pub invariant-loop-number : goal.invariant-loop-number
invariant-loop-number l = record {
  can : CanDecideAll (hand.course l.self) (hand.so_far l.so_far) l.rest;
  decides : all_decided (hand.course l.self) (hand.so_far l.so_far) l.rest ≡ all_decided (hand.course l.self) (undecided (hand.course l.self)) l.self.schedule.now.urgency;
}

abbrev pub decreases-loop-number : goal.decreases-loop-number
decreases-loop-number l = length l.rest
