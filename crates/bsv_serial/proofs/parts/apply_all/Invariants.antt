use Rattle.std.proofs.Common.{◌≡◌, ◌++◌, take, drop}
use Rattle.bsv_serial.specs.Applying.{AllCanTake, all_after}
use Rattle.bsv_serial.specs.AtHand.{kinds}
use Rattle.bsv_serial.proofs.parts.apply_all.Given as goal

abbrev pub invariant-loop-at : goal.invariant-loop-at
invariant-loop-at l = record {
  can : AllCanTake (drop l.at (kinds l.parts)) (drop l.at l.state) (drop l.at l.calls_made);
  ends : take l.at l.state ++ all_after (drop l.at (kinds l.parts)) (drop l.at l.state) (drop l.at l.calls_made)
      ≡ all_after (kinds l.parts) l.initial.state l.calls_made;
}
