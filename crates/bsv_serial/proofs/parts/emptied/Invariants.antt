use Rattle.std.proofs.Common.{◌≡◌, ◌++◌, length}
use Rattle.bsv_design.specs.scheme.States.{FitsKinds, emptied}
use Rattle.bsv_serial.specs.AtHand.{kinds}
use Rattle.bsv_serial.proofs.parts.emptied.Given as goal

abbrev pub invariant-loop-named : goal.invariant-loop-named
invariant-loop-named l = record {
  fit : FitsKinds (kinds l.rest) l.left;
  found : l.found.items ++ emptied (kinds l.rest) l.left ≡ emptied (kinds l.parts) l.state;
}

abbrev pub decreases-loop-named : goal.decreases-loop-named
decreases-loop-named l = length l.left
