use Rattle.std.proofs.Common.{◌≡◌, take}
use Rattle.bsv_io.specs.Writing.{joined}
use Rattle.bsv_top.proofs.made.join.Given as goal

-- the pieces so far
abbrev pub invariant-loop-piece : goal.invariant-loop-piece
invariant-loop-piece l = l.text.items ≡ joined (take l.piece-index l.pieces)
