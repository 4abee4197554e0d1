use Rattle.std.proofs.Common.{◌≡◌, ◌+◌, length}
use Rattle.bsv_lex.specs.Reading.{close_from}
use Rattle.bsv_lex.proofs.piece.close_of.Given as goal

abbrev pub invariant-loop-left : goal.invariant-loop-left
invariant-loop-left l = (l.at + length l.left ≡ length l.bytes) × (close_from 0 l.bytes ≡ close_from l.at l.left)

abbrev pub decreases-loop-left : goal.decreases-loop-left
decreases-loop-left l = length l.left
