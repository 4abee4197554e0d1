use Rattle.std.proofs.Common.{◌≡◌, ℕ, ◌+◌, List, ◌++◌, length}
use Rattle.bsv_io.specs.Writing.{Writing}
use Rattle.bsv_run.specs.Running.{FitsRun, HasRun}
use Rattle.bsv_run.proofs.run.Run.run_piece.Given as goal

-- so much of the piece is gone, and was run
abbrev pub invariant-loop-ended : goal.invariant-loop-ended
invariant-loop-ended g l = record {
  gone : (gone : List ℕ) × (l.fn.piece ≡ gone ++ l.left) × ((limit : ℕ) (start : Writing) (read : List ℕ) → HasRun limit l.design l.schedule start read l.fn.self (g.O.Sink.writing l.fn.out) → HasRun limit l.design l.schedule start (read ++ gone) l.self (g.O.Sink.writing l.out));
  long : l.self.lines.at + length l.self.lines.held.items + length l.left ≡ l.fn.self.lines.at + length l.fn.self.lines.held.items + length l.fn.piece;
  fits : FitsRun l.design l.schedule l.self;
  faults : (g.O.Sink.writing l.out).faults ≡ (g.O.Sink.writing l.fn.out).faults;
  limit : l.self.lines.limit ≡ l.fn.self.lines.limit;
}

abbrev pub decreases-loop-ended : goal.decreases-loop-ended
decreases-loop-ended g l = length l.left
