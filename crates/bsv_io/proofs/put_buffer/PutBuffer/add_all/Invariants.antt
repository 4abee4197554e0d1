use Rattle.std.proofs.Common.{◌≡◌, ◌≤◌, ◌++◌, take}
use Rattle.bsv_io.specs.Writing.{appended, joined, AppendsPrefix}
use Rattle.bsv_io.proofs.put_buffer.PutBuffer.add_all.Given as goal

-- the pieces so far are added
abbrev pub invariant-loop-piece : goal.invariant-loop-piece
invariant-loop-piece g l =
    let said = l.fn.self ++ joined (take l.piece-index l.pieces) in
    let writing = g.S.Sink.writing in
    record {
      ok : appended l.self (writing l.sink) ≡ appended said (writing l.fn.sink);
      prefix : AppendsPrefix said (writing l.fn.sink) (writing l.sink);
      count : (writing l.fn.sink).faults ≤ (writing l.sink).faults;
    }
