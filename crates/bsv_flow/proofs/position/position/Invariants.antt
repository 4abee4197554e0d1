use Rattle.std.proofs.Common.{◌≡◌, ◌≤◌, ◌+◌, length, take, filter}
use Rattle.bsv_flow.specs.Positions.{is_line_feed, last_line}
use Rattle.bsv_flow.proofs.position.position.Given as goal

abbrev pub invariant-loop-byte : goal.invariant-loop-byte
invariant-loop-byte l =
    record {
      lines : l.line ≡ length (filter is_line_feed (take l.byte-index l.front)) + 1;
      columns : l.column ≡ length (last_line (take l.byte-index l.front)) + 1;
      line : l.line ≤ l.byte-index + 1;
      column : l.column ≤ l.byte-index + 1;
    }
