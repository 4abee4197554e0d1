-- How far the lines of a trace were gathered, in the words that contracts use.
use Rattle.std.specs.Prelude.{ℕ, ◌+◌, List, length}
use Rattle.bsv_run.specs.declared.lines.Lines.{Lines}

-- so many lines ended
abbrev pub lines_ended : Lines → ℕ
lines_ended l = l.done

-- so many bytes come before the line that was begun
abbrev pub bytes_before : Lines → ℕ
bytes_before l = l.at

-- and this was read of it
abbrev pub held_of : Lines → List ℕ
held_of l = l.held.items

-- so many bytes were read
abbrev pub bytes_read : Lines → ℕ
bytes_read l = l.at + length l.held.items

-- the trace may have so many bytes
abbrev pub limit_of : Lines → ℕ
limit_of l = l.limit
