use Rattle.std.proofs.Common.{◌≡◌, ◌≤◌, ◌<◌, ℕ, ◌+◌, List, ◌++◌, length, vec_len, Some, IsSome}
use Rattle.bsv_io.specs.Reading.{bytes_given, current_name, rest}
use Rattle.bsv_io.proofs.reading.read_current.Given as goal

-- what was read and what is left make the text
abbrev pub invariant-loop-turn : goal.invariant-loop-turn
invariant-loop-turn g l =
    let reading = g.F.Files.reading in
    record {
      text : (text : List ℕ) → rest (reading l.fn.files) ≡ Some text → (left : List ℕ) × (rest (reading l.files) ≡ Some left) × (text ≡ l.bytes.items ++ left);
      turns : l._turn ≤ vec_len l.bytes;
      given : bytes_given (reading l.files) ≡ bytes_given (reading l.fn.files) + vec_len l.bytes;
      short : vec_len l.bytes < l.fn.limit;
      room : 0 < length l.buffer;
      contents : (reading l.files).contents ≡ (reading l.fn.files).contents;
      faults : (reading l.files).faults ≡ (reading l.fn.files).faults;
      name : current_name (reading l.files) ≡ current_name (reading l.fn.files);
      current : IsSome (reading l.files).current;
    }
