use Rattle.std.proofs.Common.{◌≡◌, ◌≤◌, ℕ, ◌+◌, List, ◌++◌, length, vec_len, Some, IsSome}
use Rattle.bsv_io.specs.Reading.{bytes_given, current_name, rest}
use Rattle.bsv_suite.proofs.list.read_line.Given as goal

-- what was held and what was left are what is held and what is left
abbrev pub invariant-loop-turn : goal.invariant-loop-turn
invariant-loop-turn g l =
    let reading = g.F.Files.reading in
    record {
      moved : (left : List ℕ) → rest (reading l.fn.files) ≡ Some left → (after : List ℕ) × (rest (reading l.files) ≡ Some after) × (l.fn.held.items ++ left ≡ l.held.items ++ after);
      turns : l._turn ≤ vec_len l.held;
      few : l._turn ≤ 258;
      given : bytes_given (reading l.files) + vec_len l.fn.held ≡ bytes_given (reading l.fn.files) + vec_len l.held;
      within : bytes_given (reading l.files) ≤ bytes_given (reading l.fn.files) + (257 + length l.fn.buffer);
      room : length l.buffer ≡ length l.fn.buffer;
      contents : (reading l.files).contents ≡ (reading l.fn.files).contents;
      faults : (reading l.files).faults ≡ (reading l.fn.files).faults;
      name : current_name (reading l.files) ≡ current_name (reading l.fn.files);
      current : IsSome (reading l.files).current;
    }
