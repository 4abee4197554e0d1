use Rattle.std.proofs.Common.{◌≡◌, ◌≤◌, ◌*◌, ℕ, ◌+◌, List, length, vec_len, Some, IsSome}
use Rattle.bsv_io.specs.Reading.{bytes_given, current_name, rest}
use Rattle.bsv_suite.proofs.Naming.{Taken}
use Rattle.bsv_suite.proofs.list.read_names.Given as goal

-- so many lines were taken
abbrev pub invariant-loop-before : goal.invariant-loop-before
invariant-loop-before g l =
    let reading = g.F.Files.reading in
    record {
      taken : (list : List ℕ) → rest (reading l.fn.files) ≡ Some list → (left : List ℕ) × (rest (reading l.files) ≡ Some left) × Taken list l.held.items left l.names.items;
      long : vec_len l.names ≡ l.before;
      few : l.before ≤ 256;
      given : bytes_given (reading l.files) ≤ bytes_given (reading l.fn.files) + 1281 * l.before;
      room : length l.buffer ≡ length l.fn.buffer;
      contents : (reading l.files).contents ≡ (reading l.fn.files).contents;
      faults : (reading l.files).faults ≡ (reading l.fn.files).faults;
      name : current_name (reading l.files) ≡ current_name (reading l.fn.files);
      current : IsSome (reading l.files).current;
    }
