use Rattle.std.proofs.Common.{◌≡◌, ◌<◌, ℕ, List, take, vec_len, Some}
use Rattle.bsv_io.specs.Reading.{bytes_given}
use Rattle.bsv_suite.specs.Reading.{AreRead, trace_read_limit}
use Rattle.bsv_suite.proofs.suite.read_group.Given as goal

-- the first traces were read
abbrev pub invariant-loop-name : goal.invariant-loop-name
invariant-loop-name g l =
    let reading = g.F.Files.reading in
    record {
      read : (contents : List ℕ → List ℕ) → (reading l.fn.files).contents ≡ Some contents → AreRead contents (take l.name-index l.names) l.traces.items;
      long : vec_len l.traces ≡ l.name-index;
      within : trace_read_limit < bytes_given (reading l.files) → (reading l.files).current ≡ (reading l.fn.files).current;
      contents : (reading l.files).contents ≡ (reading l.fn.files).contents;
      faults : (reading l.files).faults ≡ (reading l.fn.files).faults;
    }
