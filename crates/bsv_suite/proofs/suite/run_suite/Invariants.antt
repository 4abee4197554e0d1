use Rattle.std.proofs.Common.{◌≡◌, ◌<◌, ◌≤◌, ◌+◌, ◌++◌, ℕ, List, length, Some}
use Rattle.bsv_clock.specs.Subjects.{design_subject}
use Rattle.bsv_io.specs.Reading.{bytes_given}
use Rattle.bsv_suite.specs.Reading.{trace_read_limit}
use Rattle.bsv_suite.proofs.Suited.{Along}
use Rattle.bsv_suite.proofs.suite.run_suite.Given as goal

abbrev pub decreases-loop-left : goal.decreases-loop-left
decreases-loop-left g l = length l.left

-- the first groups were put
abbrev pub invariant-loop-left : goal.invariant-loop-left
invariant-loop-left g l =
    let reading = g.F.Files.reading in
    record {
      along : (contents : List ℕ → List ℕ) → (reading l.fn.files).contents ≡ Some contents
          → Along (design_subject l.design) l.schedule contents l.names l.left (g.O.Sink.writing l.fn.out) (g.O.Sink.writing l.out) l.bad;
      names : (front : List (List ℕ)) × (l.names ≡ front ++ l.left);
      few : l.bad + length l.left ≤ length l.names;
      within : trace_read_limit < bytes_given (reading l.files) → (reading l.files).current ≡ (reading l.fn.files).current;
      contents : (reading l.files).contents ≡ (reading l.fn.files).contents;
      faults : (reading l.files).faults ≡ (reading l.fn.files).faults;
      put : (g.O.Sink.writing l.out).faults ≡ (g.O.Sink.writing l.fn.out).faults;
    }
