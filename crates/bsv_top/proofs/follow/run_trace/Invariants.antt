use Rattle.std.proofs.Common.{◌≡◌, ◌≤◌, ◌<◌, ℕ, ◌+◌, List, [], ◌++◌, length, Some, IsSome}
use Rattle.bsv_io.specs.Reading.{bytes_given, current_name, rest}
use Rattle.bsv_io.specs.Writing.{Writing}
use Rattle.bsv_run.specs.Gathered.{bytes_read, limit_of}
use Rattle.bsv_run.specs.Running.{FitsRun}
use Rattle.bsv_top.specs.Running.{HasRun}
use Rattle.bsv_top.specs.Traces.{trace_limit}
use Rattle.bsv_top.proofs.follow.run_trace.Given as goal

-- so many bytes were read, and were run
abbrev pub invariant-loop-turn : goal.invariant-loop-turn
invariant-loop-turn g l =
    let reading = g.F.Files.reading in
    record {
      read : (read : List ℕ) × (bytes_given (reading l.files) ≡ bytes_given (reading l.fn.files) + length read)
          × ((trace : List ℕ) → rest (reading l.fn.files) ≡ Some trace → (left : List ℕ) × (rest (reading l.files) ≡ Some left) × (trace ≡ read ++ left))
          × ((start : Writing) → HasRun l.scheduled start [] l.fn.run (g.O.Sink.writing l.fn.out) → HasRun l.scheduled start read l.run (g.O.Sink.writing l.out));
      fits : FitsRun l.scheduled.design l.scheduled.schedule l.run;
      turns : l._turn ≤ bytes_read l.run.lines;
      limit : limit_of l.run.lines ≡ trace_limit;
      within : bytes_read l.run.lines ≤ limit_of l.run.lines;
      room : 0 < length l.buffer;
      contents : (reading l.files).contents ≡ (reading l.fn.files).contents;
      faults : (reading l.files).faults ≡ (reading l.fn.files).faults;
      name : current_name (reading l.files) ≡ current_name (reading l.fn.files);
      current : IsSome (reading l.files).current;
      put : (g.O.Sink.writing l.out).faults ≡ (g.O.Sink.writing l.fn.out).faults;
    }
