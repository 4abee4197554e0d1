use Rattle.std.proofs.Common.{◌<◌, length, IsSome}
use Rattle.bsv_waves.specs.Running.{FitsRun}
use Rattle.bsv_waves.proofs.follow.run_trace.Given as goal

abbrev pub invariant-loop-turn : goal.invariant-loop-turn
invariant-loop-turn g l = record {
  room : 0 < length l.buffer;
  current : IsSome (g.F.Files.reading l.files).current;
  fits : FitsRun l.recorder.run;
}
