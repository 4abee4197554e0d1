use Rattle.bsv_waves.specs.Running.{FitsRun}
use Rattle.bsv_waves.proofs.recorder.Recorder.run_piece.Given as goal

abbrev pub invariant-loop-line : goal.invariant-loop-line
invariant-loop-line g l = FitsRun l.self.run
