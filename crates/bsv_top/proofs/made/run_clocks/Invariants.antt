use Rattle.std.proofs.Common.{◌≡◌}
use Rattle.bsv_design.specs.scheme.Seen.{asking}
use Rattle.bsv_design.specs.scheme.States.{nothing_asked}
use Rattle.bsv_top.specs.MadeRuns.{HasFired}
use Rattle.bsv_run.specs.Running.{FitsRun}
use Rattle.bsv_top.proofs.made.run_clocks.Given as goal

-- so many clocks were run
abbrev pub invariant-loop-clock : goal.invariant-loop-clock
invariant-loop-clock l = record {
  fired : HasFired l.scheduled l._clock l.count l.run;
  fits : FitsRun l.scheduled.design l.scheduled.schedule l.run;
  nothing : asking l.run.requests ≡ nothing_asked l.scheduled.design.elements;
}
