-- The report of a trace that can be read no further, of as many bytes as a trace may have.
use Rattle.std.specs.Prelude.{ℕ, List, Option}
use Rattle.bsv_design.specs.declared.schedule.Schedule.{Schedule}
use Rattle.bsv_io.specs.Reading.{Current}
use Rattle.bsv_io.specs.Writing.{Writing}
use Rattle.bsv_clock.specs.Subjects.{Subject}
use Rattle.bsv_run.specs.Interrupted as interrupted
use Rattle.bsv_top.specs.Traces.{trace_limit}

-- the lines that were given whole were run; where no file is current, nothing was put
abbrev pub IsInterrupted : Subject → Schedule → Writing → List ℕ → Option Current → Writing → Type 0
IsInterrupted s made start trace at w = interrupted.IsInterrupted trace_limit s made start trace at w
