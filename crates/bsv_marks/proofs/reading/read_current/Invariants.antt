use Rattle.std.proofs.Common.{IsSome}
use Rattle.bsv_marks.proofs.reading.read_current.Given as goal

-- a file is read on
abbrev pub invariant-loop-turn : goal.invariant-loop-turn
invariant-loop-turn g l =
    IsSome (g.F.Files.reading l.files).current
