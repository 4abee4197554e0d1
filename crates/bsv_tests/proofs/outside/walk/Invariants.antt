use Rattle.std.proofs.Common.{IsSome}
use Rattle.bsv_tests.proofs.outside.walk.Given as goal

abbrev pub invariant-loop-turn : goal.invariant-loop-turn
invariant-loop-turn g l = IsSome (g.F.Files.reading l.files).current
