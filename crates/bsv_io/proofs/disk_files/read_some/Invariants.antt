use Rattle.std.specs.Io.KnownBytes.{Keeps}
use Rattle.bsv_io.proofs.disk_files.read_some.Given as goal

abbrev pub invariant-loop-turn : goal.invariant-loop-turn
invariant-loop-turn g l = Keeps (g.F.Read.remaining l.initial.file) (g.F.Read.remaining l.file)
