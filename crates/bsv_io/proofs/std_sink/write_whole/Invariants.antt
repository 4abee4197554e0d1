use Rattle.bsv_io.proofs.Written.{Written}
use Rattle.bsv_io.proofs.std_sink.write_whole.Given as goal

abbrev pub invariant-loop-turn : goal.invariant-loop-turn
invariant-loop-turn g l = Written l.bytes l.rest (g.W.Write.contents l.initial.writer) (g.W.Write.contents l.writer)
