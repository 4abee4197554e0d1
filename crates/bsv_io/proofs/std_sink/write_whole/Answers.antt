use Rattle.std.proofs.lemmas.List.{take_rest}
use Rattle.bsv_io.proofs.Written.{Written_more, Written_same}
use Rattle.bsv_io.proofs.std_sink.write_whole.Goals as goal
use Rattle.bsv_io.proofs.std_sink.write_whole.Goals.{in-Ok, in-Err+else-ne}

pub loop-turn-preserved : goal.loop-turn-preserved
loop-turn-preserved g c = elim c.match-write.branch [
  | in-Ok w ↦ Written_more w.in-Ok.count _ _ _ _ _ _ (rw w.rest-is (take_rest c.loop-turn.rest.now w.in-Ok.count)) c.loop-turn.invariant w.in-Ok.ensures.bytes
  | in-Err+else-ne w ↦ rw w.rest-is (Written_same _ _ _ _ _ c.loop-turn.invariant w.in-Err.ensures.bytes)
]
