use Rattle.bsv_trace.proofs.Clearing.{word_cleared}
use Rattle.bsv_trace.proofs.lines.clear_words.Goals as goal

pub loop-place-preserved : goal.loop-place-preserved
loop-place-preserved c =
    word_cleared c.args.ports.now c.args.words.now c.loop-place.words c.set.new.self c.loop-place.place c.index-ports-place.result c.zero.result
    c.requires.places c.loop-place-test.true c.index-ports-place.is c.loop-place.invariant c.zero.ensures c.set.ensures
