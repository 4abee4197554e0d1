use Rattle.std.proofs.Common.{◌+◌, ◌<◌, drop, length, arith}
use Rattle.bsv_trace.specs.Texts as texts
use Rattle.bsv_io.proofs.Adding.{going_on, going_start, going_done, going_failed, going_text}
use Rattle.bsv_trace.proofs.QueueTexts.{words_there, no_words}
use Rattle.bsv_trace.proofs.registers.add_items.Goals as goal

pub loop-number-init : goal.loop-number-init
loop-number-init g c = λ q shown is. going_start (texts.words_from 0 q.items) c.args.buffer.now (g.S.Sink.writing c.args.sink.now)

pub returns-in_err-add_word : goal.returns-in_err-add_word
returns-in_err-add_word g c = λ q shown is.
    let number = c.loop-number.number in
    let within : number < length q.items = omega (arith, is) in
    going_failed (texts.words_from (number + 1) (drop (number + 1) q.items)) c.from_residual.result c.from_residual.ensures.0
    (going_text (words_there q.items number c.item.result within (c.item.ensures _ shown within)) (c.loop-number.invariant q shown is)) c.in_err-add_word.ensures

pub loop-number-preserved : goal.loop-number-preserved
loop-number-preserved g c = λ q shown is.
    let number = c.loop-number.number in
    let within : number < length q.items = omega (arith, is) in
    going_on (texts.words_from (number + 1) (drop (number + 1) q.items))
    (going_text (words_there q.items number c.item.result within (c.item.ensures _ shown within)) (c.loop-number.invariant q shown is)) c.in_ok-add_word.ensures

pub returns : goal.returns
returns g c = λ q shown is.
    going_done _ (no_words q.items c.loop-number.number (omega (arith, is))) (c.loop-number.invariant q shown is)
