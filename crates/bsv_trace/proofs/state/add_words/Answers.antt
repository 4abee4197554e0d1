use Rattle.std.proofs.Common.{◌+◌, drop}
use Rattle.bsv_trace.specs.Texts as texts
use Rattle.bsv_io.proofs.Adding.{going_on, going_failed, going_text}
use Rattle.bsv_trace.proofs.QueueTexts.{words_here}
use Rattle.bsv_trace.proofs.state.add_words.Goals as goal

pub returns-in_err-add_word : goal.returns-in_err-add_word
returns-in_err-add_word g c =
    let words = c.args.queue.now.items in
    let number = c.loop-number.number in
    going_failed (texts.words_from (number + 1) (drop (number + 1) words)) c.from_residual.result c.from_residual.ensures.0
    (going_text (words_here words number c.item.result c.item.ensures) c.loop-number.invariant) c.in_err-add_word.ensures

pub loop-number-preserved : goal.loop-number-preserved
loop-number-preserved g c =
    let words = c.args.queue.now.items in
    let number = c.loop-number.number in
    going_on (texts.words_from (number + 1) (drop (number + 1) words))
    (going_text (words_here words number c.item.result c.item.ensures) c.loop-number.invariant) c.in_ok-add_word.ensures
