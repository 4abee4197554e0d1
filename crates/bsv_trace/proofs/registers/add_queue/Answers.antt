use Rattle.std.proofs.Common.{◌++◌, ap, codes}
use Rattle.bsv_trace.specs.Texts.{queue_text}
use Rattle.bsv_trace.specs.Texts as texts
use Rattle.bsv_trace.proofs.QueueTexts.{words_joined}
use Rattle.bsv_io.proofs.Adding.{adds_more, fails_more, adds_then, adds_text}
use Rattle.bsv_trace.proofs.registers.add_queue.Goals as goal

pub returns-in_err-add : goal.returns-in_err-add
unfolding queue_text
returns-in_err-add g c = λ q shown is.
    adds_text (ap (λ t. codes "[" ++ t ++ codes "]") (words_joined q.items)) (adds_more (codes "]") c.from_residual.result c.from_residual.ensures.0 (fails_more (texts.words_from 0 q.items) c.in_err-add.ensures))

pub returns-in_err-add_items : goal.returns-in_err-add_items
unfolding queue_text
returns-in_err-add_items g c = λ q shown is.
    adds_text (ap (λ t. codes "[" ++ t ++ codes "]") (words_joined q.items)) (adds_more (codes "]") c.from_residual-in_err-add_items.result c.from_residual-in_err-add_items.ensures.0 (adds_then c.in_ok-add.ensures (c.in_err-add_items.ensures q shown is)))

pub returns : goal.returns
unfolding queue_text
returns g c = λ q shown is.
    adds_text (ap (λ t. codes "[" ++ t ++ codes "]") (words_joined q.items)) (adds_then (adds_then c.in_ok-add.ensures (c.in_ok-add_items.ensures q shown is)) c.add-2.ensures)
