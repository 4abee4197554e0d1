use Rattle.std.proofs.Common.{List, ap}
use Rattle.bsv_io.proofs.Sequences.{prefix_flushing}
use Rattle.bsv_design.specs.declared.element.Element.{Element}
use Rattle.bsv_trace.specs.Texts as texts
use Rattle.bsv_io.proofs.Adding.{adds_text}
use Rattle.bsv_trace.proofs.order.write_schedule.Goals as goal

pub returns-clause-prefix : goal.returns-clause-prefix
returns-clause-prefix g c =
    let added = adds_text (ap (λ (l : List Element). texts.schedule_text (texts.name_at l) c.args.schedule.now) c.as_slice.ensures) c.in_ok-add_schedule.ensures in
    prefix_flushing _ _ _ _ _ _ c.new-buffer.ensures added.prefix added.ok c.flush.ensures.prefix
