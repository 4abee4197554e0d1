use Rattle.std.proofs.Common.{◌∙◌}
use Rattle.bsv_body.proofs.Joins.{order_more}
use Rattle.bsv_body.proofs.choices.in_text_order.Goals as goal

pub loop-part-preserved : goal.loop-part-preserved
loop-part-preserved c =
    c.loop-part.invariant ∙ order_more c.loop-part.parts c.pop.new.self c.in-Some.part c.loop-part.asked c.add.new.asked c.in-Some.ensures c.in_ok-add.ensures
