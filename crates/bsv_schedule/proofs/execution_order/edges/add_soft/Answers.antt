use Rattle.std.proofs.Common.{◌++◌, append_assoc, ◌∙◌, ap}
use Rattle.bsv_schedule.specs.relating.Relating.{is_soft}
use Rattle.bsv_schedule.specs.relating.Relations.{relating_of}
use Rattle.bsv_schedule.proofs.StageLemmas.{from_more}
use Rattle.bsv_schedule.proofs.execution_order.edges.add_soft.Goals as goal

pub loop-b-preserved : goal.loop-b-preserved
loop-b-preserved c =
    let s = is_soft (relating_of c.args.relations.now) in
    let e = from_more s c.loop-b.b c.args.a c.soft.result c.soft.ensures in
    c.in_ok-push_if.ensures ∙ rw (c.loop-b.invariant, append_assoc) (ap (λ z. c.args.edges.now ++ z) e)
