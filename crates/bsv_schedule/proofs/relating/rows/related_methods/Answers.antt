use Rattle.bsv_schedule.specs.relating.Related.{related_by}
use Rattle.bsv_schedule.proofs.MarkLemmas.{mark_more}
use Rattle.std.proofs.Common.{◌∷◌, [], length, arith, length-append, ap}
use Rattle.bsv_schedule.proofs.relating.rows.related_methods.Goals as goal

pub loop-method-preserved : goal.loop-method-preserved
loop-method-preserved c =
    let i = c.loop-method.invariant in
    let more = c.in_ok-push.ensures.items in
    record {
      count = omega (arith, ap length more, length-append c.loop-method.noted.items (c.related_by.result ∷ []), i.count);
      each = rw more (mark_more c.loop-method.noted.items c.related_by.result c.loop-method.method (related_by c.args.relation c.args.kind.now c.args.first) i.count i.each c.related_by.ensures);
    }
