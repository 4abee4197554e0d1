use Rattle.std.proofs.Common.{◌+◌, map, subst, sym}
use Rattle.bsv_schedule.specs.relating.Blocks.{AreRowsBetween}
use Rattle.bsv_schedule.proofs.BlockLemmas.{no_rows, row_more}
use Rattle.bsv_schedule.proofs.relating.rows.rows_between.Goals as goal

pub loop-a-init : goal.loop-a-init
loop-a-init g c =
    let ks = map (λ p. p.kind) c.args.parts.now in
    let us = c.args.usages.now.by_element.items in
    subst (AreRowsBetween ks us c.args.from c.args.from) (sym c.new-rows.ensures.items) (no_rows ks us c.args.from)

pub loop-a-preserved : goal.loop-a-preserved
loop-a-preserved g c =
    let ks = map (λ p. p.kind) c.args.parts.now in
    let us = c.args.usages.now.by_element.items in
    subst (AreRowsBetween ks us c.args.from (c.loop-a.a + 1)) (sym c.in_ok-push.ensures.items)
    (row_more ks us c.args.from c.loop-a.a c.loop-a.rows.items c.in_ok-row_of.field-0 c.loop-a.invariant c.in_ok-row_of.ensures)
