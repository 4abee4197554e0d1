use Rattle.std.proofs.Common.{◌<◌, arith}
use Rattle.bsv_graph.proofs.TableLemmas.{grow_more, row_closed}
use Rattle.bsv_graph.proofs.reach.grow.Goals as goal

pub loop-x-preserved : goal.loop-x-preserved
loop-x-preserved c = (
  omega arith,
  λ closed.
      let lt : c.loop-x.x < c.args.reach.now.side = omega arith in
      let g = c.loop-x.invariant.1 closed in
      grow_more c.args.reach.now c.loop-x.reach c.extend_one.new.reach c.loop-x.x c.args.from c.args.to lt c.requires.from c.requires.to closed g
      (c.extend_one.ensures.adds (row_closed c.args.reach.now c.loop-x.reach c.loop-x.reach c.loop-x.x c.args.from c.args.to lt c.requires.from c.requires.to closed g)),
)
