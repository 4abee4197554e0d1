use Rattle.std.proofs.Common.{◌≡◌, ◌+◌, ◌++◌, suc, sym, ◌∙◌, ap, subst, arith}
use Rattle.bsv_graph.specs.Edges.{numbers_below}
use Rattle.bsv_graph.specs.Reaching.{Marks}
use Rattle.bsv_graph.specs.Table.{at, side_of}
use Rattle.bsv_graph.proofs.EdgeLemmas.{passing}
use Rattle.bsv_graph.proofs.MarkedLemmas.{row_gains, row_skips}
use Rattle.bsv_graph.proofs.graph.Graph.join_row.Goals as goal
use Rattle.bsv_graph.proofs.graph.Graph.join_row.Goals.{then-get, else-get}

pub loop-b-preserved : goal.loop-b-preserved
loop-b-preserved c =
    let test = at c.args.table.now in
    let a = c.args.a in
    let b = c.loop-b.b in
    let up : suc b ≡ b + 1 = omega arith in
    elim c.if-get.branch [
      | then-get w ↦ (
        ap (λ g. g.reach.side) w.self-is ∙ (w.join.ensures.size ∙ c.loop-b.invariant.0),
        λ es m. subst (λ g. Marks (passing test a (numbers_below (b + 1)) ++ es) g.reach) (sym w.self-is)
            (subst (λ k. Marks (passing test a (numbers_below k) ++ es) w.join.new.self.reach) up
            (row_gains test a b es w.join.new.self.reach (sym c.get.ensures ∙ w.if-get.true) (w.join.ensures.gains _ (c.loop-b.invariant.1 es m)))),
      )
      | else-get w ↦ (
        ap (λ g. g.reach.side) w.self-is ∙ c.loop-b.invariant.0,
        λ es m. subst (λ g. Marks (passing test a (numbers_below (b + 1)) ++ es) g.reach) (sym w.self-is)
            (subst (λ k. Marks (passing test a (numbers_below k) ++ es) c.loop-b.self.reach) up
            (row_skips test a b es c.loop-b.self.reach (sym c.get.ensures ∙ w.if-get.false) (c.loop-b.invariant.1 es m))),
      )
    ]

pub returns-clause-gains : goal.returns-clause-gains
returns-clause-gains c = λ es m.
    let e : c.loop-b.b ≡ side_of c.args.table.now = omega (arith, c.side-b-end.ensures) in
    subst (λ n. Marks (passing (at c.args.table.now) c.args.a (numbers_below n) ++ es) c.loop-b.self.reach) e (c.loop-b.invariant.1 es m)
