use Rattle.std.proofs.Common.{◌≡◌, ◌+◌, ◌-◌, ◌<◌, ◌++◌, ◌∙◌, subst, arith}
use Rattle.bsv_graph.specs.Edges.{edges_from, edges_where}
use Rattle.bsv_graph.specs.Reaching.{Marks}
use Rattle.bsv_graph.specs.Table.{at, side_of}
use Rattle.bsv_graph.proofs.MarkedLemmas.{from_row, no_row, every_row, row_more}
use Rattle.bsv_graph.proofs.graph.Graph.of_marks.Goals as goal

pub loop-done-init : goal.loop-done-init
loop-done-init c =
    let n = side_of c.args.table.now in
    let e : n ≡ n - 0 = omega arith in (
      c.in_ok-graph.ensures.size ∙ c.side-side.ensures,
      subst (λ k. Marks (edges_where n (from_row (at c.args.table.now) k)) c.in_ok-graph.graph.reach) e (no_row (at c.args.table.now) n c.in_ok-graph.graph.reach c.in_ok-graph.ensures.empty),
    )

pub loop-done-preserved : goal.loop-done-preserved
loop-done-preserved c =
    let n = side_of c.args.table.now in
    let test = at c.args.table.now in
    let done = c.loop-done.done in
    let less : done < n = omega (arith, c.side-side.ensures, c.loop-done-test.true) in
    let row : c.side-side.result - 1 - done ≡ n - (done + 1) = omega (arith, c.side-side.ensures, less) in
    let after : n - done ≡ n - (done + 1) + 1 = omega (arith, less) in
    let below : n - (done + 1) < n = omega (arith, less) in
    let m = c.join_row.ensures.gains _ c.loop-done.invariant.1 in
    let named = subst (λ k. Marks (edges_from test n (n - (done + 1)) ++ edges_where n (from_row test k)) c.join_row.new.self.reach) after
    (subst (λ k. Marks (edges_from test n k ++ edges_where n (from_row test (n - done))) c.join_row.new.self.reach) row m) in (
      c.join_row.ensures.size ∙ c.loop-done.invariant.0,
      row_more test n c.join_row.new.self.reach (n - (done + 1)) below named,
    )

pub returns-clause-edges : goal.returns-clause-edges
returns-clause-edges c =
    let n = side_of c.args.table.now in
    let none : n - c.loop-done.done ≡ 0 = omega (arith, c.side-side.ensures, c.loop-done-test.false) in
    every_row (at c.args.table.now) n c.loop-done.graph.reach (subst (λ k. Marks (edges_where n (from_row (at c.args.table.now) k)) c.loop-done.graph.reach) none c.loop-done.invariant.1)
