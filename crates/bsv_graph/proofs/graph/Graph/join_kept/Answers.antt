use Rattle.std.proofs.Common.{arith, refl}
use Rattle.std.proofs.lemmas.List.{take_all}
use Rattle.bsv_graph.specs.Walks.{done}
use Rattle.bsv_graph.proofs.WalkLemmas.{keeps_take, keeps_acyclic}
use Rattle.bsv_graph.proofs.graph.Graph.join_kept.Goals as goal

pub loop-edge-init : goal.loop-edge-init
loop-edge-init c = (refl, λ es m. (es, done, m))

pub loop-edge-preserved : goal.loop-edge-preserved
loop-edge-preserved c = (
  omega arith,
  λ es m.
      let i = c.loop-edge.invariant.1 es m in
      let n = c.keep.ensures.kept i.0 i.2 in
      (n.0, keeps_take es c.args.edges.now i.0 n.0 c.loop-edge.edge-index _ c.loop-edge-test.true i.1 n.1, n.2),
)

pub returns-clause-kept : goal.returns-clause-kept
returns-clause-kept c = λ es m.
    let e = take_all c.loop-edge.edge-index c.args.edges.now c.loop-edge-test.false in
    rw e at (c.loop-edge.invariant.1 es m)

pub returns-clause-acyclic : goal.returns-clause-acyclic
returns-clause-acyclic c = λ h.
    let k = returns-clause-kept c h.0 h.1 in
    (k.0, k.2, keeps_acyclic k.1 h.2)
