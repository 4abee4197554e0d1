use Rattle.std.proofs.Common.{arith, refl, ◌++◌}
use Rattle.std.proofs.lemmas.List.{take_all}
use Rattle.std.proofs.lemmas.Bool.{both_ways}
use Rattle.bsv_graph.proofs.WalkLemmas.{marks_take, closes_first, none_first, none_more, none_acyclic}
use Rattle.bsv_graph.proofs.graph.Graph.first_closing.Goals as goal

pub loop-k-init : goal.loop-k-init
loop-k-init c = (refl, λ es m. (m, none_first es))

pub returns-then-closes-clause-some : goal.returns-then-closes-clause-some
returns-then-closes-clause-some c = λ es m.
    let i = c.loop-k.invariant.1 es m in
    closes_first es c.args.edges.now c.loop-k.k _ c.loop-k-test.true i.1 ((c.closes.ensures _ i.0).0 c.if-closes.true)

pub loop-k-preserved : goal.loop-k-preserved
loop-k-preserved c = (
  omega arith,
  λ es m. let i = c.loop-k.invariant.1 es m in (
    marks_take c.args.edges.now es c.loop-k.k _ c.join.new.self.reach c.loop-k-test.true (c.join.ensures.gains _ i.0),
    none_more es c.args.edges.now c.loop-k.k _ c.loop-k-test.true i.1
        (λ h. both_ways c.closes.result c.if-closes.false ((c.closes.ensures _ i.0).1 h)),
  ),
)

pub returns-then-closes-clause-before : goal.returns-then-closes-clause-before
returns-then-closes-clause-before c = λ es m. (c.loop-k.invariant.1 es m).0

pub returns-clause-none : goal.returns-clause-none
returns-clause-none c = λ es m.
    let e = take_all c.loop-k.k c.args.edges.now c.loop-k-test.false in
    rw e at (c.loop-k.invariant.1 es m).1

pub returns-clause-all : goal.returns-clause-all
returns-clause-all c = λ es m.
    let e = take_all c.loop-k.k c.args.edges.now c.loop-k-test.false in
    rw e at (c.loop-k.invariant.1 es m).0

pub returns-clause-acyclic : goal.returns-clause-acyclic
returns-clause-acyclic c = λ h. (
  c.args.edges.now ++ h.0,
  returns-clause-all c h.0 h.1,
  none_acyclic h.0 c.args.edges.now h.2 (returns-clause-none c h.0 h.1),
)
