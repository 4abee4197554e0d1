use Rattle.std.proofs.Common.{◌≡◌, ℕ, arith, refl, rules, [], ◌∷◌, ◌++◌, false, length, replicate, take, drop}
use Rattle.bsv_graph.specs.Table.{side_of}
use Rattle.bsv_graph.proofs.LeastLemmas.{filled_none, filled_more, filled_some, filled_order, greedy_more, order_below, least_from_greedy, clear_first, clear_placed, lent_back}
use Rattle.bsv_graph.proofs.WalkLemmas.{marks_closed}
use Rattle.bsv_graph.proofs.graph.Graph.least_order.Goals as goal

pub loop-init : goal.loop-init
loop-init c =
    let zeroth : ℕ = 0 in
    let e : c.in_ok-placed.placed.items ≡ replicate (side_of c.args.self.now.reach) false = search rules in
    let w : c.in_ok-waits.waits.items ≡ replicate (side_of c.args.self.now.reach) zeroth = search rules in
    let o : c.new-order.result ≡ [] = search rules in
    record {
      side = c.side-side.ensures;
      filled = rw o (filled_none (side_of c.args.self.now.reach) c.in_ok-placed.placed.items e);
      clear = clear_first c.args.self.now.reach c.in_ok-placed.placed.items c.in_ok-waits.waits.items zeroth refl w;
      greedy = λ es m. rw o tt;
    }

pub least_ready-next-requires-clause-closed : goal.least_ready-next-requires-clause-closed
least_ready-next-requires-clause-closed c = marks_closed c.requires.0 c.args.self.now.reach c.requires.1

pub least_ready-next-requires-clause-some : goal.least_ready-next-requires-clause-some
least_ready-next-requires-clause-some c =
    let s = filled_some (side_of c.args.self.now.reach) c.loop.placed.items c.loop.order c.loop.counter c.loop.invariant.filled (omega arith) in
    rw c.deref.ensures.value s

pub loop-preserved : goal.loop-preserved
loop-preserved c =
    let r = rw c.deref.ensures.value at c.least_ready-next.ensures.ready in
    let k = rw c.deref.ensures.value at c.least_ready-next.ensures.clear in
    let o : c.push.new.self ≡ c.loop.order ++ (c.least_ready-next.result ∷ []) = search rules in
    let w : take c.loop.waits.len (c.least_ready-next.new.waits ++ drop (length c.least_ready-next.new.waits) c.loop.waits.items) ≡ c.least_ready-next.new.waits =
    lent_back c.loop.waits.len c.least_ready-next.new.waits c.loop.waits.items (omega (arith, k.size, c.loop.invariant.clear.size, c.loop.waits.ok.0)) (omega (arith, c.loop.waits.ok.0)) in
    record {
      side = c.loop.invariant.side;
      filled = rw o (filled_more (side_of c.args.self.now.reach) c.loop.placed.items c.loop.order c.loop.counter c.least_ready-next.result
          c.loop.invariant.filled r.below r.ready.open_still);
      clear = rw w (clear_placed c.args.self.now.reach c.loop.placed.items c.least_ready-next.new.waits c.least_ready-next.result
          (omega (arith, r.below, c.loop.invariant.filled.size)) k);
      greedy = λ es m. rw o (greedy_more es c.args.self.now.reach c.loop.placed.items c.loop.order c.loop.counter c.least_ready-next.result m
          c.loop.invariant.filled r (c.loop.invariant.greedy es m));
    }

pub returns-clause-below : goal.returns-clause-below
returns-clause-below c =
    order_below (side_of c.args.self.now.reach) c.loop.order
    (filled_order (side_of c.args.self.now.reach) c.loop.placed.items c.loop.order c.loop.counter c.loop.invariant.filled (omega arith))

pub returns-clause-least : goal.returns-clause-least
returns-clause-least c = λ es m.
    least_from_greedy es (side_of c.args.self.now.reach) c.loop.order m.within
    (filled_order (side_of c.args.self.now.reach) c.loop.placed.items c.loop.order c.loop.counter c.loop.invariant.filled (omega arith))
    (c.loop.invariant.greedy es m)
