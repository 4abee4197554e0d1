use Rattle.std.proofs.Common.{arith}
use Rattle.bsv_graph.proofs.LeastLemmas.{some_ready}
use Rattle.bsv_graph.proofs.least.least_ready.Goals as goal

pub unreachable-requires : goal.unreachable-requires
unreachable-requires c =
    let s = c.requires.some in
    let r = some_ready c.args.reach.now c.args.placed.now c.requires.strict c.requires.closed s.0 s.1 s.2 in
    c.loop-b.invariant.0 r.0 (omega (arith, r.1, c.requires.length)) r.2
