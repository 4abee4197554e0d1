use Rattle.bsv_schedule.proofs.urgency_order.order.order_of.Goals as goal

pub returns-in-Some-clause-err : goal.returns-in-Some-clause-err
returns-in-Some-clause-err c =
    let h = c.in_ok-graph.ensures.ok in
    let s = c.as_slice.ensures in
    record {
      pairs = h.pairs;
      order = c.in_ok-order.order;
      least = rw h.size at (c.in_ok-order.ensures.least _ h.graph);
      method = rw s at c.in-Some.ensures.method;
      rule = rw s at c.in-Some.ensures.rule;
    }

pub returns-clause-ok : goal.returns-clause-ok
returns-clause-ok c =
    let h = c.in_ok-graph.ensures.ok in
    record {
      pairs = h.pairs;
      order = rw h.size at (c.in_ok-order.ensures.least _ h.graph);
      methods = rw c.as_slice.ensures at c.in-None.ensures.none;
    }
