use Rattle.bsv_schedule.proofs.execution_order.order.graph_of_feeds.Goals as goal

pub returns-in-Some-clause-err : goal.returns-in-Some-clause-err
returns-in-Some-clause-err c = c.in-Some.ensures.some _ c.in_ok-graph.ensures.edges

pub returns-in-None-clause-ok : goal.returns-in-None-clause-ok
returns-in-None-clause-ok c = record {
  size = c.in_ok-graph.ensures.size;
  graph = c.in_ok-graph.ensures.edges;
  feeds = c.in-None.ensures.none _ c.in_ok-graph.ensures.edges;
}
