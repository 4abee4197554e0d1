use Rattle.bsv_schedule.specs.urgency_order.Orders.{urgency_edges}
use Rattle.bsv_graph.proofs.OrderedLemmas.{least_one}
use Rattle.bsv_schedule.proofs.OrderLaws.{execution_one}
use Rattle.bsv_schedule.proofs.Answering.{stops_one}
use Rattle.bsv_schedule.proofs.laws.one_order.Goals as goal

pub returns : goal.returns
returns c = record {
  least = least_one;
  execution = execution_one;
  urgency = λ r. least_one r.count (urgency_edges r);
  stops = stops_one;
}
