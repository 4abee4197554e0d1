use Rattle.bsv_schedule.proofs.RelationsLemmas.{feeds_edges, feeds_size}
use Rattle.bsv_schedule.proofs.relating.relations.Relations.feed_graph.Goals as goal

pub returns-clause-size : goal.returns-clause-size
returns-clause-size c = feeds_size c.args.self.now c.of_marks.result c.of_marks.ensures.size

pub returns-clause-edges : goal.returns-clause-edges
returns-clause-edges c = feeds_edges c.args.self.now c.of_marks.result c.of_marks.ensures.edges
