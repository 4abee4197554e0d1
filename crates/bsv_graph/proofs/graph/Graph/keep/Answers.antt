use Rattle.std.proofs.Common.{◌∷◌}
use Rattle.std.proofs.lemmas.Bool.{both_ways}
use Rattle.bsv_graph.specs.Walks.{done, keep, drop}
use Rattle.bsv_graph.proofs.graph.Graph.keep.Goals as goal

pub returns-then-not-closes-clause-kept : goal.returns-then-not-closes-clause-kept
returns-then-not-closes-clause-kept c = λ es m. (
  c.args.edge ∷ es,
  keep (λ h. both_ways c.closes.result c.if-not-closes.true ((c.closes.ensures es m).1 h)) done,
  c.join.ensures.gains es m,
)

pub returns-else-not-closes-clause-kept : goal.returns-else-not-closes-clause-kept
returns-else-not-closes-clause-kept c = λ es m. (es, drop ((c.closes.ensures es m).0 c.if-not-closes.false) done, m)
