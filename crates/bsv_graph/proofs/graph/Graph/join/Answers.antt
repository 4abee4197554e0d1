use Rattle.std.proofs.Common.{◌∙◌, sym}
use Rattle.bsv_graph.proofs.WalkLemmas.{marks_join, marks_closed, marks_implied}
use Rattle.bsv_graph.proofs.graph.Graph.join.Goals as goal

pub returns-then-not-get-clause-gains : goal.returns-then-not-get-clause-gains
returns-then-not-get-clause-gains c = λ es m.
    marks_join es c.args.self.now.reach m c.args.edge c.grow.new.reach c.requires.from c.requires.to
    (c.grow.ensures.adds (marks_closed es c.args.self.now.reach m))

pub returns-else-not-get-clause-gains : goal.returns-else-not-get-clause-gains
returns-else-not-get-clause-gains c = λ es m.
    marks_implied es c.args.self.now.reach m c.args.edge c.requires.from c.requires.to (sym c.get.ensures ∙ c.if-not-get.false)
