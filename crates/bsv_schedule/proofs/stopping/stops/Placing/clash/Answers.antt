use Rattle.bsv_schedule.specs.relating.Relations.{relating_of}
use Rattle.bsv_schedule.proofs.PlaceLemmas.{clash_first, clash_second, clash_never}
use Rattle.bsv_schedule.proofs.stopping.stops.Placing.clash.Goals as goal

pub returns-then-self-a : goal.returns-then-self-a
returns-then-self-a c = λ execution urgency t.
    let r = relating_of c.args.self.relations.now in
    clash_first r execution c.args.self.execution.now t.executed c.args.a c.args.b c.requires.first c.requires.second c.goes.result c.goes.ensures c.if-self-a.true

pub returns-then-self-b : goal.returns-then-self-b
returns-then-self-b c = λ execution urgency t.
    let r = relating_of c.args.self.relations.now in
    clash_second r execution c.args.self.execution.now t.executed c.args.a c.args.b c.requires.first c.requires.second c.goes-then-self-b.result c.goes-then-self-b.ensures
    c.if-self-b.true

pub returns : goal.returns
returns c = λ execution urgency t.
    let r = relating_of c.args.self.relations.now in (
      λ k. cc,
      λ k. absurd (clash_never r execution c.args.self.execution.now t.executed c.args.a c.args.b c.requires.first c.requires.second c.if-self-a.false c.if-self-b.false k),
    )
