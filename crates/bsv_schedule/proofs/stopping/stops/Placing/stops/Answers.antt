use Rattle.bsv_schedule.specs.relating.Relations.{relating_of}
use Rattle.bsv_schedule.proofs.PlaceLemmas.{stops_never, stops_clash}
use Rattle.bsv_schedule.proofs.stopping.stops.Placing.stops.Goals as goal

pub returns-then-self-a : goal.returns-then-self-a
returns-then-self-a c = λ execution urgency t.
    let r = relating_of c.args.self.relations.now in (
      λ k. cc,
      λ k. absurd (stops_never r execution urgency c.args.self.urgency.now t.urged c.args.a c.args.b c.requires.first c.requires.second c.preempts.result c.preempts.ensures
          c.if-preempts.false c.if-self-a.true k),
    )

pub returns : goal.returns
returns c = λ execution urgency t.
    let r = relating_of c.args.self.relations.now in
    stops_clash r execution urgency c.args.self.urgency.now t.urged c.args.a c.args.b c.requires.first c.requires.second c.preempts.result c.preempts.ensures c.clash.result
    c.if-preempts.false c.if-self-a.false (c.clash.ensures execution urgency t)
