use Rattle.std.proofs.Common.{◌≡◌, map, drop}
use Rattle.bsv_schedule.specs.relating.Uses.{calls_meet}
use Rattle.bsv_schedule.proofs.relating.meeting.calls_meet.Given as goal

abbrev pub invariant-loop-call : goal.invariant-loop-call
invariant-loop-call l =
    calls_meet l.relation (map (λ p. p.kind) l.parts) l.calls l.others
    ≡ calls_meet l.relation (map (λ p. p.kind) l.parts) (drop l.call-index l.calls) l.others
