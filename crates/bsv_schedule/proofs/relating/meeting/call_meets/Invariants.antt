use Rattle.std.proofs.Common.{◌≡◌, map, drop}
use Rattle.std.specs.List.{list_any}
use Rattle.bsv_design.specs.design.Bodies.{target}
use Rattle.bsv_schedule.specs.relating.Related.{on_one_part}
use Rattle.bsv_schedule.proofs.relating.meeting.call_meets.Given as goal

abbrev pub invariant-loop-other : goal.invariant-loop-other
invariant-loop-other l =
    list_any (λ other. on_one_part l.relation (map (λ p. p.kind) l.parts) (target l.call) (target other)) l.others
    ≡ list_any (λ other. on_one_part l.relation (map (λ p. p.kind) l.parts) (target l.call) (target other)) (drop l.other-index l.others)
