use Rattle.std.proofs.Common.{[], length, map, take}
use Rattle.std.specs.Prelude.{slice_index_or}
use Rattle.bsv_schedule.specs.relating.Rows.{AreMarks}
use Rattle.bsv_schedule.specs.relating.Users.{MeetsSome}
use Rattle.bsv_schedule.proofs.relating.rows.marks_of.Given as goal

abbrev pub invariant-loop-own : goal.invariant-loop-own
invariant-loop-own l =
    AreMarks (length l.usages.by_element.items)
    (MeetsSome l.relation (map (λ p. p.kind) l.parts) (take l.own-index (slice_index_or l.usages.by_element.items l.a [])) l.usages.by_part.items)
    l.marks.items
