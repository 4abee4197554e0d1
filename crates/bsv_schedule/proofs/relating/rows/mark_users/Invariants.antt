use Rattle.std.proofs.Common.{map, take}
use Rattle.bsv_schedule.specs.relating.Rows.{Gains}
use Rattle.bsv_schedule.specs.relating.Users.{MeetsUser}
use Rattle.bsv_schedule.proofs.relating.rows.mark_users.Given as goal

abbrev pub invariant-loop-user : goal.invariant-loop-user
invariant-loop-user l = Gains l.initial.marks l.marks (MeetsUser l.fn.relation (map (λ p. p.kind) l.parts) l.fn.own (take l.user-index l.users))
