use Rattle.std.proofs.Common.{ℕ, ◌<◌}
use Rattle.bsv_schedule.specs.urgency_order.Acting.{IsActionIn}
use Rattle.bsv_schedule.specs.relating.Relations.{relating_of}
use Rattle.bsv_schedule.proofs.urgency_order.behind.least_action_in.Given as goal

abbrev pub invariant-loop-m : goal.invariant-loop-m
invariant-loop-m l = (k : ℕ) → k < l.m → ¬ IsActionIn (relating_of l.relations) l.list k
