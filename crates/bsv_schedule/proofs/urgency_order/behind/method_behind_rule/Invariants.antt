use Rattle.std.proofs.Common.{ℕ, take}
use Rattle.std.specs.Prelude.{IsFalse}
use Rattle.bsv_graph.specs.Orders.{In}
use Rattle.bsv_schedule.specs.relating.Relations.{relating_of}
use Rattle.bsv_schedule.proofs.urgency_order.behind.method_behind_rule.Given as goal

abbrev pub invariant-loop-place : goal.invariant-loop-place
invariant-loop-place l = (q : ℕ) → In (take l.place l.order) q → IsFalse ((relating_of l.relations).rule q)
