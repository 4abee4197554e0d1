use Rattle.std.proofs.Common.{map}
use Rattle.bsv_schedule.specs.relating.Blocks.{AreRowsBetween}
use Rattle.bsv_schedule.proofs.relating.rows.rows_between.Given as goal

abbrev pub invariant-loop-a : goal.invariant-loop-a
invariant-loop-a g l = AreRowsBetween (map (λ p. p.kind) l.parts) l.usages.by_element.items l.from l.a l.rows.items
