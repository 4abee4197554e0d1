use Rattle.std.proofs.Common.{◌≡◌, map, take}
use Rattle.bsv_schedule.proofs.relating.relations.roles.Given as goal

abbrev pub invariant-loop-element : goal.invariant-loop-element
invariant-loop-element l = l.found ≡ map (λ e. e.role) (take l.element-index l.elements)
