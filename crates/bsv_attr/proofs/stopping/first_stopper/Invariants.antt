use Rattle.std.proofs.Common.{take}
use Rattle.bsv_attr.specs.Stopping.{NoneStops}
use Rattle.bsv_attr.proofs.stopping.first_stopper.Given as goal

abbrev pub invariant-loop-element : goal.invariant-loop-element
invariant-loop-element l = NoneStops (take l.element-index l.element-items) l.schedule.stops l.rule
