use Rattle.std.proofs.Common.{◌≡◌, take}
use Rattle.bsv_schedule.specs.relating.Elements.{edges_of}
use Rattle.bsv_schedule.specs.relating.Uses.{is_listed}
use Rattle.bsv_schedule.proofs.relating.relations.listed.Given as goal

abbrev pub invariant-loop-pair : goal.invariant-loop-pair
invariant-loop-pair l = l.found ≡ edges_of (is_listed l.ordering) (take l.pair-index l.pairs)
