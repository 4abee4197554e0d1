use Rattle.std.proofs.Common.{◌≡◌, length}
use Rattle.bsv_fire.specs.Bodies.{all_from}
use Rattle.bsv_fire.proofs.body.all_from.Given as goal

abbrev pub invariant-loop-next : goal.invariant-loop-next
invariant-loop-next l = all_from l.nodes l.place l.rest ≡ all_from l.initial.nodes l.first l.others

abbrev pub decreases-loop-next : goal.decreases-loop-next
decreases-loop-next l = length l.rest
