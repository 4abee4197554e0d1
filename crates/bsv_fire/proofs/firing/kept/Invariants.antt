use Rattle.std.proofs.Common.{◌≡◌, ◌+◌, map}
use Rattle.bsv_graph.specs.Edges.{numbers_below}
use Rattle.bsv_fire.proofs.firing.kept.Given as goal

abbrev pub invariant-loop-number : goal.invariant-loop-number
invariant-loop-number l = l.found ≡ map (λ k. l.first + k) (numbers_below l.number)
