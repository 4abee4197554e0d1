use Rattle.std.proofs.Common.{◌≡◌, ◌++◌, length, map}
use Rattle.bsv_tree.specs.tree.Elements as spec
use Rattle.bsv_inline.specs.SourcesAtHand as at_hand
use Rattle.bsv_inline.proofs.sources.Sources.ports.Given as goal

abbrev pub decreases-loop-param : goal.decreases-loop-param
decreases-loop-param l = length l.rest

abbrev pub invariant-loop-param : goal.invariant-loop-param
invariant-loop-param l =
    map (spec.port_of (at_hand.shapes l.self)) l.params
    ≡ l.ports ++ map (spec.port_of (at_hand.shapes l.self)) l.rest
