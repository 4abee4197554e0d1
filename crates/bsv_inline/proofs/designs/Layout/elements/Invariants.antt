use Rattle.std.proofs.Common.{◌≡◌, length}
use Rattle.bsv_inline.specs.Flattening as flattening
use Rattle.bsv_inline.specs.SourcesAtHand as at_hand
use Rattle.bsv_inline.proofs.designs.Layout.elements.Given as goal

abbrev pub invariant-loop-position : goal.invariant-loop-position
invariant-loop-position l = flattening.AreFlatElements (at_hand.tree l.self.sources) 0 l.elements × (l.position ≡ length l.elements)
