use Rattle.bsv_inline.specs.SourcesAtHand as at_hand
use Rattle.bsv_inline.proofs.Designed.{laid_more}
use Rattle.bsv_inline.proofs.designs.Layout.elements.Goals as goal

pub loop-position-preserved : goal.loop-position-preserved
loop-position-preserved c =
    laid_more (at_hand.tree c.args.self.sources) c.loop-position.elements c.push.new.self c.in_ok-element.element c.loop-position.position
    c.loop-position.invariant.0 c.loop-position.invariant.1 c.in_ok-element.ensures c.in_ok-push.ensures.ok
