use Rattle.std.proofs.Common.{◌≡◌, length}
use Rattle.bsv_body.specs.Flat as spec
use Rattle.bsv_body.proofs.choices.in_text_order.Given as goal

abbrev pub decreases-loop-part : goal.decreases-loop-part
decreases-loop-part l = length l.parts

abbrev pub invariant-loop-part : goal.invariant-loop-part
invariant-loop-part l = spec.in_text_order l.fn.parts ≡ spec.both l.asked (spec.in_text_order l.parts)
