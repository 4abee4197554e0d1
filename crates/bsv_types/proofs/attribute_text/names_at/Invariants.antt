use Rattle.std.proofs.Common.{◌≡◌, length}
use Rattle.bsv_types.proofs.Gathering.{with_names}
use Rattle.bsv_types.specs.AttributeTexts as spec
use Rattle.bsv_types.proofs.attribute_text.names_at.Given as goal

abbrev pub decreases-loop-name : goal.decreases-loop-name
decreases-loop-name l = length l.rest

abbrev pub invariant-loop-name : goal.invariant-loop-name
invariant-loop-name l = with_names l.names (spec.names_at l.rest) ≡ spec.names_at l.pieces
