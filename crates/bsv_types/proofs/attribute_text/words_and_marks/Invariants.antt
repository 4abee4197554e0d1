use Rattle.std.proofs.Common.{◌≡◌, length}
use Rattle.bsv_types.proofs.Pieces.{with_front}
use Rattle.bsv_types.specs.AttributeTexts as spec
use Rattle.bsv_types.proofs.attribute_text.words_and_marks.Given as goal

abbrev pub decreases-loop-first : goal.decreases-loop-first
decreases-loop-first l = length l.rest

abbrev pub invariant-loop-first : goal.invariant-loop-first
invariant-loop-first l = with_front l.found (spec.words_and_marks l.rest) ≡ spec.words_and_marks l.text
