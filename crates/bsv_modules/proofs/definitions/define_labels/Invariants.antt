use Rattle.std.proofs.Common.{◌≡◌, ◌+◌, length}
use Rattle.bsv_modules.specs.Programs.{with_labels}
use Rattle.bsv_modules.specs.Seen.{labels_of}
use Rattle.bsv_modules.proofs.definitions.define_labels.Given as goal

abbrev pub decreases-loop-label : goal.decreases-loop-label
decreases-loop-label l = length l.rest

abbrev pub invariant-loop-label : goal.invariant-loop-label
invariant-loop-label l = record {
  left : with_labels l.of_enum l.place l.rest (labels_of l.known) ≡ with_labels l.of_enum 0 l.labels (labels_of l.fn.known);
  within : l.place + length l.rest ≡ length l.labels;
}
