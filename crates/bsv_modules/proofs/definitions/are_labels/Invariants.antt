use Rattle.std.proofs.Common.{◌≡◌, length}
use Rattle.std.specs.List.{list_all}
use Rattle.bsv_modules.specs.Programs.{is_label}
use Rattle.bsv_modules.proofs.definitions.are_labels.Given as goal

abbrev pub decreases-loop-label : goal.decreases-loop-label
decreases-loop-label l = length l.rest

abbrev pub invariant-loop-label : goal.invariant-loop-label
invariant-loop-label l = list_all is_label l.rest ≡ list_all is_label l.labels
