use Rattle.std.proofs.Common.{◌≡◌, length}
use Rattle.std.specs.List.{list_all}
use Rattle.bsv_modules.specs.Programs.{is_undefined}
use Rattle.bsv_modules.specs.Seen.{labels_of}
use Rattle.bsv_modules.proofs.definitions.are_undefined.Given as goal

abbrev pub decreases-loop-label : goal.decreases-loop-label
decreases-loop-label l = length l.rest

abbrev pub invariant-loop-label : goal.invariant-loop-label
invariant-loop-label l = list_all (is_undefined (labels_of l.known)) l.rest ≡ list_all (is_undefined (labels_of l.known)) l.labels
