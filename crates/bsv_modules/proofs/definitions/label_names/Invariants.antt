use Rattle.std.proofs.Common.{◌≡◌, ◌++◌, length}
use Rattle.bsv_modules.specs.Programs.{names_of}
use Rattle.bsv_modules.proofs.definitions.label_names.Given as goal

abbrev pub decreases-loop-label : goal.decreases-loop-label
decreases-loop-label l = length l.rest

abbrev pub invariant-loop-label : goal.invariant-loop-label
invariant-loop-label l = l.found ++ names_of l.rest ≡ names_of l.labels
