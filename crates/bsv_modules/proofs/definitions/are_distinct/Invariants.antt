use Rattle.std.proofs.Common.{◌≡◌, length}
use Rattle.bsv_types.specs.Names.{distinct}
use Rattle.bsv_modules.specs.Programs.{names_of}
use Rattle.bsv_modules.specs.Seen.{seen_names}
use Rattle.bsv_modules.proofs.NamesOnce.{behind}
use Rattle.bsv_modules.proofs.definitions.are_distinct.Given as goal

abbrev pub decreases-loop-label : goal.decreases-loop-label
decreases-loop-label l = length l.rest

abbrev pub invariant-loop-label : goal.invariant-loop-label
invariant-loop-label l = behind (seen_names l.names) (names_of l.rest) ≡ distinct (names_of l.labels)
