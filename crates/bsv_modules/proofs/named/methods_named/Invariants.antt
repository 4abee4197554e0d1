use Rattle.std.proofs.Common.{◌≡◌, length}
use Rattle.bsv_types.specs.Names.{distinct}
use Rattle.bsv_modules.specs.Programs.{header_names}
use Rattle.bsv_modules.specs.Seen.{seen_names}
use Rattle.bsv_modules.proofs.Distinct.{are_new}
use Rattle.bsv_modules.proofs.named.methods_named.Given as goal

abbrev pub decreases-loop-method : goal.decreases-loop-method
decreases-loop-method l = length l.rest

abbrev pub invariant-loop-method : goal.invariant-loop-method
invariant-loop-method l = are_new (seen_names l.names) (header_names l.rest) ≡ distinct (header_names l.methods)
