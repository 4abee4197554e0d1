use Rattle.std.proofs.Common.{◌≡◌, length}
use Rattle.bsv_types.specs.Names.{lower_names}
use Rattle.bsv_modules.specs.Programs.{field_names}
use Rattle.bsv_modules.specs.Seen.{seen_names}
use Rattle.bsv_modules.proofs.Distinct.{are_new_lower}
use Rattle.bsv_modules.proofs.named.fields_named.Given as goal

abbrev pub decreases-loop-field : goal.decreases-loop-field
decreases-loop-field l = length l.rest

abbrev pub invariant-loop-field : goal.invariant-loop-field
invariant-loop-field l = are_new_lower (seen_names l.names) (field_names l.rest) ≡ lower_names (field_names l.fields)
