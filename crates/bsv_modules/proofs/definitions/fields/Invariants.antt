use Rattle.std.proofs.Common.{◌≡◌, length}
use Rattle.bsv_context.specs.Seen.{type_names}
use Rattle.bsv_statements.proofs.Fronts.{listed}
use Rattle.bsv_modules.specs.Programs.{fields_at}
use Rattle.bsv_modules.proofs.definitions.fields.Given as goal

abbrev pub decreases-loop-next : goal.decreases-loop-next
decreases-loop-next l = length l.rest

abbrev pub invariant-loop-next : goal.invariant-loop-next
invariant-loop-next l = listed l.found (fields_at (type_names l.context) l.span l.rest) ≡ fields_at (type_names l.context) l.span l.written
