use Rattle.std.proofs.Common.{◌≡◌, length}
use Rattle.bsv_types.specs.Kinds.{kind}
use Rattle.bsv_statements.specs.Bodies as spec
use Rattle.bsv_context.specs.Seen.{shown}
use Rattle.bsv_statements.specs.SeenBodies.{task_of}
use Rattle.bsv_statements.proofs.Fronts.{listed}
use Rattle.bsv_statements.proofs.simple.all_labels.Given as goal

abbrev pub decreases-loop-label : goal.decreases-loop-label
decreases-loop-label l = length l.rest

abbrev pub invariant-loop-label : goal.invariant-loop-label
invariant-loop-label l = listed l.found (spec.all_labels (task_of l.task) (shown l.scopes) l.span (kind l.ty) l.rest) ≡ spec.all_labels (task_of l.task) (shown l.scopes) l.span (kind l.ty) l.labels
