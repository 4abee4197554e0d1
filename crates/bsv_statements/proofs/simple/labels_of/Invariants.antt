use Rattle.std.proofs.Common.{◌≡◌, map, length}
use Rattle.bsv_types.specs.Kinds.{kind}
use Rattle.bsv_statements.specs.Bodies as spec
use Rattle.bsv_context.specs.Seen.{shown}
use Rattle.bsv_statements.specs.SeenBodies.{task_of}
use Rattle.bsv_statements.proofs.Fronts.{listed}
use Rattle.bsv_statements.proofs.simple.labels_of.Given as goal

abbrev pub decreases-loop-case : goal.decreases-loop-case
decreases-loop-case l = length l.rest

abbrev pub invariant-loop-case : goal.invariant-loop-case
invariant-loop-case l = listed l.found.items (spec.labels_of (task_of l.task) (shown l.scopes) l.span (kind l.ty) (map (spec.labelled_of (task_of l.task)) l.rest)) ≡ spec.labels_of (task_of l.task) (shown l.scopes) l.span (kind l.ty) (map (spec.labelled_of (task_of l.task)) l.arms)
