use Rattle.std.proofs.Common.{◌≡◌, map, length}
use Rattle.bsv_statements.specs.Bodies as spec
use Rattle.bsv_context.specs.Seen.{shown}
use Rattle.bsv_statements.specs.SeenBodies.{opening_of, task_of}
use Rattle.bsv_statements.proofs.Fronts.{listed}
use Rattle.bsv_statements.proofs.simple.openings.Given as goal

abbrev pub decreases-loop-branch : goal.decreases-loop-branch
decreases-loop-branch l = length l.rest

abbrev pub invariant-loop-branch : goal.invariant-loop-branch
invariant-loop-branch l = listed (map opening_of l.found.items) (spec.openings (task_of l.task) (shown l.scopes) l.span (map (spec.arm_of (task_of l.task)) l.rest)) ≡ spec.openings (task_of l.task) (shown l.scopes) l.span (map (spec.arm_of (task_of l.task)) l.branches)
