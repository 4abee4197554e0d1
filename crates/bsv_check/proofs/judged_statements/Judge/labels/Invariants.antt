use Rattle.std.proofs.Common.{◌≡◌, length}
use Rattle.bsv_types.specs.Kinds.{kind}
use Rattle.bsv_names.specs.UntypedSeen.{variables}
use Rattle.bsv_context.specs.Seen.{shown}
use Rattle.bsv_check.specs.Judged.{labels_judged}
use Rattle.bsv_check.specs.JudgedSeen.{judging}
use Rattle.bsv_check.proofs.judged_statements.Judge.labels.Given as goal

abbrev pub decreases-loop-label : goal.decreases-loop-label
decreases-loop-label l = length l.rest

abbrev pub invariant-loop-label : goal.invariant-loop-label
invariant-loop-label l =
    labels_judged (judging l.self) l.span (kind l.ty) l.rest (variables l.names) (shown l.scopes) ≡ labels_judged (judging l.self) l.span (kind l.ty) l.labels (variables l.names) (shown l.scopes)
