use Rattle.std.proofs.Common.{◌≡◌, map, length}
use Rattle.bsv_types.specs.Kinds.{kind}
use Rattle.bsv_names.specs.UntypedSeen.{variables}
use Rattle.bsv_context.specs.Seen.{shown}
use Rattle.bsv_check.specs.Judged.{all_labels_judged, labelled_of}
use Rattle.bsv_check.specs.JudgedSeen.{judging}
use Rattle.bsv_check.proofs.judged_statements.Judge.all_labels.Given as goal

abbrev pub decreases-loop-case : goal.decreases-loop-case
decreases-loop-case l = length l.rest

abbrev pub invariant-loop-case : goal.invariant-loop-case
invariant-loop-case l =
    all_labels_judged (judging l.self) l.span (kind l.ty) (map (labelled_of (judging l.self)) l.rest) (variables l.names) (shown l.scopes) ≡ all_labels_judged (judging l.self) l.span (kind l.ty) (map (labelled_of (judging l.self)) l.arms) (variables l.names) (shown l.scopes)
