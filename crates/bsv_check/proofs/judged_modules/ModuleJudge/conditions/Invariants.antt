use Rattle.std.proofs.Common.{◌≡◌, map, length}
use Rattle.bsv_names.specs.UntypedSeen.{variables}
use Rattle.bsv_context.specs.Seen.{shown}
use Rattle.bsv_check.specs.JudgedModules.{conditions_judged, arm_of}
use Rattle.bsv_check.specs.JudgedSeen.{in_module}
use Rattle.bsv_check.proofs.judged_modules.ModuleJudge.conditions.Given as goal

abbrev pub decreases-loop-branch : goal.decreases-loop-branch
decreases-loop-branch l = length l.rest

abbrev pub invariant-loop-branch : goal.invariant-loop-branch
invariant-loop-branch l =
    conditions_judged (in_module l.self) l.span (map (arm_of (in_module l.self)) l.rest) (variables l.names) (shown l.scopes) ≡ conditions_judged (in_module l.self) l.span (map (arm_of (in_module l.self)) l.branches) (variables l.names) (shown l.scopes)
