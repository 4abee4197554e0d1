use Rattle.std.proofs.Common.{◌≡◌, map, length}
use Rattle.bsv_names.specs.UntypedSeen.{variables}
use Rattle.bsv_check.specs.Judged.{all_judged}
use Rattle.bsv_check.specs.JudgedModules.{direct_judged}
use Rattle.bsv_check.specs.JudgedSeen.{in_module}
use Rattle.bsv_modules.specs.Seen.{state_of}
use Rattle.bsv_check.proofs.judged_modules.ModuleJudge.all_direct.Given as goal

abbrev pub decreases-loop-stmt : goal.decreases-loop-stmt
decreases-loop-stmt l = length l.rest

abbrev pub invariant-loop-stmt : goal.invariant-loop-stmt
invariant-loop-stmt l =
    all_judged (map (direct_judged (in_module l.self)) l.rest) (variables l.names) (state_of l.state) ≡ all_judged (map (direct_judged (in_module l.self)) l.stmts) (variables l.fn.names) (state_of l.fn.state)
