use Rattle.std.proofs.Common.{◌≡◌, map, length}
use Rattle.bsv_modules.specs.Modules as spec
use Rattle.bsv_modules.specs.Seen.{site_of, state_of}
use Rattle.bsv_modules.proofs.Threaded.{state_front}
use Rattle.bsv_modules.proofs.module_statements.all_direct.Given as goal

abbrev pub decreases-loop-stmt : goal.decreases-loop-stmt
decreases-loop-stmt l = length l.rest

abbrev pub invariant-loop-stmt : goal.invariant-loop-stmt
invariant-loop-stmt l = state_front l.found (spec.all_in (map (spec.direct (site_of l.site)) l.rest) (state_of l.state)) ≡ spec.all_in (map (spec.direct (site_of l.site)) l.stmts) (state_of l.fn.state)
