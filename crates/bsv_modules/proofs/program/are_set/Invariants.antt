use Rattle.std.proofs.Common.{◌≡◌, length}
use Rattle.std.specs.List.{list_all}
use Rattle.bsv_modules.proofs.program.are_set.Given as goal

abbrev pub decreases-loop-mark : goal.decreases-loop-mark
decreases-loop-mark l = length l.rest

abbrev pub invariant-loop-mark : goal.invariant-loop-mark
invariant-loop-mark l = list_all (λ b. b) l.rest ≡ list_all (λ b. b) l.marks
