use Rattle.std.proofs.Common.{◌≡◌, length, map}
use Rattle.std.specs.List.{list_all}
use Rattle.bsv_design.specs.design.Widths.{acts_not}
use Rattle.bsv_widths.proofs.calls.none_acts.Given as goal

abbrev pub decreases-loop-call : goal.decreases-loop-call
decreases-loop-call l = length l.rest

abbrev pub invariant-loop-call : goal.invariant-loop-call
invariant-loop-call l = list_all (acts_not (map (λ p. p.kind) l.parts)) l.rest ≡ list_all (acts_not (map (λ p. p.kind) l.parts)) l.calls
