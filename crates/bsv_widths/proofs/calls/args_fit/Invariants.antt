use Rattle.std.proofs.Common.{◌≡◌, length, ◌≤◌}
use Rattle.bsv_design.specs.parts.Kinds.{kind_table}
use Rattle.bsv_design.specs.design.Widths.{args_fit}
use Rattle.bsv_widths.proofs.calls.args_fit.Given as goal

abbrev pub decreases-loop-node : goal.decreases-loop-node
decreases-loop-node l = length l.rest

abbrev pub invariant-loop-node : goal.invariant-loop-node
invariant-loop-node l = (args_fit (kind_table l.kind) l.method l.widths 0 l.args ≡ args_fit (kind_table l.kind) l.method l.widths l.place l.rest) × (l.place ≤ l.arity)
