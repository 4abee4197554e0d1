use Rattle.std.proofs.Common.{ℕ, Result, Ok, ap}
use Rattle.bsv_fail.specs.Given.{◌>>=◌}
use Rattle.bsv_elab.specs.declared.refused.Refused.{Refused}
use Rattle.bsv_elab.specs.declared.state.Done.{Done}
use Rattle.bsv_elab.specs.Building.{building, tree}
use Rattle.bsv_elab.proofs.whole.build.Goals as goal

pub tree-requires : goal.tree-requires
unfolding building
tree-requires c =
    c.trees_are_right.ensures c.args.typed c.args.top.now (tree c.args.typed c.in-Ok.number c.in-Ok.done c.in-Ok.weight)
    (ap (λ (r : Result (ℕ × Done × ℕ) Refused). r >>= λ q. Ok (tree c.args.typed q.0 q.1 q.2)) c.in-Ok.ensures)
