use Rattle.std.proofs.Common.{◌∙◌}
use Rattle.bsv_tree.specs.tree.Seen.{tree_data}
use Rattle.bsv_flow.proofs.Trees.{built_at}
use Rattle.bsv_flow.proofs.building.tree.Goals as goal

pub returns-in-Ok-clause-built : goal.returns-in-Ok-clause-built
returns-in-Ok-clause-built c =
    built_at c.args.typed c.in_ok-top.top c.args.top.now (tree_data c.in-Ok.tree) (c.in_ok-top.ensures ∙ c.as_bytes.ensures.value) c.in-Ok.ensures.built
