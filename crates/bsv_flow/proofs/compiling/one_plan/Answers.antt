use Rattle.bsv_flow.proofs.Planned.{one_tree_planned, one_made_planned, planned_built, planned_apart}
use Rattle.bsv_flow.proofs.compiling.one_plan.Goals as goal

pub returns : goal.returns
returns c = record { tree = one_tree_planned; schedule = one_made_planned; built = planned_built; apart = planned_apart }
