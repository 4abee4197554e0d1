use Rattle.std.proofs.Common.{◌∙◌, ◌++◌, ◌∷◌, [], ap}
use Rattle.bsv_body.proofs.flattener.Flattener.branches_in.Goals as goal

pub returns : goal.returns
returns c = c.in_ok-push.ensures.ok ∙ ap (λ bs. bs ++ record { choice = c.args.choice; arm = c.args.arm } ∷ []) c.in_ok-branches.ensures
