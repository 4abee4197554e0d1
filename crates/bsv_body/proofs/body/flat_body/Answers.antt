use Rattle.std.proofs.Common.{refl}
use Rattle.bsv_body.proofs.Whole.{made_so}
use Rattle.bsv_body.proofs.body.flat_body.Goals as goal

pub returns : goal.returns
returns c =
    made_so c.args.arguments c.args.steps.now c.args.gives c.in_ok-state.state c.steps.new.state c.given.new.state c.in_ok-asked.asked c.in_ok-result.result _
    c.in_ok-state.ensures c.in_ok-asked.ensures c.in_ok-result.ensures refl
