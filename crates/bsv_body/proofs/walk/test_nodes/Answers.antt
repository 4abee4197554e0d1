use Rattle.bsv_body.proofs.Steps.{tests_are}
use Rattle.bsv_body.proofs.walk.test_nodes.Goals as goal

pub returns : goal.returns
returns c = tests_are c.args.test c.args.left c.args.state.now _ _ _ _ _ _ c.in_ok-test.ensures c.in_ok-taken.ensures c.in_ok-left.ensures
