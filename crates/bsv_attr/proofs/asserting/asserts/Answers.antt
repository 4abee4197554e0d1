use Rattle.bsv_attr.proofs.Asserted.{accepted_where, stopped_where}
use Rattle.bsv_attr.proofs.Rules.{scheme}
use Rattle.bsv_attr.proofs.asserting.asserts.Goals as goal

pub returns-clause-accepted : goal.returns-clause-accepted
returns-clause-accepted c = accepted_where (scheme c.args.design.now) c.args.schedule.now c.unstopped.result c.in_ok-explicit.ensures c.unstopped.ensures

pub returns-clause-fires : goal.returns-clause-fires
returns-clause-fires c r f = stopped_where (scheme c.args.design.now) c.args.schedule.now c.unstopped.result r f c.in_ok-explicit.ensures c.unstopped.ensures
