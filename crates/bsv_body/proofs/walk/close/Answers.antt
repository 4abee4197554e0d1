use Rattle.bsv_body.proofs.Steps.{closed_as}
use Rattle.bsv_body.proofs.walk.close.Goals as goal

pub returns : goal.returns
returns c = closed_as c.args.count c.args.found c.args.state.now c.cut.new.state c.append.new.self c.cut.ensures c.in_ok-append.ensures
