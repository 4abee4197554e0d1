use Rattle.std.proofs.Common.{◌∙◌}
use Rattle.bsv_body.proofs.Steps.{picks_more}
use Rattle.bsv_body.proofs.choices.picks.Goals as goal

pub loop-one-preserved : goal.loop-one-preserved
loop-one-preserved c =
    c.loop-one.invariant
    ∙ picks_more c.args.test c.loop-one.found c.push.new.self c.loop-one.left.now c.loop-one.right.now c.in-Some.one.now c.in-Some-split_first.other.now c.in_ok-node.node
    c.in-Some.ones.now c.in-Some-split_first.others.now c.loop-one.state c.put.new.state c.in-Some.ensures.cases.0 c.in-Some-split_first.ensures.cases.0 c.in_ok-node.ensures c.in_ok-push.ensures.ok
