use Rattle.std.proofs.Common.{◌∙◌, List, sym, ap}
use Rattle.bsv_body.specs.declared.choices.Given.{Given}
use Rattle.bsv_body.specs.declared.choices.Head.{Head}
use Rattle.bsv_body.specs.declared.state.State.{State}
use Rattle.bsv_body.specs.Flat.{join_all, joined}
use Rattle.bsv_body.proofs.Joins.{joined_none, joins_more}
use Rattle.bsv_body.proofs.choices.join_all.Goals as goal

pub loop-head-preserved : goal.loop-head-preserved
loop-head-preserved c =
    let l = c.loop-head in
    l.invariant
    ∙ joins_more l.heads c.pop.new.self c.in-Some.head l.arms c.in_ok-arms-2.arms l.state c.join_one.new.state c.in-Some.ensures c.in_ok-arms-2.ensures

pub returns : goal.returns
returns c =
    let l = c.loop-head in
    let arms : Given × State = (joined l.arms, l.state) in
    l.invariant
    ∙ ap (λ (hs : List Head). join_all hs arms) c.in_default.ensures.0
    ∙ joined_none arms
    ∙ ap (λ (d : Given). let one : Given × State = (d, l.state) in one) (sym c.in_ok-joined.ensures)
