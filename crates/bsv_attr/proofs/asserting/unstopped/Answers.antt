use Rattle.std.proofs.Common.{arith, below_more}
use Rattle.bsv_attr.proofs.Rules.{names_stopped, unstopped_unmarked, all_unstopped}
use Rattle.bsv_attr.proofs.asserting.unstopped.Goals as goal
use Rattle.bsv_attr.proofs.asserting.unstopped.Goals.{then-is_marked+in_default, else-is_marked}

pub returns-in-Some : goal.returns-in-Some
returns-in-Some c =
    names_stopped c.args.design.now c.args.schedule.now c.loop-rule.rule c.in-Some.stopper c.as_slice-marks.result.now c.as_slice-marks.ensures
    (c.is_marked.ensures.0 c.if-is_marked.true) c.in-Some.ensures c.loop-rule.invariant

pub loop-rule-preserved : goal.loop-rule-preserved
loop-rule-preserved c =
    let d = c.args.design.now in
    let s = c.args.schedule.now in
    elim c.if-is_marked.branch [
      | then-is_marked+in_default w ↦ below_more _ _ c.loop-rule.invariant (λ m. w.in_default.ensures)
      | else-is_marked w ↦ below_more _ _ c.loop-rule.invariant (unstopped_unmarked d s c.loop-rule.rule c.as_slice-marks.result.now c.as_slice-marks.ensures
          (λ m. let found = c.is_marked.ensures.1 m in let lost = w.if-is_marked.false in cc))
    ]

pub returns : goal.returns
returns c = all_unstopped c.args.design.now c.args.schedule.now c.loop-rule.rule (omega arith) c.loop-rule.invariant
