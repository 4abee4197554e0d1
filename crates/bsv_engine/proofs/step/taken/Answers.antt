use Rattle.std.proofs.Common.{◌∙◌, ◌≤◌, ap, arith, sym, get_or, subst}
use Rattle.std.proofs.lemmas.List.{length_push}
use Rattle.bsv_engine.proofs.Standing.{stand_more}
use Rattle.bsv_engine.proofs.step.taken.Goals as goal

pub loop-place-preserved : goal.loop-place-preserved
loop-place-preserved g c =
    let pushed = c.in_ok-push.ensures.ok in
    let count = c.loop-place.invariant.count in
    let node = c.index-nodes-place.result in
    rw pushed (record {
      stand = stand_more g.S.Step.right g.S.Step.stands_for c.args.before.now c.args.own.now c.args.nodes.now c.loop-place.steps c.in-Some.step node c.loop-place.invariant.stand c.requires (omega arith)
          (c.index-nodes-place.is ∙ ap (λ k. get_or c.args.nodes.now k node) (sym count)) c.in-Some.ensures.0 c.in-Some.ensures.1
          (subst (λ k. get_or c.args.own.now k 0 ≤ 64) (sym count) c.if-own-place-gt64.false);
      count = length_push c.loop-place.steps c.in-Some.step ∙ omega arith;
    })
