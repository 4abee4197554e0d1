use Rattle.std.proofs.Common.{◌∙◌, ap, arith}
use Rattle.std.proofs.Math.ListN.{set}
use Rattle.bsv_engine.proofs.Written.{written}
use Rattle.bsv_engine.proofs.step.run.Goals as goal

pub loop-place-preserved : goal.loop-place-preserved
loop-place-preserved g c =
    ap (λ w. set c.loop-place.rest c.loop-place.place w) c.word.ensures
    ∙ written (g.S.Step.number c.args.seen.now) c.args.steps.now c.args.rest.now c.loop-place.rest c.loop-place.place c.index-steps-place.result
    (omega arith) c.requires.room c.index-steps-place.is c.loop-place.invariant
