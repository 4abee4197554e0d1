use Rattle.std.proofs.Common.{◌≡◌, ◌∙◌, ◌%◌, ◌^◌, get_or, ap, arith}
use Rattle.std.proofs.Math.ListN.{set}
use Rattle.std.proofs.lemmas.List.{get_or_default}
use Rattle.bsv_bits.specs.Words.{Bits}
use Rattle.bsv_engine.specs.Runs.{lower}
use Rattle.bsv_engine.proofs.Written.{written}
use Rattle.bsv_engine.proofs.step.load.Goals as goal

pub loop-next-preserved : goal.loop-next-preserved
loop-next-preserved c =
    let next = c.loop-next.next in
    let places = c.args.places.now in
    let place = get_or places next 0 in
    let word : c.low.result ≡ lower c.args.words.now place = c.low.ensures ∙ ap (λ (w : Bits). w.value % 2 ^ 64) c.word_at.ensures in
    ap (λ w. set c.loop-next.rest next w) word
    ∙ written (lower c.args.words.now) places c.args.rest.now c.loop-next.rest next place (omega arith) c.requires
    (get_or_default places next 0 place (omega arith)) c.loop-next.invariant
