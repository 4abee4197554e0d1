use Rattle.std.proofs.Common.{get_or, subst, sym}
use Rattle.std.proofs.lemmas.Option.{slice_get-get_or}
use Rattle.bsv_bits.specs.Words.{Bits}
use Rattle.bsv_prim.specs.Table.{IsWordOf}
use Rattle.bsv_prim.specs.WireKinds.{zero_is_word}
use Rattle.bsv_share.proofs.InputsFit.{input_fits}
use Rattle.bsv_share.proofs.SomeWords.{have_more}
use Rattle.bsv_share.proofs.fold.input_words.Goals as goal

pub zero-requires : goal.zero-requires
zero-requires c =
    let h = input_fits c.args.inputs.now c.loop-width.width-index c.requires c.loop-width-test.true in
    record { some = h.0; most = h.1 }

pub loop-width-preserved : goal.loop-width-preserved
loop-width-preserved c =
    let us = c.args.inputs.now in
    let i = c.loop-width.width-index in
    let u = get_or us i 0 in
    let h = input_fits us i c.requires c.loop-width-test.true in
    let fits : IsWordOf u c.zero.result = subst (λ (w : Bits). IsWordOf u w) (sym c.zero.ensures) (zero_is_word u h.0 h.1) in
    have_more us c.loop-width.words.items c.push.new.self.items i u c.zero.result (slice_get-get_or us i 0 c.loop-width-test.true)
    c.loop-width.invariant fits c.in_ok-push.ensures.items
