use Rattle.std.proofs.Common.{◌≡◌, ◌∙◌, length, get_or, take, sym, ap, arith, refl}
use Rattle.std.specs.Prelude.{slice_get, Some, List}
use Rattle.std.proofs.lemmas.Option.{slice_get_read}
use Rattle.bsv_bits.specs.Words.{Bits}
use Rattle.bsv_design.specs.design.Bodies.{at}
use Rattle.bsv_net.specs.Equations.{computed}
use Rattle.bsv_engine.specs.Codes.{all_kept}
use Rattle.bsv_engine.proofs.Keeping.{kept_is, all_kept_are, keeps_more}
use Rattle.bsv_engine.proofs.running.single.Goals as goal

pub returns : goal.returns
returns c = λ ws solved before.
    let given = c.args.given in
    let us = given.widths.now in
    let ns = c.args.narrow.now in
    let vs = c.args.wide.now in
    let place = c.args.place in
    let node = c.index-given-place.result in
    let long = solved.long in
    let here : slice_get given.nodes.now place ≡ Some node = slice_get_read given.nodes.now (length given.nodes.now) place node refl c.requires.there c.index-given-place.is in
    let so_far = all_kept_are place us ns vs ws (omega arith) (omega arith) (omega arith) (omega arith)
    (λ k l. kept_is (get_or us k 0) (get_or ns k 0) (get_or vs k 0) (at ws k) (solved.fits k (omega arith)) (before k l)) in
    let word : c.word-word.result ≡ at ws place =
    c.word-word.ensures
    ∙ ap (computed given.inputs.now given.registers.now (at (all_kept (take place us) (take place ns) (take place vs)))) (sym c.index-given-place.is)
    ∙ ap (λ (l : List Bits). computed given.inputs.now given.registers.now (at l) node) so_far
    ∙ sym (solved.words place node here) in
    rw (c.keep.ensures.narrow, c.keep.ensures.wide)
    (keeps_more us ns vs ws place c.word-word.result (omega arith) (omega arith) (omega arith) (solved.fits place (omega arith)) word before)
