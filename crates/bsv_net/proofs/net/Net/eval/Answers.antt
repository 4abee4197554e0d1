use Rattle.std.proofs.Common.{◌∙◌, ◌++◌, ◌∷◌, ◌<◌, [], length, List, refl, sym, ap, ap₂, arith}
use Rattle.std.specs.Prelude.{slice_get}
use Rattle.std.proofs.Math.ListN.{length-set}
use Rattle.std.proofs.lemmas.List.{take_more_set}
use Rattle.std.proofs.lemmas.Option.{slice_get_read}
use Rattle.bsv_bits.specs.Words.{Bits}
use Rattle.bsv_design.specs.design.Bodies.{at}
use Rattle.bsv_net.specs.declared.node.NetNode.{NetNode}
use Rattle.bsv_net.specs.Equations.{computed}
use Rattle.bsv_net.proofs.Evaluating.{words_none, net_word}
use Rattle.bsv_net.proofs.net.Net.eval.Goals as goal

pub loop-place-init : goal.loop-place-init
loop-place-init c = record { long = c.requires.values; words = sym (words_none c.args.inputs.now c.args.registers.now) }

pub loop-place-preserved : goal.loop-place-preserved
loop-place-preserved c =
    let net = c.args.self.now in
    let registers = c.args.registers.now in
    let inputs = c.args.inputs.now in
    let place = c.loop-place.place in
    let node = c.index-nodes-place.result in
    let invariant = c.loop-place.invariant in
    let here = ap (λ (ns : List NetNode). slice_get ns place) (sym c.as_slice-nodes.ensures) ∙ slice_get_read c.as_slice-nodes.result.now _ place node refl c.loop-place-test.true c.index-nodes-place.is in
    let within : place < length c.loop-place.values = omega (arith, ap length c.as_slice-nodes.ensures, invariant.long, c.loop-place-test.true) in
    record {
      long = length-set c.loop-place.values place c.node_word-word.result ∙ invariant.long;
      words = take_more_set c.loop-place.values place c.node_word-word.result within
          ∙ ap₂ (λ (ws : List Bits) (w : Bits). ws ++ w ∷ []) invariant.words (c.node_word-word.ensures ∙ ap (λ (ws : List Bits). computed inputs registers (at ws) node) invariant.words)
          ∙ sym (net_word net inputs registers c.requires.inputs place node here);
    }
