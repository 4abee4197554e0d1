use Rattle.std.proofs.Common.{◌≡◌, ◌∙◌, ℕ, List, [], map, refl, sym, ap, subst}
use Rattle.std.proofs.lemmas.Option.{slice_get_read}
use Rattle.bsv_lemmas.proofs.Places.{take_one}
use Rattle.bsv_bits.specs.Words.{Bits}
use Rattle.bsv_design.specs.design.Bodies.{at}
use Rattle.bsv_net.specs.declared.node.NetNode.{NetNode}
use Rattle.bsv_net.specs.Placing.{node_at}
use Rattle.bsv_share.specs.Folding.{Folds, Placed, none, more}
use Rattle.bsv_share.specs.Keys.{key_of}
use Rattle.bsv_share.specs.Operands.{first_operand, renamed}
use Rattle.bsv_share.proofs.fold.fold_nodes.Goals as goal

pub loop-node-init : goal.loop-node-init
loop-node-init c = record {
  keyed = c.new-2.ensures.empty ∙ ap (map key_of) (sym c.new.ensures);
  folds =
      subst (λ (ps : List ℕ). Folds c.args.words.now [] c.new.result ps) (sym c.new-places.ensures)
      (subst (λ (ns : List NetNode). Folds c.args.words.now [] ns []) (sym c.new.ensures) none);
}

pub loop-node-preserved : goal.loop-node-preserved
loop-node-preserved c =
    let vs : List Bits = c.args.words.now in
    let xs = c.args.nodes.now in
    let i = c.loop-node.node-index in
    let x : NetNode = c.node-item.result in
    let ys : List NetNode = c.loop-node.folding.nodes in
    let zs : List NetNode = c.place.new.self.nodes in
    let places : List ℕ = c.loop-node.places in
    let place = c.in_ok-place.place in
    let there = slice_get_read xs _ i x refl c.loop-node-test.true c.node-item.is in
    let width : c.width-width.result ≡ (at vs (first_operand x)).width =
    c.width-width.ensures.width ∙ ap (λ (w : Bits). w.width) (c.word_at.ensures ∙ ap (at vs) c.first_operand.ensures) in
    let node : c.renamed-node.result ≡ renamed (node_at places) x = c.renamed-node.ensures ∙ ap (λ (ps : List ℕ). renamed (node_at ps) x) c.as_slice.ensures in
    let placed : Placed ys (at vs (first_operand x)).width (renamed (node_at places) x) zs place =
    subst (λ (u : ℕ). Placed ys u (renamed (node_at places) x) zs place) width
    (subst (λ (y : NetNode). Placed ys c.width-width.result y zs place) node c.in_ok-place.ensures.placed) in
    record {
      keyed = c.in_ok-place.ensures.keyed;
      folds = more x place c.loop-node.invariant.folds (take_one xs i x there) c.in_ok-push.ensures.ok placed;
    }
