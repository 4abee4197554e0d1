use Rattle.std.proofs.Common.{◌∙◌, ◌++◌, ◌∷◌, [], List, sym, ap, ap₂, subst}
use Rattle.bsv_bits.specs.Words.{Bits}
use Rattle.bsv_design.specs.design.Bodies.{node_word, words_after}
use Rattle.bsv_serial.specs.AtHand as hand
use Rattle.bsv_serial.specs.Bodies.{HasOperands}
use Rattle.bsv_serial.proofs.Computing.{values_more, operands_at}
use Rattle.bsv_serial.proofs.Lists.{item_at}
use Rattle.bsv_serial.proofs.body.Body.compute.Goals as goal

pub loop-node-init : goal.loop-node-init
unfolding words_after
loop-node-init c = c.clear.ensures.items

pub word-requires-clause-operands : goal.word-requires-clause-operands
word-requires-clause-operands c =
    let s = c.args.self in
    let e = s.element.now in
    let node = c.node-item.result in
    let here = item_at c.as_slice-node-items.result.now e.nodes c.loop-node.node-index node c.as_slice-node-items.ensures c.loop-node-test.true c.node-item.is in
    subst (λ (ws : List Bits). HasOperands (hand.body_kinds s) e.arguments e.calls ws node) (sym (c.as_slice.ensures.value ∙ c.loop-node.invariant))
    (operands_at (hand.body_kinds s) s.looks.state.now s.looks.calls_made.now e (hand.arguments s) c.requires.body c.loop-node.node-index node here)

pub loop-node-preserved : goal.loop-node-preserved
loop-node-preserved c =
    let s = c.args.self in
    let e = s.element.now in
    let node = c.node-item.result in
    let here = item_at c.as_slice-node-items.result.now e.nodes c.loop-node.node-index node c.as_slice-node-items.ensures c.loop-node-test.true c.node-item.is in
    let words = c.as_slice.ensures.value ∙ c.loop-node.invariant in
    c.in_ok-push.ensures.items
    ∙ ap₂ (λ (ws : List Bits) (w : Bits). ws ++ w ∷ []) c.loop-node.invariant
    (c.in_ok-word.ensures ∙ ap (λ (ws : List Bits). node_word (hand.body_answers s) (hand.arguments s) e.calls ws node) words)
    ∙ sym (values_more (hand.body_answers s) (hand.arguments s) e.calls e.nodes c.loop-node.node-index node here)
