use Rattle.std.proofs.Common.{◌≡◌, ◌∙◌, ◌<◌, ◌-◌, ℕ, Bool, List, Some, length, true, sym, ap, refl, arith}
use Rattle.std.specs.Prelude.{slice_get}
use Rattle.std.proofs.lemmas.Option.{slice_get_read}
use Rattle.bsv_net.specs.declared.node.NetNode.{NetNode}
use Rattle.bsv_net.specs.AtHand.{net_data}
use Rattle.bsv_share.specs.Ordering.{is_marked}
use Rattle.bsv_share.proofs.Marks.{reads_reached}
use Rattle.bsv_share.proofs.order.needed.Goals as goal

pub loop-place-preserved-then-is_marked : goal.loop-place-preserved-then-is_marked
loop-place-preserved-then-is_marked c =
    let nodes : List NetNode = c.as_slice-nodes.result.now in
    let x : NetNode = c.index-nodes-place.result in
    let place : ℕ = c.loop-place.place - 1 in
    let below : place < length nodes = omega (arith, c.loop-place-test.true, c.loop-place.auto.place) in
    let there : slice_get c.args.net.now.nodes place ≡ Some x =
    ap (λ (ns : List NetNode). slice_get ns place) (sym c.as_slice-nodes.ensures) ∙ slice_get_read nodes _ place x refl below c.index-nodes-place.is in
    let marked : is_marked c.loop-place.marks place ≡ true =
    ap (λ (bs : List Bool). is_marked bs place) (sym c.as_slice.ensures) ∙ (sym c.is_marked.ensures ∙ c.if-is_marked.true) in
    reads_reached (net_data c.args.net.now) c.loop-place.marks c.mark_operands.new.marks place x c.loop-place.invariant marked there c.mark_operands.ensures
