use Rattle.std.proofs.Common.{ℕ, Bool, List, subst}
use Rattle.bsv_graph.specs.Orders.{In}
use Rattle.bsv_net.specs.AtHand.{net_data}
use Rattle.bsv_share.specs.Ordering.{MarksOnly}
use Rattle.bsv_share.proofs.Marks.{outputs_reached}
use Rattle.bsv_share.proofs.order.outputs.Goals as goal

pub returns : goal.returns
returns c =
    let a : List Bool = c.in_ok-marks.marks in
    let b : List Bool = c.mark_all.new.marks in
    let d : List Bool = c.mark_all-2.new.marks in
    let e : List Bool = c.mark_all-3.new.marks in
    let f : List Bool = c.mark_all-4.new.marks in
    outputs_reached (net_data c.args.net.now) a b d e f c.in_ok-marks.ensures
    (subst (λ (ns : List ℕ). MarksOnly (In ns) a b) c.as_slice.ensures c.mark_all.ensures)
    (subst (λ (ns : List ℕ). MarksOnly (In ns) b d) c.as_slice-2.ensures c.mark_all-2.ensures)
    (subst (λ (ns : List ℕ). MarksOnly (In ns) d e) c.as_slice-3.ensures c.mark_all-3.ensures)
    (subst (λ (ns : List ℕ). MarksOnly (In ns) e f) c.as_slice-4.ensures c.mark_all-4.ensures)
