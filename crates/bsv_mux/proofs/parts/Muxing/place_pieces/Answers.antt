use Rattle.std.proofs.Common.{◌∙◌, ◌++◌, ◌∷◌, [], ℕ, List, sym, ap, ap₂}
use Rattle.bsv_design.specs.parts.Kinds.{kind_table}
use Rattle.bsv_ports.specs.Ports.{PlacedAll}
use Rattle.bsv_net.specs.AtHand.{wires}
use Rattle.bsv_net.specs.declared.node.NetNode.{NetNode}
use Rattle.bsv_mux.specs.AtHand as hand
use Rattle.bsv_mux.proofs.Onward.{one_piece, pieces_more}
use Rattle.bsv_mux.proofs.parts.Muxing.place_pieces.Goals as goal

pub loop-number-preserved : goal.loop-number-preserved
loop-number-preserved c =
    let t = kind_table c.args.kind.now in
    let w = wires c.args.found in
    let n = c.loop-number.number in
    let pushed = c.in_ok-push.ensures.ok ∙ ap (λ (k : ℕ). c.loop-number.nexts ++ k ∷ []) c.in_ok-place.ensures.place in
    pieces_more (hand.told c.args.self) t w c.args.nodes.now c.args.nexts.now n
    ∙ (ap (λ (p : PlacedAll). one_piece t w p n) c.loop-number.invariant
    ∙ ap₂ (λ (ns : List NetNode) (ps : List ℕ). record { nodes = ns; places = ps }) (sym c.in_ok-place.ensures.nodes) (sym pushed))
