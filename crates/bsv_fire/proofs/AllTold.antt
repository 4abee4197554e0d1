-- The net of a design up to its firing tells of all its elements.
use Rattle.std.proofs.Common.{List, length}
use Rattle.bsv_design.specs.scheme.Schemes.{kinds_of}
use Rattle.bsv_net.specs.declared.node.NetNode.{NetNode}
use Rattle.bsv_net.proofs.Grows.{Grows}
use Rattle.bsv_fire.specs.Grounds.{Ground}
use Rattle.bsv_fire.specs.FireBuilder.{grown, none_placed}
use Rattle.bsv_ports.proofs.Scene.{Scene}
use Rattle.bsv_fire.proofs.Frame.{IsGround, Tells}
use Rattle.bsv_fire.proofs.Grown.{PiecesTold, all_told}
use Rattle.bsv_fire.proofs.PiecesTold as pieces
use Rattle.bsv_ports.proofs.PortTold.{port_told}
use Rattle.bsv_fire.proofs.PortsPlaced.{PortsTold}
use Rattle.bsv_fire.proofs.Wired.{wired}

pub pieces_told : (z : Scene) (g : Ground) → IsGround z g → PiecesTold z g (wired z g.base)
pieces_told z g ground ports n sees = record {
  guard_told = λ t u ns grows. pieces.guard_told z g ground ports t (sees t u) n u ns grows;
  result_told = λ t u c args many ns grows. pieces.result_told z g ground ports t (sees t u) c args many ns grows;
  result_open = λ t u c words is_true reads fits. pieces.wired_open z g ground ports t (sees t u) c words is_true reads fits;
}

pub ports_told : (z : Scene) (g : Ground) → IsGround z g → PortsTold z g
ports_told z g ground = port_told z g.call_sites ground.call_sites g.base.none ground.none

pub net_told : (z : Scene) (g : Ground) → IsGround z g → (first : List NetNode)
    → Grows (grown g (none_placed (kinds_of z.b) (length z.b.elements) first) z.made.urgency).nodes z.full
    → Tells z (grown g (none_placed (kinds_of z.b) (length z.b.elements) first) z.made.urgency) z.made.urgency
net_told z g ground first = all_told z g ground (ports_told z g ground) (wired z g.base) (pieces_told z g ground) first
