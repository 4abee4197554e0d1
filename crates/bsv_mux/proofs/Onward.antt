-- What goes through the numbers below a number: how it goes on with one more.
use Rattle.std.proofs.Common.{◌≡◌, ◌∙◌, ℕ, ◌+◌, List, [], ◌∷◌, ◌++◌, Option, Some, refl, ap}
use Rattle.bsv_graph.specs.Edges.{numbers_below}
use Rattle.bsv_prim.specs.Table.{Table}
use Rattle.bsv_net.specs.declared.node.NetNode.{NetNode}
use Rattle.bsv_net.specs.declared.wires.MethodPort.{MethodPort}
use Rattle.bsv_net.specs.Placing.{Wires, piece}
use Rattle.bsv_ports.specs.declared.call_sites.CallSite.{CallSite}
use Rattle.bsv_ports.specs.Ports.{PlacedAll, port}
use Rattle.bsv_mux.specs.Nexts.{Told, PlacedPorts, ports, pieces}
use Rattle.bsv_graph.proofs.Below.{numbers_more}

-- ---- methods of a part

abbrev pub one_port : Told → Table → List CallSite → PlacedPorts → ℕ → PlacedPorts
one_port x t ss p m = record {
  nodes = (port t x.none x.fires x.sites m p.nodes ss).nodes;
  ports = p.ports ++ Some (port t x.none x.fires x.sites m p.nodes ss).port ∷ [];
}

ports_after : (x : Told) (t : Table) (ss : List CallSite) (ns : List NetNode) (so_far : List (Option MethodPort)) (ms : List ℕ) (m : ℕ)
    → ports x t ss ns so_far (ms ++ m ∷ []) ≡ one_port x t ss (ports x t ss ns so_far ms) m
unfolding ports
ports_after x t ss ns so_far [] m = refl
ports_after x t ss ns so_far (n ∷ ms) m =
    let p = one_port x t ss (record { nodes = ns; ports = so_far }) n in
    ports_after x t ss p.nodes p.ports ms m

pub ports_more : (x : Told) (t : Table) (ss : List CallSite) (ns : List NetNode) (so_far : List (Option MethodPort)) (n : ℕ)
    → ports x t ss ns so_far (numbers_below (n + 1)) ≡ one_port x t ss (ports x t ss ns so_far (numbers_below n)) n
ports_more x t ss ns so_far n =
    ap (ports x t ss ns so_far) (numbers_more n) ∙ ports_after x t ss ns so_far (numbers_below n) n

-- ---- next words of a part

abbrev pub one_piece : Table → Wires → PlacedAll → ℕ → PlacedAll
one_piece t w p r = record {
  nodes = (piece w p.nodes (t.next_piece r)).nodes;
  places = p.places ++ (piece w p.nodes (t.next_piece r)).place ∷ [];
}

pieces_after : (x : Told) (t : Table) (w : Wires) (ns : List NetNode) (so_far : List ℕ) (rs : List ℕ) (r : ℕ)
    → pieces x t w ns so_far (rs ++ r ∷ []) ≡ one_piece t w (pieces x t w ns so_far rs) r
unfolding pieces
pieces_after x t w ns so_far [] r = refl
pieces_after x t w ns so_far (n ∷ rs) r =
    let p = one_piece t w (record { nodes = ns; places = so_far }) n in
    pieces_after x t w p.nodes p.places rs r

pub pieces_more : (x : Told) (t : Table) (w : Wires) (ns : List NetNode) (so_far : List ℕ) (n : ℕ)
    → pieces x t w ns so_far (numbers_below (n + 1)) ≡ one_piece t w (pieces x t w ns so_far (numbers_below n)) n
pieces_more x t w ns so_far n =
    ap (pieces x t w ns so_far) (numbers_more n) ∙ pieces_after x t w ns so_far (numbers_below n) n
