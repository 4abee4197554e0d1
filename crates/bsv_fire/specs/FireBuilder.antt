-- The net as it grows, by urgency: an element comes after all that are more urgent, so the nodes of all calls that its
-- methods see are there already, and of all elements that stop it.
use Rattle.std.specs.Prelude.{ℕ, ◌+◌, nat_lt, Bool, true, false, cond, List, [], ◌∷◌, ◌++◌, map, length, replicate, slice_get, slice_set, Option, Some, None, option_map}
use Rattle.bsv_design.specs.declared.element.Call.{Call}
use Rattle.bsv_design.specs.declared.element.Element.{Element}
use Rattle.bsv_design.specs.declared.kind.Kind.{Kind}
use Rattle.bsv_design.specs.parts.Kinds.{kind_table}
use Rattle.bsv_design.specs.design.Roles.{is_rule}
use Rattle.bsv_graph.specs.Edges.{numbers_below}
use Rattle.bsv_net.specs.declared.node.NetNode.{NetNode}
use Rattle.bsv_net.specs.declared.node.Site.{Site}
use Rattle.bsv_net.specs.declared.wires.MethodPort.{MethodPort}
use Rattle.bsv_net.specs.Placing.{Placed, both, either, negated, node_at}
use Rattle.bsv_ports.specs.CallSites.{or_none}
use Rattle.bsv_fire.specs.Bodies.{Ports, guards, body, all_of, sites, truths}
use Rattle.bsv_fire.specs.Grounds.{Ground}
use Rattle.bsv_ports.specs.Ports.{PlacedAll, PlacedPort, port}

-- the net so far
pub record FireBuilder : Type 0 where
  pub nodes : List NetNode
  -- the methods that are seen, of each part
  pub ports : Ports
  -- of each element the bit that is 1 where one that fires stops it, if there is one
  pub stoppers : List (Option ℕ)
  -- of each element the nodes that tell whether it fires, whether it is ready, and what it gives; and those of its calls
  pub fires : List ℕ
  pub readies : List ℕ
  pub results : List (Option ℕ)
  pub sites : List (List Site)

-- ---- methods that are seen

-- there is such a method, and its nodes are not placed yet
abbrev pub is_open : Ports → ℕ → ℕ → Bool
is_open ports i m = of (slice_get (or_none (slice_get ports i)) m) where
  of : Option (Option MethodPort) → Bool
  of (Some None) = true
  of _ = false

abbrev pub with_port : FireBuilder → ℕ → ℕ → PlacedPort → FireBuilder
with_port x i m p = record {
  nodes = p.nodes;
  ports = slice_set x.ports i (slice_set (or_none (slice_get x.ports i)) m (Some p.port));
  stoppers = x.stoppers;
  fires = x.fires;
  readies = x.readies;
  results = x.results;
  sites = x.sites;
}

-- with other nodes
abbrev pub at_nodes : FireBuilder → List NetNode → FireBuilder
at_nodes x ns = record {
  nodes = ns;
  ports = x.ports;
  stoppers = x.stoppers;
  fires = x.fires;
  readies = x.readies;
  results = x.results;
  sites = x.sites;
}

-- ---- bits

-- where the first one is 1 and the other one, if there is one, is not
abbrev pub unless : Placed → Option ℕ → Placed
unless p None = p
unless p (Some stopper) = of (negated p.nodes stopper) where
  of : Placed → Placed
  of q = both q.nodes p.place q.place

abbrev pub flattened : Option (Option ℕ) → Option ℕ
flattened None = None
flattened (Some o) = o

-- an element whose firing this node tells stops one that these stop so far
abbrev pub with_stopper : ℕ → List NetNode → Option ℕ → Placed
with_stopper fire ns None = record { nodes = ns; place = fire }
with_stopper fire ns (Some stopper) = either ns stopper fire

pub record Stopping : Type 0 where
  pub nodes : List NetNode
  pub stoppers : List (Option ℕ)

unfoldable pub all_stopped : ℕ → List NetNode → List (Option ℕ) → List ℕ → Stopping
all_stopped fire ns stoppers [] = record { nodes = ns; stoppers = stoppers }
all_stopped fire ns stoppers (n ∷ more) =
    all_stopped fire (with_stopper fire ns (flattened (slice_get stoppers n))).nodes
    (slice_set stoppers n (Some (with_stopper fire ns (flattened (slice_get stoppers n))).place)) more

module _ (g : Ground) where
  -- ---- methods that are seen

  -- the nodes of a method of a part, unless they are there
  abbrev pub with_method : Kind → ℕ → ℕ → FireBuilder → FireBuilder
  with_method k i m x =
      cond (is_open x.ports i m)
      (with_port x i m (port (kind_table k) g.base.none x.fires x.sites m x.nodes (or_none (slice_get g.call_sites i)))) x

  -- those of these methods that this one sees
  unfoldable pub with_seen : Kind → ℕ → ℕ → FireBuilder → List ℕ → FireBuilder
  with_seen k i y x [] = x
  with_seen k i y x (m ∷ ms) =
      with_seen k i y (cond ((kind_table k).sees m y) (with_method k i m x) x) ms

  abbrev pub with_seen_in : Option Kind → ℕ → ℕ → FireBuilder → FireBuilder
  with_seen_in None i y x = x
  with_seen_in (Some k) i y x =
      cond (nat_lt y (kind_table k).methods) (with_seen k i y x (numbers_below (kind_table k).methods)) x

  -- all that are seen by the methods of these calls
  unfoldable pub with_ports : FireBuilder → List Call → FireBuilder
  with_ports x [] = x
  with_ports x (c ∷ cs) = with_ports (with_seen_in (slice_get g.base.kinds c.part) c.part c.method x) cs

  -- ---- one element

  -- the nodes of its body
  abbrev pub element_body : FireBuilder → ℕ → Element → PlacedAll
  element_body x n e = body g.base x.ports (node_at g.inputs n) e.calls [] x.nodes e.nodes

  -- the bit that is 1 where it is ready: where each guard that it needs and each of its conditions holds
  abbrev pub element_ready : FireBuilder → ℕ → Element → List ℕ → Placed
  element_ready x n e places = of (guards g.base x.ports e.calls x.nodes [] (or_none (slice_get g.needs n))) where
    of : PlacedAll → Placed
    of gs = all_of (g.base.none + 1) gs.nodes (gs.places ++ truths places e.conditions)

  abbrev pub asked_and : List NetNode → ℕ → Element → ℕ → Placed
  asked_and ns n e ready =
      cond (is_rule e.role) (record { nodes = ns; place = ready }) (both ns (node_at g.inputs n + length e.arguments) ready)

  -- the bit that is 1 where it fires: it is asked, or a rule, and ready, and no one that fires stops it
  abbrev pub element_fire : FireBuilder → ℕ → Element → ℕ → Placed
  element_fire x n e ready = unless (asked_and x.nodes n e ready) (flattened (slice_get x.stoppers n))

  -- what the net tells of it is kept, for those after it
  abbrev pub kept : FireBuilder → ℕ → Element → List ℕ → ℕ → ℕ → FireBuilder
  kept x n e places ready fire = of (all_stopped fire x.nodes x.stoppers (or_none (slice_get g.stops n))) where
    of : Stopping → FireBuilder
    of z = record {
      nodes = z.nodes;
      ports = x.ports;
      stoppers = z.stoppers;
      fires = slice_set x.fires n fire;
      readies = slice_set x.readies n ready;
      results = slice_set x.results n (option_map (node_at places) e.result);
      sites = slice_set x.sites n (sites places e.calls);
    }

  abbrev pub with_fire : FireBuilder → ℕ → Element → List ℕ → ℕ → Placed → FireBuilder
  with_fire x n e places ready f = kept (at_nodes x f.nodes) n e places ready f.place

  abbrev pub with_ready : FireBuilder → ℕ → Element → List ℕ → Placed → FireBuilder
  with_ready x n e places r = with_fire x n e places r.place (element_fire (at_nodes x r.nodes) n e r.place)

  abbrev pub with_body : FireBuilder → ℕ → Element → PlacedAll → FireBuilder
  with_body x n e b = with_ready x n e b.places (element_ready (at_nodes x b.nodes) n e b.places)

  abbrev pub placed : FireBuilder → ℕ → Element → FireBuilder
  placed x n e = with_body x n e (element_body x n e)

  -- it is in the net, too
  unfoldable pub with_element : FireBuilder → ℕ → Element → FireBuilder
  with_element x n e = placed (with_ports x e.calls) n e

  abbrev pub with_number : FireBuilder → ℕ → Option Element → FireBuilder
  with_number x n None = x
  with_number x n (Some e) = with_element x n e

  -- ---- all elements

  -- these elements are in the net, too, one after the other
  unfoldable pub grown : FireBuilder → List ℕ → FireBuilder
  grown x [] = x
  grown x (n ∷ ns) = grown (with_number x n (slice_get g.elements n)) ns

-- ---- no element is there yet

abbrev pub no_ports : List Kind → Ports
no_ports ks = map (λ k. replicate (kind_table k).methods None) ks

abbrev pub none_placed : List Kind → ℕ → List NetNode → FireBuilder
none_placed ks count ns = record {
  nodes = ns;
  ports = no_ports ks;
  stoppers = replicate count None;
  fires = replicate count 0;
  readies = replicate count 0;
  results = replicate count None;
  sites = replicate count [];
}
