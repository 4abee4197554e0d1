-- The nodes of a method of a part: whether it is called in a clock, and the arguments of its last call. Of the call sites of
-- the method, each is live where its element fires and its arms are taken; the last live one gives the arguments.
use Rattle.std.specs.Prelude.{ℕ, ◌==◌, List, [], ◌∷◌, ◌++◌, slice_get, Option, Some, None, if◌then◌else◌}
use Rattle.bsv_bits.specs.Words.{zero_word}
use Rattle.bsv_prim.specs.Table.{Table}
use Rattle.bsv_design.specs.declared.kind.Kind.{Kind}
use Rattle.bsv_design.specs.parts.Kinds.{kind_table}
use Rattle.bsv_graph.specs.Edges.{numbers_below}
use Rattle.bsv_net.specs.declared.node.NetNode.{NetNode}
use Rattle.bsv_net.specs.declared.node.NetNode.TheVariants as net
use Rattle.bsv_net.specs.declared.node.Site.{Site}
use Rattle.bsv_net.specs.declared.wires.MethodPort.{MethodPort}
use Rattle.bsv_net.specs.Placing.{Placed, add, both, either, node_at}
use Rattle.bsv_ports.specs.declared.call_sites.CallSite.{CallSite}

-- how many arguments a method of a kind has
abbrev pub arity_of : Option Kind → ℕ → ℕ
arity_of None m = 0
arity_of (Some k) m = (kind_table k).arity m

-- the nodes, and places among them
pub record PlacedAll : Type 0 where
  pub nodes : List NetNode
  pub places : List ℕ

-- the nodes, and those of a method
pub record PlacedPort : Type 0 where
  pub nodes : List NetNode
  pub port : MethodPort

-- and those of a method that is called at some site so far, if there is one
pub record PlacedSoFar : Type 0 where
  pub nodes : List NetNode
  pub port : Option MethodPort

-- ---- the last live call

-- one word for each argument, the first one where the bit is 1
unfoldable pub all_picked : List NetNode → ℕ → List ℕ → List ℕ → List ℕ → PlacedAll
all_picked ns live so_far (a ∷ firsts) (b ∷ seconds) =
    all_picked (add ns (net.Pick live a b)).nodes live (so_far ++ (add ns (net.Pick live a b)).place ∷ []) firsts seconds
all_picked ns live so_far _ _ = record { nodes = ns; places = so_far }

-- one more call site, after those so far
abbrev pub merged : List NetNode → Option MethodPort → ℕ → List ℕ → PlacedPort
merged ns None live args = record { nodes = ns; port = record { called = live; args = args } }
merged ns (Some port) live args = of (either ns port.called live) where
  behind : ℕ → PlacedAll → PlacedPort
  behind called p = record { nodes = p.nodes; port = record { called = called; args = p.places } }

  of : Placed → PlacedPort
  of p = behind p.place (all_picked p.nodes live [] args port.args)

-- the nodes of the call at a call site, where its element is in the net already
abbrev pub site_in : Option (List Site) → ℕ → Option Site
site_in None n = None
site_in (Some sites) n = slice_get sites n

abbrev pub site_at : List (List Site) → CallSite → Option Site
site_at sites s = site_in (slice_get sites s.element) s.call

module _ (fires : List ℕ) (sites : List (List Site)) (method : ℕ) where
  abbrev live_port : List NetNode → Option MethodPort → CallSite → Site → PlacedPort
  live_port ns o s x = of (both ns (node_at fires s.element) x.taken) where
    of : Placed → PlacedPort
    of p = merged p.nodes o p.place x.args

  abbrev at_site : List NetNode → Option MethodPort → CallSite → Option Site → PlacedSoFar
  at_site ns o s None = record { nodes = ns; port = o }
  at_site ns o s (Some x) = of (live_port ns o s x) where
    of : PlacedPort → PlacedSoFar
    of p = record { nodes = p.nodes; port = Some p.port }

  -- a call site, where it calls the method
  abbrev pub at_call_site : List NetNode → Option MethodPort → CallSite → PlacedSoFar
  at_call_site ns o s = if s.method == method then at_site ns o s (site_at sites s) else record { nodes = ns; port = o }

  -- these call sites, one after the other
  unfoldable pub at_call_sites : List NetNode → Option MethodPort → List CallSite → PlacedSoFar
  at_call_sites ns o [] = record { nodes = ns; port = o }
  at_call_sites ns o (s ∷ ss) = at_call_sites (at_call_site ns o s).nodes (at_call_site ns o s).port ss

-- ---- a method that is called nowhere

abbrev zero : List NetNode → ℕ → Placed
zero ns width = add ns (net.Constant (zero_word width))

-- a word that is 0 for each of these arguments
unfoldable pub zeros : Table → ℕ → List NetNode → List ℕ → List ℕ → PlacedAll
zeros t method ns so_far [] = record { nodes = ns; places = so_far }
zeros t method ns so_far (k ∷ ks) =
    zeros t method (zero ns (t.argument_width method k)).nodes (so_far ++ (zero ns (t.argument_width method k)).place ∷ []) ks

abbrev pub all_zeros : Table → ℕ → List NetNode → PlacedAll
all_zeros t method ns = zeros t method ns [] (numbers_below (t.arity method))

abbrev pub or_never : Table → ℕ → ℕ → PlacedSoFar → PlacedPort
or_never t none method p = of p.port where
  never : PlacedAll → PlacedPort
  never z = record { nodes = z.nodes; port = record { called = none; args = z.places } }

  of : Option MethodPort → PlacedPort
  of (Some port) = record { nodes = p.nodes; port = port }
  of None = never (all_zeros t method p.nodes)

-- ---- the nodes of a method, from the call sites on its part; this node is 0
unfoldable pub port : Table → ℕ → List ℕ → List (List Site) → ℕ → List NetNode → List CallSite → PlacedPort
port t none fires sites method ns ss = or_never t none method (at_call_sites fires sites method ns None ss)
