-- The next words of the registers, as they are placed: of each part, its methods and then its registers' next pieces.
use Rattle.std.specs.Prelude.{◌≡◌, ℕ, ◌+◌, nat_lt, ◌==◌, cond, List, [], ◌∷◌, ◌++◌, map, length, slice_get, Option, Some, if◌then◌else◌}
use Rattle.bsv_bits.specs.Words.{bit}
use Rattle.std.specs.Prelude.{false}
use Rattle.bsv_prim.specs.Table.{Table}
use Rattle.bsv_design.specs.declared.kind.Kind.{Kind}
use Rattle.bsv_design.specs.declared.schedule.Schedule.{Schedule}
use Rattle.bsv_design.specs.design.Designs.{DesignData}
use Rattle.bsv_design.specs.parts.Kinds.{kind_table}
use Rattle.bsv_design.specs.scheme.Schemes.{kinds_of}
use Rattle.bsv_graph.specs.Edges.{numbers_below}
use Rattle.bsv_net.specs.declared.net_data.NetData.{NetData}
use Rattle.bsv_net.specs.declared.node.NetNode.{NetNode}
use Rattle.bsv_net.specs.declared.node.NetNode.TheVariants as net
use Rattle.bsv_net.specs.declared.node.Site.{Site}
use Rattle.bsv_net.specs.declared.wires.MethodPort.{MethodPort}
use Rattle.bsv_net.specs.AtHand.{wires_with}
use Rattle.bsv_net.specs.Placing.{Wires, node_at, piece}
use Rattle.bsv_ports.specs.declared.call_sites.CallSite.{CallSite}
use Rattle.bsv_ports.specs.CallSites.{or_none, all_call_sites}
use Rattle.bsv_ports.specs.Starts.{register_starts}
use Rattle.bsv_ports.specs.Ports.{PlacedAll, port}

-- what the next words are placed with: the nodes that tell which elements fire, those of their calls, and one that is 0
pub record Told : Type 0 where
  pub fires : List ℕ
  pub sites : List (List Site)
  pub none : ℕ

-- the nodes, and those of methods
pub record PlacedPorts : Type 0 where
  pub nodes : List NetNode
  pub ports : List (Option MethodPort)

module _ (x : Told) where
  -- these methods of a part
  unfoldable pub ports : Table → List CallSite → List NetNode → List (Option MethodPort) → List ℕ → PlacedPorts
  ports t ss ns so_far [] = record { nodes = ns; ports = so_far }
  ports t ss ns so_far (m ∷ ms) =
      ports t ss (port t x.none x.fires x.sites m ns ss).nodes (so_far ++ Some (port t x.none x.fires x.sites m ns ss).port ∷ []) ms

  abbrev pub all_ports : Table → List CallSite → List NetNode → PlacedPorts
  all_ports t ss ns = ports t ss ns [] (numbers_below t.methods)

  -- the next words of these registers, after those of others
  unfoldable pub pieces : Table → Wires → List NetNode → List ℕ → List ℕ → PlacedAll
  pieces t w ns so_far [] = record { nodes = ns; places = so_far }
  pieces t w ns so_far (r ∷ rs) =
      pieces t w (piece w ns (t.next_piece r)).nodes (so_far ++ (piece w ns (t.next_piece r)).place ∷ []) rs

  abbrev pub all_pieces : Table → Wires → List NetNode → List ℕ → PlacedAll
  all_pieces t w ns so_far = pieces t w ns so_far (numbers_below t.registers)

  abbrev over_ports : Table → ℕ → List ℕ → PlacedPorts → PlacedAll
  over_ports t start so_far p = all_pieces t (wires_with start p.ports t.methods []) p.nodes so_far

  -- those of a part, whose first register has this node
  unfoldable pub part_nexts : Kind → ℕ → List CallSite → List NetNode → List ℕ → PlacedAll
  part_nexts k start ss ns so_far =
      cond ((kind_table k).registers == 0) (record { nodes = ns; places = so_far })
      (over_ports (kind_table k) start so_far (all_ports (kind_table k) ss ns))

  -- those of the parts from this place on
  unfoldable pub nexts : List ℕ → List (List CallSite) → ℕ → List NetNode → List ℕ → List Kind → PlacedAll
  nexts starts call_sites i ns so_far [] = record { nodes = ns; places = so_far }
  nexts starts call_sites i ns so_far (k ∷ ks) =
      nexts starts call_sites (i + 1) (part_nexts k (node_at starts i) (or_none (slice_get call_sites i)) ns so_far).nodes
      (part_nexts k (node_at starts i) (or_none (slice_get call_sites i)) ns so_far).places ks

-- ---- the whole

-- the registers and a bit that is 0, after the nodes
abbrev pub with_registers : List NetNode → ℕ → List NetNode
with_registers ns count = ns ++ (map net.Register (numbers_below count) ++ (net.Constant (bit false) ∷ []))

-- what gives nothing names the number of nodes
abbrev pub renamed : ℕ → ℕ → ℕ → ℕ
renamed before behind n = if nat_lt n before then n else behind

module _ (b : DesignData) (made : Schedule) (c : NetData) where
  abbrev pub told : Told
  told = record { fires = c.fires; sites = c.sites; none = length c.nodes + length c.registers }

  unfoldable pub next_words : PlacedAll
  next_words =
      nexts told (register_starts (length c.nodes) (kinds_of b)) (all_call_sites (kinds_of b) b.elements made.execution) 0
      (with_registers c.nodes (length c.registers)) [] (kinds_of b)

  -- the net with the next word of each register
  pub record IsNextNet (d : NetData) : Type 0 where
    pub inputs : d.inputs ≡ c.inputs
    pub registers : d.registers ≡ c.registers
    pub nodes : d.nodes ≡ next_words.nodes
    pub nexts_are : d.nexts ≡ next_words.places
    pub fires : d.fires ≡ c.fires
    pub readies : d.readies ≡ c.readies
    pub results : d.results ≡ map (renamed (length c.nodes) (length next_words.nodes)) c.results
    pub sites : d.sites ≡ []
