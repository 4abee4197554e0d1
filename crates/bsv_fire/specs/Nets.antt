-- The net of a design up to its firing, as it is made: all elements are in it, and each register keeps its word.
use Rattle.std.specs.Prelude.{◌≡◌, ℕ, ◌+◌, List, map, length, unwrap_or}
use Rattle.bsv_design.specs.declared.schedule.Need.{Need}
use Rattle.bsv_design.specs.declared.schedule.Schedule.{Schedule}
use Rattle.bsv_design.specs.design.Designs.{DesignData}
use Rattle.bsv_design.specs.scheme.Schemes.{kinds_of, outline}
use Rattle.bsv_graph.specs.Edges.{numbers_below}
use Rattle.bsv_clock.specs.Shows.{cell, cells_of, input_widths_of}
use Rattle.bsv_net.specs.declared.net_data.NetData.{NetData}
use Rattle.bsv_ports.specs.Starts.{first_nodes, input_starts, register_starts}
use Rattle.bsv_fire.specs.Grounds.{Ground}
use Rattle.bsv_fire.specs.FireBuilder.{FireBuilder, grown, none_placed}
use Rattle.bsv_ports.specs.CallSites.{all_call_sites}

module _ (b : DesignData) (needs : List (List Need)) (made : Schedule) where
  abbrev pub inputs : List ℕ
  inputs = input_widths_of (map outline b.elements)

  -- how many registers there are
  abbrev pub count : ℕ
  count = length (cells_of (kinds_of b))

  -- what its net is made from
  abbrev pub ground : Ground
  ground = record {
    base = record {
      kinds = kinds_of b;
      registers = register_starts (length inputs) (kinds_of b);
      none = length inputs + count;
    };
    elements = b.elements;
    needs = needs;
    stops = made.stops;
    call_sites = all_call_sites (kinds_of b) b.elements made.execution;
    inputs = input_starts 0 b.elements;
  }

  -- all elements are in it, the more urgent ones first
  unfoldable pub net : FireBuilder
  net = grown ground (none_placed (kinds_of b) (length b.elements) (first_nodes (length inputs) count)) made.urgency

  pub record IsFiringNet (c : NetData) : Type 0 where
    pub inputs_are : c.inputs ≡ inputs
    pub registers : map cell c.registers ≡ cells_of (kinds_of b)
    pub nodes : c.nodes ≡ net.nodes
    pub nexts : c.nexts ≡ map (λ k. length inputs + k) (numbers_below count)
    pub fires : c.fires ≡ net.fires
    pub readies : c.readies ≡ net.readies
    -- what gives nothing names the number of nodes
    pub results : c.results ≡ map (λ o. unwrap_or o (length net.nodes)) net.results
    pub sites : c.sites ≡ net.sites
