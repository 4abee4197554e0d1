-- What is promised of a net that tells what fires: it carries the scheme but for the next words, which keep every register,
-- and its sites tell the calls of the elements that fire.
use Rattle.std.specs.Prelude.{◌≡◌, ◌<◌, ℕ, Bool, true, List, map, length, slice_get, Some}
use Rattle.bsv_bits.specs.Words.{Bits, bit}
use Rattle.bsv_prim.specs.declared.part.Part.{Part}
use Rattle.bsv_design.specs.declared.schedule.Schedule.{Schedule}
use Rattle.bsv_design.specs.design.Bodies.{Target, at}
use Rattle.bsv_design.specs.scheme.Schemes.{Scheme, Asking, seen}
use Rattle.bsv_design.specs.scheme.Traces.{Site, kind_at}
use Rattle.bsv_graph.specs.Orders.{In}
use Rattle.bsv_guard.specs.Fitting.{HaveWidths}
use Rattle.bsv_clock.specs.Shows.{Shows, TellsElements, cell, cells_of, cell_widths, input_widths}
use Rattle.bsv_clock.specs.Clocks.{IsClock}
use Rattle.bsv_clock.specs.Grounds.{Fit}
use Rattle.bsv_clock.specs.Looks.{clock_look}
use Rattle.bsv_net.specs.declared.net_data.NetData.{NetData}
use Rattle.bsv_net.specs.declared.node.Site.{Site as NetSite}
use Rattle.bsv_net.specs.Nets.{words}
use Rattle.bsv_net.specs.Unasked.{Arguments, MayBeArguments, inputs_with, with_arguments}
use Rattle.bsv_net.specs.ShowsByNet.{NamesNoResult, NamesResults, gives, given_at}
use Rattle.bsv_ports.specs.CallSites.{or_none}
use Rattle.bsv_ports.specs.Ports.{arity_of}

-- ---- calls

-- the nodes of the calls of an element
abbrev pub sites_of : NetData → ℕ → List NetSite
sites_of c n = or_none (slice_get c.sites n)

-- the words of the nodes of a call tell the call: whether it is taken, and its arguments where it is
pub record TellsSite (vs : List Bits) (x : Site) (s : NetSite) : Type 0 where
  pub taken : at vs s.taken ≡ bit x.taken
  pub args : x.taken ≡ true → map (at vs) s.args ≡ x.arguments

-- ---- clocks

-- what a net tells of a clock in which these elements fire, whose nodes have these words
pub record TellsFiring (aggressive : Bool) (S : Scheme) (q : Asking) (s : List Part) (fired : List ℕ) (c : NetData) (vs : List Bits) : Type 0 where
  pub elements : TellsElements aggressive S q s fired (given_at c vs)
  -- the calls of an element that fires, as it makes them under the look of the clock
  pub sites : (n : ℕ) → In fired n → (k : ℕ) (x : Site) (y : NetSite)
      → slice_get (seen S q n (clock_look S q s fired)).sites k ≡ Some x → slice_get (sites_of c n) k ≡ Some y
      → TellsSite vs x y

pub record Fires (aggressive : Bool) (S : Scheme) (made : Schedule) (c : NetData) : Type 0 where
  pub registers : map cell c.registers ≡ cells_of S.kinds
  pub inputs : c.inputs ≡ input_widths S
  pub count : length c.fires ≡ length S.elements
  pub count_readies : length c.readies ≡ length S.elements
  pub count_results : length c.results ≡ length S.elements
  pub count_sites : length c.sites ≡ length S.elements
  -- what gives nothing names no node, and what gives a word names one
  pub no_result : NamesNoResult S c
  pub results : NamesResults S c
  -- there are nodes for each call of each element, one for each of its arguments
  pub calls : (n : ℕ) → n < length S.elements → length (sites_of c n) ≡ length (S.uses n)
  pub arguments : (n k : ℕ) (t : Target) (y : NetSite) → slice_get (S.uses n) k ≡ Some t
      → slice_get (sites_of c n) k ≡ Some y → length y.args ≡ arity_of (kind_at S.kinds t) t.method
  -- the net tells each clock, of elements with the arguments that they have, whatever words are at those of methods that act
  -- and are not asked
  pub clock : (q : Asking) (s : List Part) (ws : List Bits) (fired : List ℕ) (after : List Part) (xs : Arguments) → Fit S q s
      → MayBeArguments S q xs → HaveWidths (cell_widths (cells_of S.kinds)) ws → Shows S.kinds s ws
      → IsClock aggressive S made q s fired after
      → TellsFiring aggressive (with_arguments S xs) q s fired c (words c.nodes (inputs_with S q xs) ws)
  -- every register keeps its word
  pub kept : (ws inputs : List Bits) → HaveWidths (cell_widths (cells_of S.kinds)) ws → HaveWidths c.inputs inputs
      → (gives c ws inputs).nexts ≡ ws
