-- What it means that a net tells of the elements that are in it. All is said of the words of the whole net: what is in
-- the net so far is a front of it.
use Rattle.std.proofs.Common.{◌≡◌, ◌+◌, ◌<◌, ℕ, true, false, ◌&&◌, List, length, Option, Some, None}
use Rattle.std.specs.Prelude.{slice_get}
use Rattle.std.specs.List.{list_any}
use Rattle.bsv_bits.specs.Words.{Bits, bit}
use Rattle.bsv_design.specs.declared.element.Element.{Element}
use Rattle.bsv_design.specs.declared.kind.Kind.{Kind}
use Rattle.bsv_design.specs.design.Bodies.{at}
use Rattle.bsv_design.specs.design.Guards.{needs_of}
use Rattle.bsv_design.specs.parts.Kinds.{kind_table}
use Rattle.bsv_design.specs.design.Roles.{is_rule}
use Rattle.bsv_design.specs.scheme.Schemes.{kinds_of, ready, value}
use Rattle.bsv_design.specs.scheme.States.{part_at}
use Rattle.bsv_graph.specs.Orders.{In}
use Rattle.bsv_clock.specs.Clocks.{is_asked}
use Rattle.bsv_clock.specs.Settling.{fires, stops_in}
use Rattle.bsv_net.specs.declared.wires.MethodPort.{MethodPort}
use Rattle.bsv_net.specs.AtHand.{placed}
use Rattle.bsv_net.specs.Placing.{node_at}
use Rattle.bsv_net.proofs.Grows.{Grows}
use Rattle.bsv_ports.specs.CallSites.{or_none, all_call_sites}
use Rattle.bsv_fire.specs.Bodies.{Ports}
use Rattle.bsv_fire.specs.Grounds.{Ground}
use Rattle.bsv_fire.specs.FireBuilder.{FireBuilder, flattened}
use Rattle.bsv_ports.proofs.Scene.{Scene, S, does, looks, TellsPort, last_call, TellsFiring}

-- what a net is made from is in it: its inputs, its registers, and both bits
pub record IsGround (z : Scene) (g : Ground) : Type 0 where
  pub kinds : g.base.kinds ≡ kinds_of z.b
  pub elements : g.elements ≡ z.b.elements
  pub needs : g.needs ≡ needs_of (kinds_of z.b) z.b.elements
  pub stops : g.stops ≡ z.made.stops
  pub call_sites : g.call_sites ≡ all_call_sites (kinds_of z.b) z.b.elements z.made.execution
  -- the registers of a part show it
  pub shown : (i : ℕ) (k : Kind) → slice_get (kinds_of z.b) i ≡ Some k
      → (r : ℕ → Bits) × (kind_table k).Shows (part_at z.s i) r
      × ((n : ℕ) → n < (kind_table k).registers → z.V (node_at g.base.registers i + n) ≡ r n)
  -- the inputs of an element are what it is given, and whether it is asked
  pub arguments : (n : ℕ) (e : Element) → slice_get z.b.elements n ≡ Some e → (k : ℕ) → k < length e.arguments
      → z.V (node_at g.inputs n + k) ≡ at (z.xs n) k
  pub asked : (n : ℕ) (e : Element) → slice_get z.b.elements n ≡ Some e → is_rule e.role ≡ false
      → z.V (node_at g.inputs n + length e.arguments) ≡ bit (is_asked z.q n)
  pub none : z.V g.base.none ≡ bit false
  pub one : z.V (g.base.none + 1) ≡ bit true

-- what the net so far tells of an element that is in it, beside its firing
pub record TellsElement (z : Scene) (x : FireBuilder) (n : ℕ) : Type 0 where
  pub readies : z.V (node_at x.readies n) ≡ bit (ready false (S z) z.q n (looks z))
  pub result : (w : Bits) → ready false (S z) z.q n (looks z) ≡ true → value (S z) z.q n (looks z) ≡ Some w
      → (k : ℕ) × (slice_get x.results n ≡ Some (Some k)) × (z.V k ≡ w)

abbrev pub placed_port : Ports → ℕ → ℕ → Option MethodPort
placed_port ports i m = placed (slice_get (or_none (slice_get ports i)) m)

-- the net so far tells of these elements, and of no others
pub record Tells (z : Scene) (x : FireBuilder) (placed : List ℕ) : Type 0 where
  pub nodes : Grows x.nodes z.full
  pub elements : (n : ℕ) → In placed n → TellsElement z x n
  pub firing : TellsFiring z x.fires x.sites placed
  pub long : length x.fires ≡ length z.b.elements
  pub long_stoppers : length x.stoppers ≡ length z.b.elements
  pub long_readies : length x.readies ≡ length z.b.elements
  pub long_results : length x.results ≡ length z.b.elements
  pub long_sites : length x.sites ≡ length z.b.elements
  -- which of them stop an element
  pub free : (n : ℕ) → flattened (slice_get x.stoppers n) ≡ None → list_any (λ f. stops_in z.made f n) placed ≡ false
  pub stopped_is : (n k : ℕ) → flattened (slice_get x.stoppers n) ≡ Some k
      → z.V k ≡ bit (list_any (λ f. fires (does z) f && stops_in z.made f n) placed)
  -- there is a place for each method of each part, and what is there tells the method's last call
  pub rooms : (i : ℕ) (k : Kind) → slice_get (kinds_of z.b) i ≡ Some k
      → (ps : List (Option MethodPort)) × (slice_get x.ports i ≡ Some ps) × (length ps ≡ (kind_table k).methods)
  pub ports : (i m : ℕ) (k : Kind) (p : MethodPort) → slice_get (kinds_of z.b) i ≡ Some k → placed_port x.ports i m ≡ Some p
      → TellsPort z.V ((kind_table k).arity m) (last_call z i m) p
