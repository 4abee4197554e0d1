-- What the net so far names for results, and for the arguments of calls and of methods, are nodes of the whole net.
use Rattle.std.proofs.Common.{◌≡◌, ◌∙◌, ◌<◌, ◌+◌, ℕ, zero, suc, Bool, true, false, cond, List, [], ◌∷◌, Option, Some, None, refl, ap, arith, length, map}
use Rattle.std.specs.Prelude.{nat_lt, option_map, replicate, slice_get, slice_set}
use Rattle.std.proofs.lemmas.List.{length-replicate}
use Rattle.std.proofs.lemmas.Option.{slice_get_within}
use Rattle.bsv_bits.specs.Words.{Bits, bit}
use Rattle.bsv_design.specs.declared.element.Call.{Call}
use Rattle.bsv_design.specs.declared.element.Element.{Element}
use Rattle.bsv_design.specs.declared.element.Port.{Port}
use Rattle.bsv_design.specs.declared.kind.Kind.{Kind}
use Rattle.bsv_design.specs.declared.schedule.Need.{Need}
use Rattle.bsv_design.specs.declared.schedule.Schedule.{Schedule}
use Rattle.bsv_design.specs.design.Designs.{DesignData, HasWidths, IsDesign}
use Rattle.bsv_design.specs.design.Roles.{is_rule}
use Rattle.bsv_design.specs.parts.Kinds.{kind_table}
use Rattle.bsv_design.specs.scheme.Schemes.{Asking, Outline, kinds_of, outline}
use Rattle.bsv_graph.specs.Edges.{numbers_below}
use Rattle.bsv_guard.proofs.Lists.{item_of}
use Rattle.bsv_clock.specs.Shows.{input_widths_of}
use Rattle.bsv_net.specs.declared.node.NetNode.{NetNode}
use Rattle.bsv_net.specs.AtHand.{placed}
use Rattle.bsv_net.specs.Placing.{node_at, or_first}
use Rattle.bsv_net.specs.Unasked.{Arguments, inputs_with_from}
use Rattle.bsv_net.proofs.Grows.{Grows, grows_refl, grows_trans, kept}
use Rattle.bsv_ports.specs.CallSites.{or_none}
use Rattle.bsv_ports.specs.Ports.{PlacedAll, PlacedPort, port}
use Rattle.bsv_ports.specs.Starts.{first_nodes}
use Rattle.bsv_ports.proofs.FirstNodes.{asked_at, inputs_before, register_start, registers_before, start_of}
use Rattle.bsv_fire.specs.Bodies.{sites}
use Rattle.bsv_fire.specs.Grounds.{Ground}
use Rattle.bsv_fire.specs.FireBuilder as builder
use Rattle.bsv_fire.specs.FireBuilder.{FireBuilder, all_stopped, at_nodes, element_body, element_fire, element_ready, flattened, grown, is_open, no_ports, none_placed, with_element, with_method, with_number, with_port, with_ports, with_seen, with_seen_in}
use Rattle.bsv_fire.specs.Nets as nets
use Rattle.bsv_fire.specs.Nets.{net}
use Rattle.bsv_fire.proofs.Frame.{placed_port}
use Rattle.bsv_fire.proofs.GroundTold.{has_no_arguments, input_there, long_inputs, methods_first, none_there, register_there, registers_within}
use Rattle.bsv_fire.proofs.Steps.{all_stopped_grows, element_grows, fire_grows, grown_grows, one_seen, ready_grows, with_ports_grows, with_seen_grows}
use Rattle.bsv_fire.proofs.WithinBodies.{BaseWithin, PortsWithin, body_within}
use Rattle.bsv_fire.proofs.WithinPorts.{PortWithin, SitesWithin, Within, args_of, no_port_within, nodes_at_within, port_within}

-- ---- lists

-- what holds of each place of a list, and of one item, holds of each place where that item is set
set_each : {X : Type 0} (P : Option X → Type 0) (xs : List X) (i : ℕ) (x : X) → P (Some x) → ((j : ℕ) → P (slice_get xs j)) → (j : ℕ) → P (slice_get (slice_set xs i x) j)
set_each P [] i x p h j = h j
set_each P (y ∷ xs) zero x p h zero = p
set_each P (y ∷ xs) zero x p h (suc j) = h (suc j)
set_each P (y ∷ xs) (suc i) x p h zero = h zero
set_each P (y ∷ xs) (suc i) x p h (suc j) = set_each P xs i x p (λ k. h (suc k)) j

replicate_each : {X : Type 0} (P : Option X → Type 0) (count : ℕ) (x : X) → P None → P (Some x) → (j : ℕ) → P (slice_get (replicate count x) j)
replicate_each P zero x n p j = n
replicate_each P (suc count) x n p zero = p
replicate_each P (suc count) x n p (suc j) = replicate_each P count x n p j

-- ---- the net as it grows

module _ (full : List NetNode) (some : 0 < length full) where
  pub record BuilderWithin (x : FireBuilder) : Type 0 where
    pub ports : PortsWithin full some x.ports
    pub sites : SitesWithin full some x.sites
    pub results : (n : ℕ) → or_first (flattened (slice_get x.results n)) < length full

  none_within : (ks : List Kind) (count : ℕ) (ns : List NetNode) → BuilderWithin (none_placed ks count ns)
  none_within ks count ns = record {
    ports = λ i m. no_port ks i m;
    sites = λ f k. replicate_each (λ o. Within full some (args_of (slice_get (or_none o) k))) count [] (λ j. some) (λ j. some) f;
    results = λ n. replicate_each (λ o. or_first (flattened o) < length full) count None some some n;
  }
    where
      no_port : (ks : List Kind) (i m : ℕ) → PortWithin full some (placed_port (no_ports ks) i m)
      no_port [] i m = no_port_within full some
      no_port (k ∷ ks) zero m = replicate_each (λ o. PortWithin full some (placed o)) (kind_table k).methods None (no_port_within full some) (no_port_within full some) m
      no_port (k ∷ ks) (suc i) m = no_port ks i m

  -- what a net is made from is in it, and its elements have widths
  pub record GroundWithin (g : Ground) : Type 0 where
    pub base : BaseWithin full some g.base
    pub arguments : (n : ℕ) (e : Element) → slice_get g.elements n ≡ Some e → (k : ℕ) → k < length e.arguments → node_at g.inputs n + k < length full
    pub widths : (n : ℕ) (e : Element) → slice_get g.elements n ≡ Some e → HasWidths g.base.kinds e

  module _ (g : Ground) (ground : GroundWithin g) where
    -- ---- methods that are seen

    method_within : (k : Kind) (i m : ℕ) (x : FireBuilder) → BuilderWithin x → Grows (with_method g k i m x).nodes full → BuilderWithin (with_method g k i m x)
    method_within k i m x h = of (is_open x.ports i m)
      where
        p : PlacedPort
        p = port (kind_table k) g.base.none x.fires x.sites m x.nodes (or_none (slice_get g.call_sites i))

        of : (b : Bool) → Grows (cond b (with_port x i m p) x).nodes full → BuilderWithin (cond b (with_port x i m p) x)
        of true grows =
            let own = port_within full some (kind_table k) g.base.none x.fires x.sites h.sites m x.nodes (or_none (slice_get g.call_sites i)) ground.base.none grows in
            record {
              ports = λ j y.
                  set_each (λ o. PortWithin full some (placed (slice_get (or_none o) y))) x.ports i (slice_set (or_none (slice_get x.ports i)) m (Some p.port))
                  (set_each (λ o. PortWithin full some (placed o)) (or_none (slice_get x.ports i)) m (Some p.port) own (h.ports i) y) (λ c. h.ports c y) j;
              sites = h.sites;
              results = h.results;
            }
        of false grows = h

    one_within : (k : Kind) (i y : ℕ) (x : FireBuilder) (m : ℕ) → BuilderWithin x → Grows (one_seen g k i y x m).nodes full → BuilderWithin (one_seen g k i y x m)
    one_within k i y x m h = of ((kind_table k).sees m y)
      where
        of : (b : Bool) → Grows (cond b (with_method g k i m x) x).nodes full → BuilderWithin (cond b (with_method g k i m x) x)
        of true grows = method_within k i m x h grows
        of false grows = h

    seen_within : (k : Kind) (i y : ℕ) (x : FireBuilder) (ms : List ℕ) → BuilderWithin x → Grows (with_seen g k i y x ms).nodes full → BuilderWithin (with_seen g k i y x ms)
    unfolding with_seen
    seen_within k i y x [] h grows = h
    seen_within k i y x (m ∷ ms) h grows =
        let w = one_seen g k i y x m in
        seen_within k i y w ms (one_within k i y x m h (grows_trans (with_seen_grows g k i y w ms) grows)) grows

    seen_in_within : (o : Option Kind) (i y : ℕ) (x : FireBuilder) → BuilderWithin x → Grows (with_seen_in g o i y x).nodes full → BuilderWithin (with_seen_in g o i y x)
    seen_in_within None i y x h grows = h
    seen_in_within (Some k) i y x h grows = of (nat_lt y (kind_table k).methods) grows
      where
        all : List ℕ
        all = numbers_below (kind_table k).methods

        of : (b : Bool) → Grows (cond b (with_seen g k i y x all) x).nodes full → BuilderWithin (cond b (with_seen g k i y x all) x)
        of true grows = seen_within k i y x all h grows
        of false grows = h

    ports_within : (x : FireBuilder) (cs : List Call) → BuilderWithin x → Grows (with_ports g x cs).nodes full → BuilderWithin (with_ports g x cs)
    unfolding with_ports
    ports_within x [] h grows = h
    ports_within x (c ∷ cs) h grows =
        let w = with_seen_in g (slice_get g.base.kinds c.part) c.part c.method x in
        ports_within w cs (seen_in_within (slice_get g.base.kinds c.part) c.part c.method x h (grows_trans (with_ports_grows g w cs) grows)) grows

    -- ---- an element

    sites_within : (places : List ℕ) (cs : List Call) → Within full some places → (k : ℕ) → Within full some (args_of (slice_get (sites places cs) k))
    sites_within places [] h k = λ j. some
    sites_within places (c ∷ cs) h zero = nodes_at_within full some places c.args h
    sites_within places (c ∷ cs) h (suc k) = sites_within places cs h k

    given_within : (places : List ℕ) (o : Option ℕ) → Within full some places → or_first (option_map (node_at places) o) < length full
    given_within places None h = some
    given_within places (Some k) h = h k

    placed_within : (x : FireBuilder) (n : ℕ) (e : Element) → slice_get g.elements n ≡ Some e → BuilderWithin x → Grows (builder.placed g x n e).nodes full
        → BuilderWithin (builder.placed g x n e)
    placed_within x n e there h grows = record {
      ports = h.ports;
      sites = λ f k. set_each (λ o. Within full some (args_of (slice_get (or_none o) k))) x.sites n (sites bodied.places e.calls) (sites_within bodied.places e.calls places k) (λ c. h.sites c k) f;
      results = set_each (λ o. or_first (flattened o) < length full) x.results n (option_map (node_at bodied.places) e.result) (given_within bodied.places e.result places) h.results;
    }
      where
        bodied : PlacedAll
        bodied = element_body g x n e

        y : FireBuilder
        y = at_nodes x bodied.nodes

        bodied_grows : Grows bodied.nodes full
        bodied_grows =
            let r = element_ready g y n e bodied.places in
            let w = at_nodes y r.nodes in
            let f = element_fire g w n e r.place in
            grows_trans (ready_grows g y n e bodied.places)
            (grows_trans (fire_grows g w n e r.place) (grows_trans (all_stopped_grows f.place f.nodes x.stoppers (or_none (slice_get g.stops n))) grows))

        places : Within full some bodied.places
        places =
            let fits = ground.widths n e there in
            body_within full some g.base ground.base x.ports h.ports (node_at g.inputs n) e.calls e.arguments g.base.kinds (ground.arguments n e there) e.nodes [] fits.widths [] x.nodes
            fits.nodes (λ j. some) bodied_grows

    number_within : (x : FireBuilder) (n : ℕ) (o : Option Element) → slice_get g.elements n ≡ o → BuilderWithin x → Grows (with_number g x n o).nodes full → BuilderWithin (with_number g x n o)
    unfolding with_element
    number_within x n None there h grows = h
    number_within x n (Some e) there h grows =
        let y = with_ports g x e.calls in
        placed_within y n e there (ports_within x e.calls h (grows_trans (element_grows g y n e) grows)) grows

    grown_within : (x : FireBuilder) (ns : List ℕ) → BuilderWithin x → Grows (grown g x ns).nodes full → BuilderWithin (grown g x ns)
    unfolding grown
    grown_within x [] h grows = h
    grown_within x (n ∷ ns) h grows =
        let y = with_number g x n (slice_get g.elements n) in
        grown_within y ns (number_within x n (slice_get g.elements n) refl h (grows_trans (grown_grows g y ns) grows)) grows

-- ---- what the net of a design is made from

abbrev ports_in : Option Element → List Port
ports_in None = []
ports_in (Some e) = e.arguments

module _ (b : DesignData) (right : IsDesign b) where
  nothing_asked : Asking
  nothing_asked = record { asked = []; args = [] }

  -- for each element as many words as it has arguments
  abbrev zeros : Arguments
  zeros n = replicate (length (ports_in (slice_get b.elements n))) (bit false)

  many : (n : ℕ) (e : Element) → slice_get b.elements n ≡ Some e → length (zeros (0 + n)) ≡ length e.arguments
  many n e there =
      ap (λ k. length (zeros k)) (omega arith)
      ∙ (length-replicate (length (ports_in (slice_get b.elements n))) (bit false) ∙ ap (λ (o : Option Element). length (ports_in o)) there)

  many_in : (n : ℕ) (o : Outline) → slice_get (map outline b.elements) n ≡ Some o → length (zeros (0 + n)) ≡ length o.ports
  many_in n o there =
      let found = item_of outline b.elements n o there in
      many n found.item found.is ∙ ap (λ (x : Outline). length x.ports) found.gives

  asked_below : (n : ℕ) (e : Element) → slice_get b.elements n ≡ Some e → is_rule e.role ≡ false
      → inputs_before b.elements n + length e.arguments < length (input_widths_of (map outline b.elements))
  asked_below n e there rule =
      let given : List Bits = inputs_with_from nothing_asked zeros 0 (map outline b.elements) in
      let l = slice_get_within given (inputs_before b.elements n + length e.arguments) _ (asked_at nothing_asked zeros 0 b.elements (methods_first b right) many n e there rule) in
      let long : length given ≡ length (input_widths_of (map outline b.elements)) = long_inputs nothing_asked zeros 0 (map outline b.elements) many_in in
      omega (arith, l, long)

  module _ (needs : List (List Need)) (made : Schedule) (full : List NetNode) (some : 0 < length full)
      (first : Grows (first_nodes (length (nets.inputs b needs made)) (nets.count b needs made)) full) where
    abbrev inputs : ℕ
    inputs = length (nets.inputs b needs made)

    abbrev count : ℕ
    count = nets.count b needs made

    abbrev g : Ground
    g = nets.ground b needs made

    there_within : (k : ℕ) (x : NetNode) → slice_get (first_nodes inputs count) k ≡ Some x → k < length full
    there_within k x there = slice_get_within full k x (kept first k x there)

    register_within : (i : ℕ) (k : Kind) → slice_get (kinds_of b) i ≡ Some k → (n : ℕ) → n < (kind_table k).registers → node_at g.base.registers i + n < length full
    register_within i k there n l =
        let start = register_start inputs (kinds_of b) i (slice_get_within (kinds_of b) i k there) in
        let among : registers_before (kinds_of b) i + n < count = omega (arith, l, registers_within (kinds_of b) i k there) in
        let below = there_within (inputs + (registers_before (kinds_of b) i + n)) _ (register_there inputs count (registers_before (kinds_of b) i + n) among) in
        omega (arith, start, below)

    argument_within : (n : ℕ) (e : Element) → slice_get b.elements n ≡ Some e → (k : ℕ) → k < length e.arguments → (r : Bool) → is_rule e.role ≡ r
        → node_at g.inputs n + k < length full
    argument_within n e there k l true rule = absurd (omega (arith, l, has_no_arguments b right n e there rule))
    argument_within n e there k l false rule =
        let start = start_of 0 b.elements n (slice_get_within b.elements n e there) in
        let among : inputs_before b.elements n + k < inputs = omega (arith, l, asked_below n e there rule) in
        let below = there_within (inputs_before b.elements n + k) _ (input_there inputs count (inputs_before b.elements n + k) among) in
        omega (arith, start, below)

    pub ground_within : GroundWithin full some g
    ground_within = record {
      base = record { none = there_within (inputs + count) _ (none_there inputs count); registers = register_within };
      arguments = λ n e there k l. argument_within n e there k l (is_rule e.role) refl;
      widths = λ n e there. (right.elements n e there).fits;
    }

-- ---- results

pub result_within : (b : DesignData) → IsDesign b → (needs : List (List Need)) (made : Schedule) (n : ℕ)
    → or_first (flattened (slice_get (net b needs made).results n)) < length (net b needs made).nodes
unfolding net
result_within b right needs made n =
    let inputs : ℕ = length (nets.inputs b needs made) in
    let count : ℕ = nets.count b needs made in
    let start = none_placed (kinds_of b) (length b.elements) (first_nodes inputs count) in
    let g : Ground = nets.ground b needs made in
    let full : List NetNode = (grown g start made.urgency).nodes in
    let first : Grows (first_nodes inputs count) full = grown_grows g start made.urgency in
    let one = slice_get_within full (inputs + count) _ (kept first (inputs + count) _ (none_there inputs count)) in
    let some : 0 < length full = omega (arith, one) in
    (grown_within full some g (ground_within b right needs made full some first) start made.urgency
    (none_within full some (kinds_of b) (length b.elements) (first_nodes inputs count)) (grows_refl full)).results n
