-- Each step in which a net grows places its nodes after those that are there.
use Rattle.std.proofs.Common.{◌+◌, ℕ, Bool, true, false, cond, List, [], ◌∷◌, ◌++◌, Option, Some, None}
use Rattle.std.specs.Prelude.{slice_get, slice_set, nat_lt}
use Rattle.bsv_bits.specs.declared.operator.Operator.TheVariants.{Or}
use Rattle.bsv_design.specs.declared.element.Call.{Call}
use Rattle.bsv_design.specs.declared.element.Element.{Element}
use Rattle.bsv_design.specs.declared.kind.Kind.{Kind}
use Rattle.bsv_design.specs.parts.Kinds.{kind_table}
use Rattle.bsv_graph.specs.Edges.{numbers_below}
use Rattle.bsv_net.specs.declared.node.NetNode.{NetNode}
use Rattle.bsv_net.specs.declared.node.NetNode.TheVariants as net
use Rattle.bsv_net.specs.Placing.{node_at}
use Rattle.bsv_net.proofs.Grows.{Grows, grows_refl, grows_trans, grows_add}
use Rattle.bsv_ports.specs.CallSites.{or_none}
use Rattle.bsv_fire.specs.Bodies.{guards, truths}
use Rattle.bsv_fire.specs.Grounds.{Ground}
use Rattle.bsv_fire.specs.FireBuilder.{FireBuilder, all_stopped, asked_and, at_nodes, with_stopper, element_body, element_fire, element_ready, grown, is_open, flattened, placed, with_element, with_method, with_number, with_port, with_ports, with_seen, with_seen_in}
use Rattle.bsv_ports.specs.Ports.{port}
use Rattle.bsv_fire.proofs.BodiesGrow.{all_of_grows, body_grows, guards_grow}
use Rattle.bsv_fire.proofs.FireTold.{asked_and_grows, unless_grows}
use Rattle.bsv_ports.proofs.PortGrowth.{port_grows}

pub with_stopper_grows : (fire : ℕ) (ns : List NetNode) (o : Option ℕ) → Grows ns (with_stopper fire ns o).nodes
with_stopper_grows fire ns None = grows_refl ns
with_stopper_grows fire ns (Some stopper) = grows_add ns (net.Two Or stopper fire)

pub all_stopped_grows : (fire : ℕ) (ns : List NetNode) (stoppers : List (Option ℕ)) (ks : List ℕ) → Grows ns (all_stopped fire ns stoppers ks).nodes
unfolding all_stopped
all_stopped_grows fire ns stoppers [] = grows_refl ns
all_stopped_grows fire ns stoppers (n ∷ more) =
    let p = with_stopper fire ns (flattened (slice_get stoppers n)) in
    grows_trans (with_stopper_grows fire ns (flattened (slice_get stoppers n))) (all_stopped_grows fire p.nodes (slice_set stoppers n (Some p.place)) more)

module _ (g : Ground) where
  -- ---- methods that are seen

  pub with_method_grows : (k : Kind) (i m : ℕ) (x : FireBuilder) → Grows x.nodes (with_method g k i m x).nodes
  with_method_grows k i m x = of (is_open x.ports i m)
    where
      of : (b : Bool) → Grows x.nodes (cond b (with_port x i m (port (kind_table k) g.base.none x.fires x.sites m x.nodes (or_none (slice_get g.call_sites i)))) x).nodes
      of true = port_grows (kind_table k) g.base.none x.fires x.sites m x.nodes (or_none (slice_get g.call_sites i))
      of false = grows_refl x.nodes

  abbrev pub one_seen : Kind → ℕ → ℕ → FireBuilder → ℕ → FireBuilder
  one_seen k i y x m = cond ((kind_table k).sees m y) (with_method g k i m x) x

  pub one_seen_grows : (k : Kind) (i y : ℕ) (x : FireBuilder) (m : ℕ) → Grows x.nodes (one_seen k i y x m).nodes
  one_seen_grows k i y x m = of ((kind_table k).sees m y)
    where
      of : (b : Bool) → Grows x.nodes (cond b (with_method g k i m x) x).nodes
      of true = with_method_grows k i m x
      of false = grows_refl x.nodes

  pub with_seen_grows : (k : Kind) (i y : ℕ) (x : FireBuilder) (ms : List ℕ) → Grows x.nodes (with_seen g k i y x ms).nodes
  unfolding with_seen
  with_seen_grows k i y x [] = grows_refl x.nodes
  with_seen_grows k i y x (m ∷ ms) = grows_trans (one_seen_grows k i y x m) (with_seen_grows k i y (one_seen k i y x m) ms)

  pub with_seen_in_grows : (o : Option Kind) (i y : ℕ) (x : FireBuilder) → Grows x.nodes (with_seen_in g o i y x).nodes
  with_seen_in_grows None i y x = grows_refl x.nodes
  with_seen_in_grows (Some k) i y x = of (nat_lt y (kind_table k).methods)
    where
      of : (b : Bool) → Grows x.nodes (cond b (with_seen g k i y x (numbers_below (kind_table k).methods)) x).nodes
      of true = with_seen_grows k i y x (numbers_below (kind_table k).methods)
      of false = grows_refl x.nodes

  pub with_ports_grows : (x : FireBuilder) (cs : List Call) → Grows x.nodes (with_ports g x cs).nodes
  unfolding with_ports
  with_ports_grows x [] = grows_refl x.nodes
  with_ports_grows x (c ∷ cs) =
      let y = with_seen_in g (slice_get g.base.kinds c.part) c.part c.method x in
      grows_trans (with_seen_in_grows (slice_get g.base.kinds c.part) c.part c.method x) (with_ports_grows y cs)

  -- ---- one element

  pub ready_grows : (x : FireBuilder) (n : ℕ) (e : Element) (places : List ℕ) → Grows x.nodes (element_ready g x n e places).nodes
  ready_grows x n e places =
      let needs = or_none (slice_get g.needs n) in
      let gs = guards g.base x.ports e.calls x.nodes [] needs in
      grows_trans (guards_grow g.base x.ports e.calls x.nodes [] needs) (all_of_grows (g.base.none + 1) gs.nodes (gs.places ++ truths places e.conditions))

  pub fire_grows : (x : FireBuilder) (n : ℕ) (e : Element) (readied : ℕ) → Grows x.nodes (element_fire g x n e readied).nodes
  fire_grows x n e readied =
      grows_trans (asked_and_grows g x.nodes n e readied) (unless_grows (asked_and g x.nodes n e readied) (flattened (slice_get x.stoppers n)))

  pub element_grows : (x : FireBuilder) (n : ℕ) (e : Element) → Grows x.nodes (placed g x n e).nodes
  element_grows x n e =
      let b = element_body g x n e in
      let y = at_nodes x b.nodes in
      let r = element_ready g y n e b.places in
      let w = at_nodes y r.nodes in
      let f = element_fire g w n e r.place in
      grows_trans (body_grows g.base x.ports (node_at g.inputs n) e.calls [] x.nodes e.nodes)
      (grows_trans (ready_grows y n e b.places)
      (grows_trans (fire_grows w n e r.place) (all_stopped_grows f.place f.nodes x.stoppers (or_none (slice_get g.stops n)))))

  pub with_element_grows : (x : FireBuilder) (n : ℕ) (e : Element) → Grows x.nodes (with_element g x n e).nodes
  unfolding with_element
  with_element_grows x n e = grows_trans (with_ports_grows x e.calls) (element_grows (with_ports g x e.calls) n e)

  pub with_number_grows : (x : FireBuilder) (n : ℕ) (o : Option Element) → Grows x.nodes (with_number g x n o).nodes
  with_number_grows x n None = grows_refl x.nodes
  with_number_grows x n (Some e) = with_element_grows x n e

  pub grown_grows : (x : FireBuilder) (ns : List ℕ) → Grows x.nodes (grown g x ns).nodes
  unfolding grown
  grown_grows x [] = grows_refl x.nodes
  grown_grows x (n ∷ ns) =
      let y = with_number g x n (slice_get g.elements n) in
      grows_trans (with_number_grows x n (slice_get g.elements n)) (grown_grows y ns)
