-- Of a method of a part whose nodes are placed, each node is one of the whole net, where those of all calls are.
use Rattle.std.proofs.Common.{◌≡◌, ◌<◌, ℕ, zero, suc, Bool, true, false, List, [], ◌∷◌, ◌++◌, Option, Some, None, refl, sym, subst, length, map}
use Rattle.std.specs.Prelude.{◌==◌, slice_get}
use Rattle.std.proofs.lemmas.Option.{slice_get_within}
use Rattle.bsv_bits.specs.Words.{zero_word}
use Rattle.bsv_bits.specs.declared.operator.Operator.TheVariants.{And, Or}
use Rattle.bsv_prim.specs.Table.{Table}
use Rattle.bsv_graph.specs.Edges.{numbers_below}
use Rattle.bsv_net.specs.declared.node.NetNode.{NetNode}
use Rattle.bsv_net.specs.declared.node.NetNode.TheVariants as net
use Rattle.bsv_net.specs.declared.node.Site.{Site}
use Rattle.bsv_net.specs.declared.wires.MethodPort.{MethodPort}
use Rattle.bsv_net.specs.AtHand.{args_in, called_in}
use Rattle.bsv_net.specs.Placing.{add, both, either, node_at}
use Rattle.bsv_net.proofs.Grows.{Grows, added_there, grows_trans}
use Rattle.bsv_ports.specs.declared.call_sites.CallSite.{CallSite}
use Rattle.bsv_ports.specs.CallSites.{or_none}
use Rattle.bsv_ports.specs.Ports.{PlacedSoFar, all_picked, at_call_site, at_call_sites, merged, or_never, port, site_at, site_in, zeros}
use Rattle.bsv_ports.proofs.PortGrowth.{all_picked_grows, at_call_sites_grows, call_site_of, call_site_of_other, merged_grows, or_never_grows, with_site, zeros_grows}

abbrev pub args_of : Option Site → List ℕ
args_of None = []
args_of (Some s) = s.args

module _ (full : List NetNode) (some : 0 < length full) where
  -- ---- lists of nodes

  -- at each place of the list is a node of the net; where there is no such place, the first one stands for it
  abbrev pub Within : List ℕ → Type 0
  Within ns = (j : ℕ) → node_at ns j < length full

  pub one_more : (ns : List ℕ) (n : ℕ) → Within ns → n < length full → Within (ns ++ n ∷ [])
  one_more [] n h l zero = l
  one_more [] n h l (suc j) = some
  one_more (m ∷ ns) n h l zero = h zero
  one_more (m ∷ ns) n h l (suc j) = one_more ns n (λ i. h (suc i)) l j

  pub nodes_at_within : (ns ks : List ℕ) → Within ns → Within (map (node_at ns) ks)
  nodes_at_within ns [] h j = some
  nodes_at_within ns (k ∷ ks) h zero = h k
  nodes_at_within ns (k ∷ ks) h (suc j) = nodes_at_within ns ks h j

  -- a node that was added
  pub added_within : (ns : List NetNode) (x : NetNode) → Grows (add ns x).nodes full → length ns < length full
  added_within ns x g = slice_get_within full (length ns) x (added_there ns x g)

  -- ---- a method

  pub record PortWithin (o : Option MethodPort) : Type 0 where
    pub called : called_in o < length full
    pub args : Within (args_in o)

  pub no_port_within : PortWithin None
  no_port_within = record { called = some; args = λ j. some }

  picked_within : (ns : List NetNode) (live : ℕ) (so_far xs ys : List ℕ) → Within so_far → Grows (all_picked ns live so_far xs ys).nodes full
      → Within (all_picked ns live so_far xs ys).places
  unfolding all_picked
  picked_within ns live so_far [] ys h g = h
  picked_within ns live so_far (x ∷ xs) [] h g = h
  picked_within ns live so_far (x ∷ xs) (y ∷ ys) h g =
      let p = add ns (net.Pick live x y) in
      let own = added_within ns (net.Pick live x y) (grows_trans (all_picked_grows p.nodes live (so_far ++ p.place ∷ []) xs ys) g) in
      picked_within p.nodes live (so_far ++ p.place ∷ []) xs ys (one_more so_far p.place h own) g

  merged_within : (ns : List NetNode) (o : Option MethodPort) (live : ℕ) (args : List ℕ) → live < length full → Within args → Grows (merged ns o live args).nodes full
      → PortWithin (Some (merged ns o live args).port)
  merged_within ns None live args l h g = record { called = l; args = h }
  merged_within ns (Some p) live args l h g =
      let q = either ns p.called live in
      record {
        called = added_within ns (net.Two Or p.called live) (grows_trans (all_picked_grows q.nodes live [] args p.args) g);
        args = picked_within q.nodes live [] args p.args (λ j. some) g;
      }

  -- the nodes of the arguments of each call
  abbrev pub SitesWithin : List (List Site) → Type 0
  SitesWithin sites = (f k : ℕ) → Within (args_of (slice_get (or_none (slice_get sites f)) k))

  with_site_within : (fires : List ℕ) (ns : List NetNode) (o : Option MethodPort) (f : ℕ) (s : Option Site) → PortWithin o → Within (args_of s)
      → Grows (with_site fires ns o f s).nodes full → PortWithin (with_site fires ns o f s).port
  with_site_within fires ns o f None h args g = h
  with_site_within fires ns o f (Some x) h args g =
      let p = both ns (node_at fires f) x.taken in
      merged_within p.nodes o p.place x.args (added_within ns (net.Two And (node_at fires f) x.taken) (grows_trans (merged_grows p.nodes o p.place x.args) g)) args g

  module _ (fires : List ℕ) (sites : List (List Site)) (h : SitesWithin sites) (m : ℕ) where
    site_within : (s : CallSite) → Within (args_of (site_at sites s))
    site_within s = of (slice_get sites s.element) (h s.element s.call)
      where
        of : (o : Option (List Site)) → Within (args_of (slice_get (or_none o) s.call)) → Within (args_of (site_in o s.call))
        of None w = w
        of (Some ss) w = w

    call_site_within : (ns : List NetNode) (o : Option MethodPort) (s : CallSite) → PortWithin o → Grows (at_call_site fires sites m ns o s).nodes full
        → PortWithin (at_call_site fires sites m ns o s).port
    call_site_within ns o s before g = cases (s.method == m) refl
      where
        cases : (b : Bool) → (s.method == m) ≡ b → PortWithin (at_call_site fires sites m ns o s).port
        cases true e =
            let same = call_site_of fires sites m ns o s e in
            subst (λ (p : PlacedSoFar). PortWithin p.port) (sym same)
            (with_site_within fires ns o s.element (site_at sites s) before (site_within s) (subst (λ (p : PlacedSoFar). Grows p.nodes full) same g))
        cases false e = subst (λ (p : PlacedSoFar). PortWithin p.port) (sym (call_site_of_other fires sites m ns o s e)) before

    call_sites_within : (ns : List NetNode) (o : Option MethodPort) (ss : List CallSite) → PortWithin o → Grows (at_call_sites fires sites m ns o ss).nodes full
        → PortWithin (at_call_sites fires sites m ns o ss).port
    unfolding at_call_sites
    call_sites_within ns o [] before g = before
    call_sites_within ns o (s ∷ ss) before g =
        let p = at_call_site fires sites m ns o s in
        call_sites_within p.nodes p.port ss (call_site_within ns o s before (grows_trans (at_call_sites_grows fires sites m p.nodes p.port ss) g)) g

  zeros_within : (t : Table) (m : ℕ) (ns : List NetNode) (so_far ks : List ℕ) → Within so_far → Grows (zeros t m ns so_far ks).nodes full
      → Within (zeros t m ns so_far ks).places
  unfolding zeros
  zeros_within t m ns so_far [] h g = h
  zeros_within t m ns so_far (k ∷ ks) h g =
      let x = net.Constant (zero_word (t.argument_width m k)) in
      let p = add ns x in
      zeros_within t m p.nodes (so_far ++ p.place ∷ []) ks
      (one_more so_far p.place h (added_within ns x (grows_trans (zeros_grows t m p.nodes (so_far ++ p.place ∷ []) ks) g))) g

  never_within : (t : Table) (none m : ℕ) (ns : List NetNode) (o : Option MethodPort) → none < length full → PortWithin o
      → Grows (or_never t none m (record { nodes = ns; port = o })).nodes full → PortWithin (Some (or_never t none m (record { nodes = ns; port = o })).port)
  never_within t none m ns None l h g = record { called = l; args = zeros_within t m ns [] (numbers_below (t.arity m)) (λ j. some) g }
  never_within t none m ns (Some p) l h g = h

  pub port_within : (t : Table) (none : ℕ) (fires : List ℕ) (sites : List (List Site)) → SitesWithin sites → (m : ℕ) (ns : List NetNode) (ss : List CallSite)
      → none < length full → Grows (port t none fires sites m ns ss).nodes full → PortWithin (Some (port t none fires sites m ns ss).port)
  unfolding port
  port_within t none fires sites h m ns ss l g =
      let p = at_call_sites fires sites m ns None ss in
      never_within t none m p.nodes p.port l (call_sites_within fires sites h m ns None ss no_port_within (grows_trans (or_never_grows t none m p.nodes p.port) g)) g
