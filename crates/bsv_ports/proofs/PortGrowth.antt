-- The nodes of a method are placed after those that are there.
use Rattle.std.proofs.Common.{◌≡◌, ℕ, Bool, true, false, List, [], ◌∷◌, ◌++◌, Option, Some, None, refl, sym, ap, subst}
use Rattle.std.specs.Prelude.{◌==◌, if◌then◌else◌}
use Rattle.bsv_bits.specs.declared.operator.Operator.TheVariants.{And, Or}
use Rattle.bsv_bits.specs.Words.{zero_word}
use Rattle.bsv_prim.specs.Table.{Table}
use Rattle.bsv_graph.specs.Edges.{numbers_below}
use Rattle.bsv_net.specs.declared.node.NetNode.{NetNode}
use Rattle.bsv_net.specs.declared.node.NetNode.TheVariants as net
use Rattle.bsv_net.specs.declared.node.Site.{Site}
use Rattle.bsv_net.specs.declared.wires.MethodPort.{MethodPort}
use Rattle.bsv_net.specs.Placing.{add, both, either, node_at}
use Rattle.bsv_net.proofs.Grows.{Grows, grows_refl, grows_trans, grows_add}
use Rattle.bsv_ports.specs.declared.call_sites.CallSite.{CallSite}
use Rattle.bsv_ports.specs.Ports.{PlacedSoFar, all_picked, at_call_site, at_call_sites, merged, or_never, port, site_at, zeros}

pub all_picked_grows : (ns : List NetNode) (live : ℕ) (so_far xs ys : List ℕ) → Grows ns (all_picked ns live so_far xs ys).nodes
unfolding all_picked
all_picked_grows ns live so_far [] ys = grows_refl ns
all_picked_grows ns live so_far (x ∷ xs) [] = grows_refl ns
all_picked_grows ns live so_far (x ∷ xs) (y ∷ ys) =
    grows_trans (grows_add ns (net.Pick live x y))
    (all_picked_grows (add ns (net.Pick live x y)).nodes live (so_far ++ (add ns (net.Pick live x y)).place ∷ []) xs ys)

pub merged_grows : (ns : List NetNode) (o : Option MethodPort) (live : ℕ) (args : List ℕ) → Grows ns (merged ns o live args).nodes
merged_grows ns None live args = grows_refl ns
merged_grows ns (Some p) live args =
    grows_trans (grows_add ns (net.Two Or p.called live)) (all_picked_grows (either ns p.called live).nodes live [] args p.args)

-- ---- a call site

-- a call of the method, where its element is in the net or not
abbrev pub with_site : List ℕ → List NetNode → Option MethodPort → ℕ → Option Site → PlacedSoFar
with_site fires ns o f None = record { nodes = ns; port = o }
with_site fires ns o f (Some x) = record {
  nodes = (merged (both ns (node_at fires f) x.taken).nodes o (both ns (node_at fires f) x.taken).place x.args).nodes;
  port = Some (merged (both ns (node_at fires f) x.taken).nodes o (both ns (node_at fires f) x.taken).place x.args).port;
}

pub with_site_grows : (fires : List ℕ) (ns : List NetNode) (o : Option MethodPort) (f : ℕ) (s : Option Site) → Grows ns (with_site fires ns o f s).nodes
with_site_grows fires ns o f None = grows_refl ns
with_site_grows fires ns o f (Some x) =
    grows_trans (grows_add ns (net.Two And (node_at fires f) x.taken))
    (merged_grows (both ns (node_at fires f) x.taken).nodes o (both ns (node_at fires f) x.taken).place x.args)

module _ (fires : List ℕ) (sites : List (List Site)) (m : ℕ) where
  pub call_site_of : (ns : List NetNode) (o : Option MethodPort) (s : CallSite) → (s.method == m) ≡ true
      → at_call_site fires sites m ns o s ≡ with_site fires ns o s.element (site_at sites s)
  call_site_of ns o s e = whole (site_at sites s) refl
    where
      whole : (x : Option Site) → site_at sites s ≡ x → at_call_site fires sites m ns o s ≡ with_site fires ns o s.element (site_at sites s)
      whole x i = ap (λ (b : Bool). if b then with_site fires ns o s.element (site_at sites s) else record { nodes = ns; port = o }) e

  pub call_site_of_other : (ns : List NetNode) (o : Option MethodPort) (s : CallSite) → (s.method == m) ≡ false → at_call_site fires sites m ns o s ≡ record { nodes = ns; port = o }
  call_site_of_other ns o s e = ap (λ (b : Bool). if b then with_site fires ns o s.element (site_at sites s) else record { nodes = ns; port = o }) e

  at_call_site_grows : (ns : List NetNode) (o : Option MethodPort) (s : CallSite) → Grows ns (at_call_site fires sites m ns o s).nodes
  at_call_site_grows ns o s = cases (s.method == m) refl
    where
      cases : (b : Bool) → (s.method == m) ≡ b → Grows ns (at_call_site fires sites m ns o s).nodes
      cases true e = subst (λ (p : PlacedSoFar). Grows ns p.nodes) (sym (call_site_of ns o s e)) (with_site_grows fires ns o s.element (site_at sites s))
      cases false e = subst (λ (p : PlacedSoFar). Grows ns p.nodes) (sym (call_site_of_other ns o s e)) (grows_refl ns)

  pub at_call_sites_grows : (ns : List NetNode) (o : Option MethodPort) (ss : List CallSite) → Grows ns (at_call_sites fires sites m ns o ss).nodes
  unfolding at_call_sites
  at_call_sites_grows ns o [] = grows_refl ns
  at_call_sites_grows ns o (s ∷ ss) =
      grows_trans (at_call_site_grows ns o s) (at_call_sites_grows (at_call_site fires sites m ns o s).nodes (at_call_site fires sites m ns o s).port ss)

  pub at_call_sites-append : (ns : List NetNode) (o : Option MethodPort) (xs ys : List CallSite)
      → at_call_sites fires sites m ns o (xs ++ ys) ≡ at_call_sites fires sites m (at_call_sites fires sites m ns o xs).nodes (at_call_sites fires sites m ns o xs).port ys
  unfolding at_call_sites
  at_call_sites-append ns o [] ys = refl
  at_call_sites-append ns o (x ∷ xs) ys = at_call_sites-append (at_call_site fires sites m ns o x).nodes (at_call_site fires sites m ns o x).port xs ys

-- ---- the method

pub zeros_grows : (t : Table) (m : ℕ) (ns : List NetNode) (so_far ks : List ℕ) → Grows ns (zeros t m ns so_far ks).nodes
unfolding zeros
zeros_grows t m ns so_far [] = grows_refl ns
zeros_grows t m ns so_far (k ∷ ks) =
    let x = net.Constant (zero_word (t.argument_width m k)) in
    grows_trans (grows_add ns x) (zeros_grows t m (add ns x).nodes (so_far ++ (add ns x).place ∷ []) ks)

pub or_never_grows : (t : Table) (none m : ℕ) (ns : List NetNode) (o : Option MethodPort) → Grows ns (or_never t none m (record { nodes = ns; port = o })).nodes
or_never_grows t none m ns None = zeros_grows t m ns [] (numbers_below (t.arity m))
or_never_grows t none m ns (Some p) = grows_refl ns

pub port_grows : (t : Table) (none : ℕ) (fires : List ℕ) (sites : List (List Site)) (m : ℕ) (ns : List NetNode) (ss : List CallSite)
    → Grows ns (port t none fires sites m ns ss).nodes
unfolding port
port_grows t none fires sites m ns ss =
    grows_trans (at_call_sites_grows fires sites m ns None ss) (or_never_grows t none m (at_call_sites fires sites m ns None ss).nodes (at_call_sites fires sites m ns None ss).port)
