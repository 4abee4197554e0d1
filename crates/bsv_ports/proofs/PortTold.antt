-- The nodes of a method tell its last call in the clock, where each element that calls it is in the net.
use Rattle.std.proofs.Common.{◌≡◌, ◌<◌, ◌∙◌, ℕ, Bool, true, false, List, [], ◌∷◌, length, map, Option, Some, None, is_some, refl, sym, ap, ap₂, subst, arith}
use Rattle.std.specs.Prelude.{slice_get}
use Rattle.std.proofs.lemmas.Option.{slice_get_within}
use Rattle.bsv_lemmas.proofs.Places.{mapped_at}
use Rattle.bsv_bits.specs.Words.{Bits, bit}
use Rattle.bsv_prim.specs.Calls.{latest}
use Rattle.bsv_prim.proofs.Orderly.{latest-append}
use Rattle.bsv_prim.specs.Table.{Table}
use Rattle.bsv_design.specs.declared.element.Call.{Call as SiteCall}
use Rattle.bsv_design.specs.declared.element.Element.{Element}
use Rattle.bsv_design.specs.declared.kind.Kind.{Kind}
use Rattle.bsv_design.specs.design.Bodies.{Target, at, target, words}
use Rattle.bsv_design.specs.parts.Kinds.{kind_table}
use Rattle.bsv_design.specs.scheme.Schemes.{Called, answers, calls, calls_of, design_scheme, kinds_of, seen, taken_actions, trace_of}
use Rattle.bsv_design.specs.scheme.Traces.{Site, body_trace, kind_at, site_at}
use Rattle.bsv_graph.specs.Edges.{numbers_below}
use Rattle.bsv_graph.specs.Orders.{In}
use Rattle.bsv_guard.specs.ElementLaws.{IsUse}
use Rattle.bsv_guard.specs.Fitting.{IsFitCall}
use Rattle.bsv_guard.specs.Turns.{calls_on}
use Rattle.bsv_guard.proofs.Fits.{fitting_keeps}
use Rattle.bsv_clock.specs.Grounds.{BelongTogether}
use Rattle.bsv_clock.specs.Settling.{IsSettled, deed, deeds, fires}
use Rattle.bsv_clock.proofs.CallLists.{calls_on-append}
use Rattle.bsv_clock.proofs.Clocks.{clock_fed}
use Rattle.bsv_clock.proofs.Settle.{clock_settles}
use Rattle.bsv_clock.proofs.SettledIsClock.{it_fires}
use Rattle.bsv_clock.proofs.Steadily.{steady_scheme}
use Rattle.bsv_net.specs.declared.node.NetNode.{NetNode}
use Rattle.bsv_net.specs.declared.node.Site.{Site as NetSite}
use Rattle.bsv_net.specs.declared.wires.MethodPort.{MethodPort}
use Rattle.bsv_net.specs.Equations.{Values}
use Rattle.bsv_net.proofs.Grows.{Grows, grows_trans}
use Rattle.bsv_ports.specs.declared.call_sites.CallSite.{CallSite}
use Rattle.bsv_ports.specs.CallSites.{or_none, all_call_sites, call_sites_in, call_sites_of}
use Rattle.bsv_ports.specs.Ports.{arity_of, PlacedSoFar, at_call_sites, or_never, port, site_in}
use Rattle.bsv_ports.proofs.Scene.{Scene, S, does, looks, TellsFiring, TellsPort, TellsSite, last_call}
use Rattle.bsv_ports.proofs.Latest.{all_made, latest_made, latest_ranked, none_made}
use Rattle.bsv_net.proofs.Numbers.{number_at}
use Rattle.bsv_ports.proofs.PortGrowth.{at_call_sites-append, at_call_sites_grows, or_never_grows}
use Rattle.bsv_ports.proofs.CallSitesTold.{CallIsTold, TellsSoFar, calls_told}

site_there : (o : Option (List NetSite)) (n : ℕ) (x : NetSite) → slice_get (or_none o) n ≡ Some x → site_in o n ≡ Some x
site_there None n x e = absurd (let h : ⊥ = cc in h)
site_there (Some xs) n x e = e

module _ (z : Scene) where
  abbrev pub ks : List Kind
  ks = kinds_of z.b

  settled : IsSettled false (S z) z.made z.q z.s (does z)
  settled = clock_settles false (S z) z.made z.lawful z.scheduled z.q z.s

  together : BelongTogether (S z) z.made z.q z.s
  together = record { lawful = z.lawful; schedule = z.scheduled; fit = z.fit }

  -- each call of an element fits, as it makes it in the clock
  pub site_fits : (n j : ℕ) (x : Site) → slice_get (seen (S z) z.q n (looks z)).sites j ≡ Some x → IsFitCall (kind_at (S z).kinds x.target) x.target.method x.arguments
  unfolding seen
  site_fits n j x e =
      z.lawful.fitting.calls_fit n (answers (S z).kinds (looks z)) (z.xs n) (z.stands n)
      ((fitting_keeps (S z) z.lawful.sound z.lawful.fitting).answers_fit (looks z) (clock_fed false (S z) z.made z.q z.s together (steady_scheme false (S z) z.lawful)).look_fits) j x e

  -- ---- an element

  module _ (f : ℕ) (e : Element) (there : slice_get z.b.elements f ≡ Some e) where
    -- the words of its nodes in the clock
    abbrev pub element_words : List Bits
    element_words = words e (answers ks (looks z)) (z.xs f)

    pub sites_are : (seen (S z) z.q f (looks z)).sites ≡ map (site_at ks element_words) e.calls
    unfolding seen design_scheme body_trace
    sites_are = ap (λ (o : Option Element). (trace_of ks o (answers ks (looks z)) (z.xs f)).sites) there

    pub use_at : (j : ℕ) (c : SiteCall) → slice_get e.calls j ≡ Some c → slice_get ((S z).uses f) j ≡ Some (target c)
    unfolding design_scheme
    use_at j c at_j = ap (λ (o : Option Element). slice_get (calls_of o) j) there ∙ mapped_at target e.calls j c at_j

  no_sites : (f : ℕ) → slice_get z.b.elements f ≡ None → (seen (S z) z.q f (looks z)).sites ≡ []
  unfolding seen design_scheme
  no_sites f there = ap (λ (o : Option Element). (trace_of ks o (answers ks (looks z)) (z.xs f)).sites) there

  -- what an element does on a part, by its sites
  latest_of_sites : (i m f : ℕ) (last : Option (List Bits)) → fires (does z) f ≡ true
      → latest m last (calls_on i (deed (does z f))) ≡ latest m last (calls_on i (taken_actions (seen (S z) z.q f (looks z)).sites))
  unfolding calls
  latest_of_sites i m f last h =
      ap (λ (d : Option (List Called)). latest m last (calls_on i (deed d))) (it_fires false (S z) z.made z.q z.s (does z) settled f h).does
      ∙ latest_ranked i m last (S z).kinds (taken_actions (seen (S z) z.q f (looks z)).sites)

  latest_of_none : (i m f : ℕ) (last : Option (List Bits)) → fires (does z) f ≡ false → latest m last (calls_on i (deed (does z f))) ≡ last
  latest_of_none i m f last h = cases (does z f) refl
    where
      cases : (o : Option (List Called)) → does z f ≡ o → latest m last (calls_on i (deed (does z f))) ≡ last
      cases None e = ap (λ (d : Option (List Called)). latest m last (calls_on i (deed d))) e
      cases (Some cs) e = absurd (let x : true ≡ false = sym (ap is_some e) ∙ h in let n : ⊥ = cc in n)

-- ---- the method

module _ (z : Scene) (firing : List ℕ) (sites : List (List NetSite)) (placed : List ℕ) (told : TellsFiring z firing sites placed)
    (i m : ℕ) (k : Kind) (is : slice_get (kinds_of z.b) i ≡ Some k) (below : m < (kind_table k).methods)
    (stand : (n : ℕ) → IsUse (S z) n (record { part = i; method = m }) → In placed n) where
  abbrev arity : ℕ
  arity = (kind_table k).arity m

  kind_is : (t : Target) → t.part ≡ i → kind_at (S z).kinds t ≡ Some k
  unfolding design_scheme
  kind_is t e = ap (slice_get (kinds_of z.b)) e ∙ is

  module _ (f : ℕ) (e : Element) (there : slice_get z.b.elements f ≡ Some e) where
    abbrev ws : List Bits
    ws = element_words z f e there

    call_told : (j : ℕ) (c : SiteCall) → slice_get e.calls j ≡ Some c
        → CallIsTold z.inputs z.registers z.V z.full z.widths z.solved arity firing sites (kinds_of z.b) i m f ws (fires (does z) f) c j
    unfolding CallIsTold
    call_told j c at_j part method = (
      site.0,
      site_there (slice_get sites f) j site.0 site.1,
      record {
        fire = told.fire f stands;
        taken_is = λ h. (site_told h).taken;
        args = λ h taken n l. (site_told h).args taken n (omega (arith, many, l));
        long = site.2 ∙ (ap (λ (o : Option Kind). arity_of o c.method) (kind_is (target c) part) ∙ ap (kind_table k).arity method);
      },
    )
      where
        same : target c ≡ record { part = i; method = m }
        same = ap₂ (λ (p n : ℕ). record { part = p; method = n }) part method

        used : slice_get ((S z).uses f) j ≡ Some (target c)
        used = use_at z f e there j c at_j

        stands : In placed f
        stands = stand f (record { index = j; is = used ∙ ap (λ (t : Target). Some t) same })

        site : (s : NetSite) × (slice_get (or_none (slice_get sites f)) j ≡ Some s) × (length s.args ≡ arity_of (kind_at (S z).kinds (target c)) c.method)
        site = told.calls f stands j (target c) used

        seen_there : slice_get (seen (S z) z.q f (looks z)).sites j ≡ Some (site_at (kinds_of z.b) ws c)
        seen_there = ap (λ (xs : List Site). slice_get xs j) (sites_are z f e there) ∙ mapped_at (site_at (kinds_of z.b) ws) e.calls j c at_j

        site_told : fires (does z) f ≡ true → TellsSite z.V (site_at (kinds_of z.b) ws c) site.0
        site_told h = told.told f stands h j (site_at (kinds_of z.b) ws c) site.0 seen_there site.1

        many : length (map (at ws) c.args) ≡ arity
        many =
            (subst (λ (o : Option Kind). IsFitCall o c.method (map (at ws) c.args)) (kind_is (target c) part)
            (site_fits z f j (site_at (kinds_of z.b) ws c) seen_there)).args.arity
            ∙ ap (kind_table k).arity method

    element_latest : (last : Option (List Bits)) → latest m last (calls_on i (deed (does z f))) ≡ latest_made (kinds_of z.b) i m ws (fires (does z) f) last e.calls
    element_latest last = cases (fires (does z) f) refl
      where
        cases : (b : Bool) → fires (does z) f ≡ b → latest m last (calls_on i (deed (does z f))) ≡ latest_made (kinds_of z.b) i m ws b last e.calls
        cases true h =
            latest_of_sites z i m f last h
            ∙ ap (λ (xs : List Site). latest m last (calls_on i (taken_actions xs))) (sites_are z f e there)
            ∙ sym (all_made (kinds_of z.b) i m ws k is below last e.calls)
        cases false h = latest_of_none z i m f last h ∙ sym (none_made (kinds_of z.b) i m ws last e.calls)

  abbrev Told : Option (List Bits) → Option MethodPort → Type 0
  Told last o = TellsSoFar z.V arity last o

  element_told : (f : ℕ) (x : Option Element) → slice_get z.b.elements f ≡ x → (ns : List NetNode) (o : Option MethodPort) (last : Option (List Bits)) → Told last o
      → Grows (at_call_sites firing sites m ns o (call_sites_in (kinds_of z.b) i f x)).nodes z.full
      → Told (latest m last (calls_on i (deed (does z f)))) (at_call_sites firing sites m ns o (call_sites_in (kinds_of z.b) i f x)).port
  unfolding at_call_sites
  element_told f None there ns o last so_far g = cases (fires (does z) f) refl
    where
      cases : (b : Bool) → fires (does z) f ≡ b → Told (latest m last (calls_on i (deed (does z f)))) o
      cases true h =
          subst (λ (l : Option (List Bits)). Told l o)
          (sym (latest_of_sites z i m f last h ∙ ap (λ (xs : List Site). latest m last (calls_on i (taken_actions xs))) (no_sites z f there))) so_far
      cases false h = subst (λ (l : Option (List Bits)). Told l o) (sym (latest_of_none z i m f last h)) so_far
  element_told f (Some e) there ns o last so_far g =
      subst (λ (l : Option (List Bits)). Told l (at_call_sites firing sites m ns o (call_sites_in (kinds_of z.b) i f (Some e))).port) (sym (element_latest f e there last))
      (calls_told z.inputs z.registers z.V z.full z.widths z.solved arity firing sites (kinds_of z.b) i m f (ws f e there) (fires (does z) f) e.calls 0
      (λ j c at_j. subst (CallIsTold z.inputs z.registers z.V z.full z.widths z.solved arity firing sites (kinds_of z.b) i m f (ws f e there) (fires (does z) f) c) (omega arith) (call_told f e there j c at_j))
      ns o last so_far g)

  order_told : (order : List ℕ) (ns : List NetNode) (o : Option MethodPort) (last : Option (List Bits)) → Told last o
      → Grows (at_call_sites firing sites m ns o (call_sites_of (kinds_of z.b) z.b.elements order i)).nodes z.full
      → Told (latest m last (calls_on i (deeds (does z) order))) (at_call_sites firing sites m ns o (call_sites_of (kinds_of z.b) z.b.elements order i)).port
  unfolding at_call_sites call_sites_of deeds
  order_told [] ns o last so_far g = so_far
  order_told (f ∷ fs) ns o last so_far g =
      let xs : List CallSite = call_sites_in (kinds_of z.b) i f (slice_get z.b.elements f) in
      let ys : List CallSite = call_sites_of (kinds_of z.b) z.b.elements fs i in
      let mid : PlacedSoFar = at_call_sites firing sites m ns o xs in
      let cut = at_call_sites-append firing sites m ns o xs ys in
      let behind : Grows (at_call_sites firing sites m mid.nodes mid.port ys).nodes z.full = subst (λ (p : PlacedSoFar). Grows p.nodes z.full) cut g in
      let now = element_told f (slice_get z.b.elements f) refl ns o last so_far (grows_trans (at_call_sites_grows firing sites m mid.nodes mid.port ys) behind) in
      let rest = order_told fs mid.nodes mid.port (latest m last (calls_on i (deed (does z f)))) now behind in
      let same = ap (latest m last) (calls_on-append i (deed (does z f)) (deeds (does z) fs)) ∙ latest-append m last (calls_on i (deed (does z f))) (calls_on i (deeds (does z) fs)) in
      subst (λ (p : PlacedSoFar). Told (latest m last (calls_on i (deeds (does z) (f ∷ fs)))) p.port) (sym cut)
      (subst (λ (l : Option (List Bits)). Told l (at_call_sites firing sites m mid.nodes mid.port ys).port) (sym same) rest)

-- where no site is live, the node that is 0 tells it
never_told : (V : Values) (t : Table) (none m : ℕ) → V none ≡ bit false → (last : Option (List Bits)) (ns : List NetNode) (o : Option MethodPort)
    → TellsSoFar V (t.arity m) last o → TellsPort V (t.arity m) last (or_never t none m (record { nodes = ns; port = o })).port
never_told V t none m e last ns (Some p) told = told.0
never_told V t none m e last ns None told = record {
  called = e ∙ ap (λ (x : Option (List Bits)). bit (is_some x)) (sym told);
  args = λ list is n l. absurd (let x : None ≡ Some list = sym told ∙ is in let h : ⊥ = cc in h);
}

pub port_told : (z : Scene) (call_sites : List (List CallSite)) → call_sites ≡ all_call_sites (kinds_of z.b) z.b.elements z.made.execution
    → (none : ℕ) → z.V none ≡ bit false
    → (firing : List ℕ) (sites : List (List NetSite)) (placed : List ℕ) → TellsFiring z firing sites placed
    → (i m : ℕ) (k : Kind) → slice_get (kinds_of z.b) i ≡ Some k → m < (kind_table k).methods
    → ((n : ℕ) → IsUse (S z) n (record { part = i; method = m }) → In placed n)
    → (ns : List NetNode) → Grows (port (kind_table k) none firing sites m ns (or_none (slice_get call_sites i))).nodes z.full
    → TellsPort z.V ((kind_table k).arity m) (last_call z i m) (port (kind_table k) none firing sites m ns (or_none (slice_get call_sites i))).port
unfolding port
port_told z call_sites are none zero_bit firing sites placed told i m k is below stand ns g =
    subst (λ (ss : List CallSite). TellsPort z.V ((kind_table k).arity m) (last_call z i m) (port (kind_table k) none firing sites m ns ss).port) (sym there)
    (never_told z.V (kind_table k) none m zero_bit (last_call z i m) all.nodes all.port
    (order_told z firing sites placed told i m k is below stand z.made.execution ns None None refl
    (grows_trans (or_never_grows (kind_table k) none m all.nodes all.port) (subst (λ (ss : List CallSite). Grows (port (kind_table k) none firing sites m ns ss).nodes z.full) there g))))
  where
    there : or_none (slice_get call_sites i) ≡ call_sites_of (kinds_of z.b) z.b.elements z.made.execution i
    there =
        ap (λ (xs : List (List CallSite)). or_none (slice_get xs i)) are
        ∙ ap (λ (x : Option (List CallSite)). or_none x)
        (mapped_at (call_sites_of (kinds_of z.b) z.b.elements z.made.execution) (numbers_below (length (kinds_of z.b))) i i
        (number_at (length (kinds_of z.b)) i (slice_get_within (kinds_of z.b) i k is)))

    all : PlacedSoFar
    all = at_call_sites firing sites m ns None (call_sites_of (kinds_of z.b) z.b.elements z.made.execution i)
