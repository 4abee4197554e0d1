-- The methods that an element's methods see are placed before it, and nothing that was in the net is lost.
use Rattle.std.proofs.Common.{◌≡◌, ◌≢◌, ◌∙◌, ◌<◌, ◌⊎◌, inl, inr, ℕ, zero, suc, Bool, true, false, cond, List, [], ◌∷◌, ◌++◌, Option, Some, None, refl, sym, ap, ap₂, subst, arith, length, map}
use Rattle.std.specs.Prelude.{slice_get, slice_set, nat_lt, ◌==◌}
use Rattle.std.proofs.lemmas.Bool.{cases_eq, eq-eqb, lt-ltb, and_from}
use Rattle.std.proofs.lemmas.List.{length-map, length-set}
use Rattle.std.proofs.lemmas.Option.{slice_get_within}
use Rattle.bsv_lemmas.proofs.Places.{set_elsewhere, set_there, item_there}
use Rattle.bsv_design.specs.declared.element.Call.{Call}
use Rattle.bsv_design.specs.declared.element.Element.{Element}
use Rattle.bsv_design.specs.declared.kind.Kind.{Kind}
use Rattle.bsv_design.specs.design.Bodies.{Target, target}
use Rattle.bsv_design.specs.parts.Kinds.{kind_table}
use Rattle.bsv_design.specs.scheme.Relations.{feeds, for_some, is_seen, sees_of}
use Rattle.bsv_design.specs.scheme.Schemes.{calls_of, design_scheme, kinds_of, outline}
use Rattle.bsv_design.specs.scheme.Traces.{kind_at}
use Rattle.bsv_graph.specs.Edges.{numbers_below}
use Rattle.bsv_graph.specs.Orders.{In}
use Rattle.bsv_guard.specs.ElementLaws.{IsUse}
use Rattle.bsv_guard.specs.Fitting.{IsMethodOf}
use Rattle.bsv_guard.proofs.Lists.{item_of}
use Rattle.bsv_clock.proofs.Stopping.{feeds_before}
use Rattle.bsv_net.specs.declared.node.NetNode.{NetNode}
use Rattle.bsv_net.specs.declared.node.Site.{Site as NetSite}
use Rattle.bsv_net.specs.declared.wires.MethodPort.{MethodPort}
use Rattle.bsv_net.specs.AtHand.{placed}
use Rattle.bsv_net.proofs.Grows.{Grows, grows_trans}
use Rattle.bsv_ports.specs.CallSites.{or_none}
use Rattle.bsv_fire.specs.Bodies.{Ports}
use Rattle.bsv_fire.specs.Grounds.{Ground}
use Rattle.bsv_fire.specs.FireBuilder.{FireBuilder, is_open, with_method, with_port, with_ports, with_seen, with_seen_in}
use Rattle.bsv_ports.specs.Ports.{PlacedPort, port}
use Rattle.bsv_fire.proofs.Bodies.{use_of}
use Rattle.bsv_fire.proofs.FireTold.{more_urgent, stands_below}
use Rattle.bsv_ports.proofs.Scene.{Scene, S, TellsFiring, TellsPort, last_call}
use Rattle.bsv_fire.proofs.Frame.{IsGround, Tells, placed_port}
use Rattle.bsv_fire.proofs.Steps.{one_seen, with_ports_grows, with_seen_grows}
use Rattle.bsv_fire.proofs.Wired.{SeesPorts}
use Rattle.bsv_clock.proofs.Sight.{some_use}
use Rattle.bsv_graph.proofs.EdgeLemmas.{below_in, in_below}

-- ---- places of methods

abbrev open_of : Option (Option MethodPort) → Bool
open_of (Some None) = true
open_of _ = false

open_is : (ports : Ports) (i m : ℕ) → is_open ports i m ≡ open_of (slice_get (or_none (slice_get ports i)) m)
open_is ports i m = refl

open_is_free : (o : Option (Option MethodPort)) → open_of o ≡ true → placed o ≡ None
open_is_free None h = refl
open_is_free (Some None) h = refl
open_is_free (Some (Some p)) h = absurd (let f : ⊥ = cc in f)

not_open : (o : Option (Option MethodPort)) (x : Option MethodPort) → o ≡ Some x → open_of o ≡ false → (p : MethodPort) × (placed o ≡ Some p)
not_open None x e h = absurd (let f : ⊥ = cc in f)
not_open (Some None) x e h = absurd (let f : ⊥ = cc in f)
not_open (Some (Some p)) x e h = (p, refl)

module _ (ports : Ports) (i m : ℕ) (ps : List (Option MethodPort)) (row : slice_get ports i ≡ Some ps) (l : m < length ps) (p : MethodPort) where
  abbrev new_ports : Ports
  new_ports = slice_set ports i (slice_set (or_none (slice_get ports i)) m (Some p))

  new_row : slice_get new_ports i ≡ Some (slice_set ps m (Some p))
  new_row =
      set_there ports i (slice_set (or_none (slice_get ports i)) m (Some p)) (slice_get_within ports i ps row)
      ∙ ap (λ (o : Option (List (Option MethodPort))). Some (slice_set (or_none o) m (Some p))) row

  other_row : (j : ℕ) → i ≢ j → slice_get new_ports j ≡ slice_get ports j
  other_row j o = set_elsewhere ports i j (slice_set (or_none (slice_get ports i)) m (Some p)) o

  is_placed : placed_port new_ports i m ≡ Some p
  is_placed = ap (λ (o : Option (List (Option MethodPort))). placed (slice_get (or_none o) m)) new_row ∙ ap placed (set_there ps m (Some p) l)

  elsewhere : (j y : ℕ) → (i ≡ j → m ≡ y → ⊥) → placed_port new_ports j y ≡ placed_port ports j y
  elsewhere j y o = of (cases_eq i j)
    where
      of : (i ≡ j) ⊎ (i ≡ j → ⊥) → placed_port new_ports j y ≡ placed_port ports j y
      of (inl e) =
          subst (λ (h : ℕ). placed_port new_ports h y ≡ placed_port ports h y) e
          (ap (λ (r : Option (List (Option MethodPort))). placed (slice_get (or_none r) y)) new_row ∙ ap placed (set_elsewhere ps m y (Some p) (o e))
          ∙ sym (ap (λ (r : Option (List (Option MethodPort))). placed (slice_get (or_none r) y)) row))
      of (inr f) = ap (λ (r : Option (List (Option MethodPort))). placed (slice_get (or_none r) y)) (other_row j f)

-- ---- the numbers of methods

in_at : (xs : List ℕ) (k x : ℕ) → slice_get xs k ≡ Some x → In xs x
in_at [] k x e = absurd (let f : ⊥ = cc in f)
in_at (y ∷ xs) zero x e = let same : y ≡ x = cc in inl (sym same)
in_at (y ∷ xs) (suc k) x e = inr (in_at xs k x e)

-- ---- what uses a method

pub use_below : (z : Scene) (f : ℕ) (t : Target) → IsUse (S z) f t → f < length (S z).elements
unfolding design_scheme
use_below z f t u = of (slice_get z.b.elements f) refl u.is
  where
    of : (o : Option Element) → slice_get z.b.elements f ≡ o → slice_get (calls_of o) u.index ≡ Some t → f < length (map outline z.b.elements)
    of None e h = absurd (let g : ⊥ = cc in g)
    of (Some x) e h = omega (arith, slice_get_within z.b.elements f x e, length-map z.b.elements outline)

-- an element feeds one whose method sees one of its own
pub feeds_where : (z : Scene) (f n : ℕ) (x y : Target) → IsUse (S z) f x → IsUse (S z) n y → is_seen (S z).kinds x y ≡ true → feeds (S z) f n ≡ true
unfolding feeds
feeds_where z f n x y u v h =
    some_use (λ x. for_some (is_seen (S z).kinds x) ((S z).uses n)) ((S z).uses f) u.index x u.is (some_use (is_seen (S z).kinds x) ((S z).uses n) v.index y v.is h)

-- ---- one method after the other

-- what is placed for a method tells its last call, where all that use it are in the net
abbrev pub PortsTold : Scene → Ground → Type 0
PortsTold z g =
    (firing : List ℕ) (sites : List (List NetSite)) (stand : List ℕ) → TellsFiring z firing sites stand
    → (i m : ℕ) (k : Kind) → slice_get (kinds_of z.b) i ≡ Some k → m < (kind_table k).methods
    → ((n : ℕ) → IsUse (S z) n (record { part = i; method = m }) → In stand n)
    → (ns : List NetNode) → Grows (port (kind_table k) g.base.none firing sites m ns (or_none (slice_get g.call_sites i))).nodes z.full
    → TellsPort z.V ((kind_table k).arity m) (last_call z i m) (port (kind_table k) g.base.none firing sites m ns (or_none (slice_get g.call_sites i))).port

module _ (z : Scene) (g : Ground) (told : PortsTold z g) (stand : List ℕ) where
  -- the net still tells of the same elements, and each method that was placed stays
  pub record Added (x y : FireBuilder) : Type 0 where
    pub tells : Tells z y stand
    pub stay : (i m : ℕ) (p : MethodPort) → placed_port x.ports i m ≡ Some p → placed_port y.ports i m ≡ Some p

  none_added : (x : FireBuilder) → Tells z x stand → Added x x
  none_added x t = record { tells = t; stay = λ i m p e. e }

  both_added : (x y w : FireBuilder) → Added x y → Added y w → Added x w
  both_added x y w a b = record { tells = b.tells; stay = λ i m p e. b.stay i m p (a.stay i m p e) }

  still_sees : (x y : FireBuilder) (t : Target) → Added x y → SeesPorts z x.ports t → SeesPorts z y.ports t
  still_sees x y t a h = record {
    each = λ k there m l s.
        (let r = h.each k there m l s in
        (r.0, a.stay t.part m r.0 r.1, r.2));
  }

  -- all that use the method are in the net
  abbrev AllStand : ℕ → ℕ → Type 0
  AllStand i m = (f : ℕ) → IsUse (S z) f (record { part = i; method = m }) → In stand f

  module _ (k : Kind) (i : ℕ) (there : slice_get (kinds_of z.b) i ≡ Some k) where
    module _ (m : ℕ) (l : m < (kind_table k).methods) (all : AllStand i m) (x : FireBuilder) (t : Tells z x stand) where
      abbrev ps : List (Option MethodPort)
      ps = (t.rooms i k there).0

      row : slice_get x.ports i ≡ Some ps
      row = (t.rooms i k there).1

      within : m < length ps
      within = let e = (t.rooms i k there).2 in omega (arith, e, l)

      abbrev own : PlacedPort
      own = port (kind_table k) g.base.none x.fires x.sites m x.nodes (or_none (slice_get g.call_sites i))

      one_added : is_open x.ports i m ≡ true → Grows own.nodes z.full → Added x (with_port x i m own)
      one_added free grows = record {
        tells = record {
          nodes = grows;
          elements = λ n e. record { readies = (t.elements n e).readies; result = (t.elements n e).result };
          firing = t.firing;
          long = t.long;
          long_stoppers = t.long_stoppers;
          long_readies = t.long_readies;
          long_results = t.long_results;
          long_sites = t.long_sites;
          free = t.free;
          stopped_is = t.stopped_is;
          rooms = rooms;
          ports = ports;
        };
        stay = λ j y p e. (elsewhere x.ports i m ps row within own.port j y (λ a b. other j y p e a b)) ∙ e;
      }
        where
          other : (j y : ℕ) (p : MethodPort) → placed_port x.ports j y ≡ Some p → i ≡ j → m ≡ y → ⊥
          other j y p e a b =
              let none = open_is_free (slice_get (or_none (slice_get x.ports i)) m) free in
              let some : placed_port x.ports i m ≡ Some p = ap₂ (λ (c d : ℕ). placed_port x.ports c d) a b ∙ e in
              let f : ⊥ = cc in f

          rooms : (j : ℕ) (kind : Kind) → slice_get (kinds_of z.b) j ≡ Some kind
              → (qs : List (Option MethodPort)) × (slice_get (new_ports x.ports i m ps row within own.port) j ≡ Some qs) × (length qs ≡ (kind_table kind).methods)
          rooms j kind e = of (cases_eq i j)
            where
              of : (i ≡ j) ⊎ (i ≡ j → ⊥) → (qs : List (Option MethodPort)) × (slice_get (new_ports x.ports i m ps row within own.port) j ≡ Some qs) × (length qs ≡ (kind_table kind).methods)
              of (inl a) =
                  let r = t.rooms i kind (ap (slice_get (kinds_of z.b)) a ∙ e) in
                  let same : ps ≡ r.0 = (let u = row in let v = r.1 in cc) in (
                    slice_set ps m (Some own.port),
                    ap (slice_get (new_ports x.ports i m ps row within own.port)) (sym a) ∙ new_row x.ports i m ps row within own.port,
                    length-set ps m (Some own.port) ∙ ap length same ∙ r.2,
                  )
              of (inr f) =
                  let r = t.rooms j kind e in
                  (r.0, other_row x.ports i m ps row within own.port j f ∙ r.1, r.2)

          ports : (j y : ℕ) (kind : Kind) (p : MethodPort) → slice_get (kinds_of z.b) j ≡ Some kind → placed_port (new_ports x.ports i m ps row within own.port) j y ≡ Some p
              → TellsPort z.V ((kind_table kind).arity y) (last_call z j y) p
          ports j y kind p e at_j = of (cases_eq i j) (cases_eq m y)
            where
              same : i ≡ j → m ≡ y → TellsPort z.V ((kind_table kind).arity y) (last_call z j y) p
              same a b =
                  let own_told : TellsPort z.V ((kind_table k).arity m) (last_call z i m) own.port = told x.fires x.sites stand t.firing i m k there l all x.nodes grows in
                  let kinds_same : k ≡ kind = (let u : slice_get (kinds_of z.b) j ≡ Some k = ap (slice_get (kinds_of z.b)) (sym a) ∙ there in cc) in
                  let ports_same : own.port ≡ p = (let u : placed_port (new_ports x.ports i m ps row within own.port) j y ≡ Some own.port = ap₂ (λ (c d : ℕ). placed_port (new_ports x.ports i m ps row within own.port) c d) (sym a) (sym b) ∙ is_placed x.ports i m ps row within own.port in cc) in
                  subst (λ (c : ℕ). TellsPort z.V ((kind_table kind).arity y) (last_call z c y) p) a
                  (subst (λ (d : ℕ). TellsPort z.V ((kind_table kind).arity d) (last_call z i d) p) b
                  (subst (λ (c : Kind). TellsPort z.V ((kind_table c).arity m) (last_call z i m) p) kinds_same
                  (subst (TellsPort z.V ((kind_table k).arity m) (last_call z i m)) ports_same own_told)))

              old : (i ≡ j → m ≡ y → ⊥) → TellsPort z.V ((kind_table kind).arity y) (last_call z j y) p
              old o = t.ports j y kind p e (sym (elsewhere x.ports i m ps row within own.port j y o) ∙ at_j)

              of : (i ≡ j) ⊎ (i ≡ j → ⊥) → (m ≡ y) ⊎ (m ≡ y → ⊥) → TellsPort z.V ((kind_table kind).arity y) (last_call z j y) p
              of (inl a) (inl b) = same a b
              of (inl a) (inr f) = old (λ c d. f d)
              of (inr f) h = old (λ c d. f c)

      method_added : Grows (with_method g k i m x).nodes z.full
          → Added x (with_method g k i m x) × ((p : MethodPort) × (placed_port (with_method g k i m x).ports i m ≡ Some p))
      method_added = of (is_open x.ports i m) refl
        where
          of : (b : Bool) → is_open x.ports i m ≡ b → Grows (cond b (with_port x i m own) x).nodes z.full
              → Added x (cond b (with_port x i m own) x) × ((p : MethodPort) × (placed_port (cond b (with_port x i m own) x).ports i m ≡ Some p))
          of true h grows = (one_added h grows, (own.port, is_placed x.ports i m ps row within own.port))
          of false h grows =
              let slot = item_there ps m within in
              let is : slice_get (or_none (slice_get x.ports i)) m ≡ Some slot.0 = ap (λ (r : Option (List (Option MethodPort))). slice_get (or_none r) m) row ∙ slot.1 in
              (none_added x t, not_open (slice_get (or_none (slice_get x.ports i)) m) slot.0 is h)

    abbrev IsPlaced : FireBuilder → ℕ → Type 0
    IsPlaced x m = (p : MethodPort) × (placed_port x.ports i m ≡ Some p)

    one_seen_added : (y m : ℕ) → m < (kind_table k).methods → ((kind_table k).sees m y ≡ true → AllStand i m) → (x : FireBuilder) → Tells z x stand → Grows (one_seen g k i y x m).nodes z.full
        → Added x (one_seen g k i y x m) × ((kind_table k).sees m y ≡ true → IsPlaced (one_seen g k i y x m) m)
    one_seen_added y m l all x t = of ((kind_table k).sees m y) refl
      where
        of : (b : Bool) → (kind_table k).sees m y ≡ b → Grows (cond b (with_method g k i m x) x).nodes z.full
            → Added x (cond b (with_method g k i m x) x) × (b ≡ true → IsPlaced (cond b (with_method g k i m x) x) m)
        of true h grows = let r = method_added m l (all h) x t grows in (r.0, λ e. r.1)
        of false h grows = (none_added x t, λ e. absurd (let f : ⊥ = cc in f))

    seen_added : (y : ℕ) (ms : List ℕ) → ((m : ℕ) → In ms m → m < (kind_table k).methods) → ((m : ℕ) → (kind_table k).sees m y ≡ true → AllStand i m)
        → (x : FireBuilder) → Tells z x stand → Grows (with_seen g k i y x ms).nodes z.full
        → Added x (with_seen g k i y x ms) × ((m : ℕ) → In ms m → (kind_table k).sees m y ≡ true → IsPlaced (with_seen g k i y x ms) m)
    unfolding with_seen
    seen_added y [] below all x t grows = (none_added x t, λ m e. absurd e)
    seen_added y (m ∷ ms) below all x t grows =
        let w = one_seen g k i y x m in
        let first = one_seen_added y m (below m (inl refl)) (all m) x t (grows_trans (with_seen_grows g k i y w ms) grows) in
        let rest = seen_added y ms (λ h e. below h (inr e)) all w first.0.tells grows in (
          both_added x w (with_seen g k i y w ms) first.0 rest.0,
          λ h e s. elim e [
            | inl a ↦ (let p = first.1 (subst (λ (c : ℕ). (kind_table k).sees c y ≡ true) a s) in (p.0, ap (placed_port (with_seen g k i y w ms).ports i) a ∙ rest.0.stay i m p.0 p.1))
            | inr b ↦ rest.1 h b s
          ],
        )

  -- ---- all methods that a method sees

  -- a method of its part, where all that use one that it sees are in the net
  pub record IsUsable (t : Target) : Type 0 where
    pub is_method : IsMethodOf (kind_at (S z).kinds t) t.method
    pub all : (k : Kind) → kind_at (S z).kinds t ≡ Some k → (m : ℕ) → (kind_table k).sees m t.method ≡ true → AllStand t.part m

  module _ (ground : IsGround z g) where
    seen_in_added : (t : Target) → IsUsable t → (o : Option Kind) → slice_get (kinds_of z.b) t.part ≡ o → (x : FireBuilder) → Tells z x stand
        → Grows (with_seen_in g o t.part t.method x).nodes z.full → Added x (with_seen_in g o t.part t.method x) × SeesPorts z (with_seen_in g o t.part t.method x).ports t
    unfolding design_scheme
    seen_in_added t u None e x tells grows =
        absurd (subst (λ (o : Option Kind). IsMethodOf o t.method) e u.is_method)
    seen_in_added t u (Some k) e x tells grows = of (nat_lt t.method (kind_table k).methods) (lt-ltb t.method (kind_table k).methods below) grows
      where
        below : t.method < (kind_table k).methods
        below = subst (λ (o : Option Kind). IsMethodOf o t.method) e u.is_method

        all : List ℕ
        all = numbers_below (kind_table k).methods

        sees : Added x (with_seen g k t.part t.method x all) → ((m : ℕ) → In all m → (kind_table k).sees m t.method ≡ true → (p : MethodPort) × (placed_port (with_seen g k t.part t.method x all).ports t.part m ≡ Some p))
            → SeesPorts z (with_seen g k t.part t.method x all).ports t
        sees a h = record {
          each = λ kind there m l s.
              (let same : k ≡ kind = cc in
              let l_own = subst (λ (c : Kind). m < (kind_table c).methods) (sym same) l in
              let s_own = subst (λ (c : Kind). (kind_table c).sees m t.method ≡ true) (sym same) s in
              let p = h m (below_in (kind_table k).methods m l_own) s_own in
              (p.0, p.1, a.tells.ports t.part m kind p.0 there p.1));
        }

        of : (b : Bool) → b ≡ true → Grows (cond b (with_seen g k t.part t.method x all) x).nodes z.full
            → Added x (cond b (with_seen g k t.part t.method x all) x) × SeesPorts z (cond b (with_seen g k t.part t.method x all) x).ports t
        of true h grows =
            let r = seen_added k t.part e t.method all (in_below (kind_table k).methods) (u.all k e) x tells grows in
            (r.0, sees r.0 r.1)
        of false h grows = absurd (let f : ⊥ = cc in f)

    pub ports_added : (cs : List Call) → ((j : ℕ) (c : Call) → slice_get cs j ≡ Some c → IsUsable (target c)) → (x : FireBuilder) → Tells z x stand → Grows (with_ports g x cs).nodes z.full
        → Added x (with_ports g x cs) × ((j : ℕ) (c : Call) → slice_get cs j ≡ Some c → SeesPorts z (with_ports g x cs).ports (target c))
    unfolding with_ports
    ports_added [] usable x tells grows = (none_added x tells, λ j c e. absurd (let f : ⊥ = cc in f))
    ports_added (c ∷ cs) usable x tells grows =
        let w = with_seen_in g (slice_get g.base.kinds c.part) c.part c.method x in
        let kinds : slice_get (kinds_of z.b) c.part ≡ slice_get g.base.kinds c.part = ap (λ (ks : List Kind). slice_get ks c.part) (sym ground.kinds) in
        let first = seen_in_added (target c) (usable 0 c refl) (slice_get g.base.kinds c.part) kinds x tells (grows_trans (with_ports_grows g w cs) grows) in
        let rest = ports_added cs (λ j d e. usable (suc j) d e) w first.0.tells grows in
        (both_added x w (with_ports g w cs) first.0 rest.0, each w first.1 rest)
      where
        each : (w : FireBuilder) → SeesPorts z w.ports (target c) → Added w (with_ports g w cs) × ((j : ℕ) (d : Call) → slice_get cs j ≡ Some d → SeesPorts z (with_ports g w cs).ports (target d))
            → (j : ℕ) (d : Call) → slice_get (c ∷ cs) j ≡ Some d → SeesPorts z (with_ports g w cs).ports (target d)
        each w first rest zero d e =
            let same : c ≡ d = cc in
            subst (λ (y : Call). SeesPorts z (with_ports g w cs).ports (target y)) same (still_sees w (with_ports g w cs) (target c) rest.0 first)
        each w first rest (suc j) d e = rest.1 j d e

-- ---- an element

module _ (z : Scene) (g : Ground) (ground : IsGround z g) (told : PortsTold z g) (stand rest : List ℕ) (n : ℕ) (split : z.made.urgency ≡ stand ++ n ∷ rest) where
  -- all that use a method that one of its methods sees come before it
  pub usable : (t : Target) → IsUse (S z) n t → IsUsable z g told stand t
  usable t u = record {
    is_method = z.lawful.fitting.methods n t u;
    all = λ k there m s f v.
        (let seen : is_seen (S z).kinds (record { part = t.part; method = m }) t ≡ true =
        and_from (t.part == t.part) (sees_of (kind_at (S z).kinds t) m t.method) (eq-eqb t.part t.part refl) (ap (λ (o : Option Kind). sees_of o m t.method) there ∙ s) in
        more_urgent z stand rest n split f
        (feeds_before (S z) z.made z.scheduled f n (use_below z f (record { part = t.part; method = m }) v) (stands_below z stand rest n split)
        (feeds_where z f n (record { part = t.part; method = m }) t v u seen)));
  }

  use_is : (e : Element) → slice_get z.b.elements n ≡ Some e → (t : Target) → IsUse (S z) n t → (k : ℕ) × (c : Call) × (slice_get e.calls k ≡ Some c) × (target c ≡ t)
  unfolding design_scheme
  use_is e is t u =
      let i = item_of target e.calls u.index t (ap (λ (o : Option Element). slice_get (calls_of o) u.index) (sym is) ∙ u.is) in
      (u.index, i.item, i.is, i.gives)

  pub seen_placed : (e : Element) → slice_get z.b.elements n ≡ Some e → (x : FireBuilder) → Tells z x stand → Grows (with_ports g x e.calls).nodes z.full
      → Tells z (with_ports g x e.calls) stand × ((t : Target) → IsUse (S z) n t → SeesPorts z (with_ports g x e.calls).ports t)
  seen_placed e is x tells grows =
      let r = ports_added z g told stand ground e.calls (λ j c at_j. usable (target c) (use_of z n e is j c at_j)) x tells grows in
      (r.0.tells, λ t u. (let i = use_is e is t u in subst (SeesPorts z (with_ports g x e.calls).ports) i.3 (r.1 i.0 i.1 i.2)))
