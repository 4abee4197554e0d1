-- What the net so far holds of the elements that are in it, whatever the words of its nodes are.
use Rattle.std.proofs.Common.{◌≡◌, ◌≢◌, ◌∙◌, ◌<◌, ◌⊎◌, inl, inr, ℕ, Bool, true, false, cond, List, [], ◌∷◌, ◌++◌, Option, Some, None, refl, sym, ap, subst, arith, length, option_map, append-nil, append_assoc}
use Rattle.std.specs.Prelude.{slice_get, slice_set, nat_lt, ◌==◌}
use Rattle.std.proofs.lemmas.Bool.{eqb-true, eqb-false}
use Rattle.std.proofs.lemmas.Option.{slice_get_within, same_Some}
use Rattle.std.proofs.lemmas.List.{length-set, length-replicate}
use Rattle.bsv_lemmas.proofs.Places.{set_there, set_elsewhere}
use Rattle.bsv_design.specs.declared.element.Call.{Call}
use Rattle.bsv_design.specs.declared.element.Element.{Element}
use Rattle.bsv_design.specs.declared.kind.Kind.{Kind}
use Rattle.bsv_design.specs.parts.Kinds.{kind_table}
use Rattle.bsv_graph.specs.Edges.{numbers_below}
use Rattle.bsv_graph.specs.Orders.{In}
use Rattle.bsv_net.specs.declared.node.NetNode.{NetNode}
use Rattle.bsv_net.specs.declared.node.Site.{Site}
use Rattle.bsv_net.specs.Placing.{node_at}
use Rattle.bsv_ports.specs.CallSites.{or_none}
use Rattle.bsv_fire.specs.Bodies.{sites}
use Rattle.bsv_fire.specs.Grounds.{Ground}
use Rattle.bsv_ports.specs.Ports.{port}
use Rattle.bsv_fire.specs.FireBuilder.{FireBuilder, element_body, is_open, with_port, with_method, with_seen, with_seen_in, with_ports, with_element, with_number, grown, none_placed}

-- beside the nodes, the ports and who is stopped, both hold the same
pub record HoldSame (x y : FireBuilder) : Type 0 where
  pub fires : x.fires ≡ y.fires
  pub readies : x.readies ≡ y.readies
  pub results : x.results ≡ y.results
  pub sites : x.sites ≡ y.sites

pub same_again : (x : FireBuilder) → HoldSame x x
same_again x = record { fires = refl; readies = refl; results = refl; sites = refl }

pub same_then : (x y z : FireBuilder) → HoldSame x y → HoldSame y z → HoldSame x z
same_then x y z a b = record {
  fires = a.fires ∙ b.fires;
  readies = a.readies ∙ b.readies;
  results = a.results ∙ b.results;
  sites = a.sites ∙ b.sites;
}

hold_if : (b : Bool) (y x : FireBuilder) → HoldSame y x → HoldSame (cond b y x) x
hold_if true y x h = h
hold_if false y x h = same_again x

module _ (g : Ground) where
  method_holds : (k : Kind) (i m : ℕ) (x : FireBuilder) → HoldSame (with_method g k i m x) x
  method_holds k i m x =
      hold_if (is_open x.ports i m) (with_port x i m (port (kind_table k) g.base.none x.fires x.sites m x.nodes (or_none (slice_get g.call_sites i)))) x
      (record { fires = refl; readies = refl; results = refl; sites = refl })

  seen_if : (k : Kind) (i m : ℕ) (x : FireBuilder) (b : Bool) → HoldSame (cond b (with_method g k i m x) x) x
  seen_if k i m x b = hold_if b (with_method g k i m x) x (method_holds k i m x)

  seen_holds : (k : Kind) (i y : ℕ) (x : FireBuilder) (ms : List ℕ) → HoldSame (with_seen g k i y x ms) x
  unfolding with_seen
  seen_holds k i y x [] = same_again x
  seen_holds k i y x (m ∷ ms) =
      let next = cond ((kind_table k).sees m y) (with_method g k i m x) x in
      same_then (with_seen g k i y next ms) next x (seen_holds k i y next ms) (seen_if k i m x ((kind_table k).sees m y))

  seen_in_holds : (o : Option Kind) (i y : ℕ) (x : FireBuilder) → HoldSame (with_seen_in g o i y x) x
  seen_in_holds None i y x = same_again x
  seen_in_holds (Some k) i y x =
      let seen = numbers_below (kind_table k).methods in
      hold_if (nat_lt y (kind_table k).methods) (with_seen g k i y x seen) x (seen_holds k i y x seen)

  pub ports_hold : (x : FireBuilder) (cs : List Call) → HoldSame (with_ports g x cs) x
  unfolding with_ports
  ports_hold x [] = same_again x
  ports_hold x (c ∷ cs) =
      let next = with_seen_in g (slice_get g.base.kinds c.part) c.part c.method x in
      same_then (with_ports g next cs) next x (ports_hold next cs) (seen_in_holds (slice_get g.base.kinds c.part) c.part c.method x)

-- each of these elements has its result and its sites, over places of its own, and the lists are as long as there are elements
pub record Holds (es : List Element) (x : FireBuilder) (placed : List ℕ) : Type 0 where
  pub long_fires : length x.fires ≡ length es
  pub long_readies : length x.readies ≡ length es
  pub long_results : length x.results ≡ length es
  pub long_sites : length x.sites ≡ length es
  pub each : (n : ℕ) (e : Element) → In placed n → slice_get es n ≡ Some e
      → (places : List ℕ) × (slice_get x.results n ≡ Some (option_map (node_at places) e.result))
      × (slice_get x.sites n ≡ Some (sites places e.calls))

pub last_or_front : (xs : List ℕ) (n k : ℕ) → In (xs ++ n ∷ []) k → (In xs k) ⊎ (k ≡ n)
last_or_front [] n k (inl e) = inr e
last_or_front [] n k (inr i) = absurd i
last_or_front (x ∷ xs) n k (inl e) = inl (inl e)
last_or_front (x ∷ xs) n k (inr i) = of (last_or_front xs n k i)
  where
    of : (In xs k) ⊎ (k ≡ n) → (In (x ∷ xs) k) ⊎ (k ≡ n)
    of (inl j) = inl (inr j)
    of (inr e) = inr e

module _ (g : Ground) where
  -- an element that is placed is there, and the others stay
  module _ (x : FireBuilder) (placed : List ℕ) (h : Holds g.elements x placed) (n : ℕ) (e : Element) (there : slice_get g.elements n ≡ Some e) where
    abbrev y : FireBuilder
    y = with_ports g x e.calls

    within : n < length g.elements
    within = slice_get_within g.elements n e there

    same : HoldSame y x
    same = ports_hold g x e.calls

    abbrev placed_at : List ℕ
    placed_at = (element_body g y n e).places

    abbrev results : List (Option ℕ)
    results = slice_set y.results n (option_map (node_at placed_at) e.result)

    abbrev all_sites : List (List Site)
    all_sites = slice_set y.sites n (sites placed_at e.calls)

    abbrev Stands : ℕ → Element → Type 0
    Stands k f =
        (places : List ℕ) × (slice_get results k ≡ Some (option_map (node_at places) f.result))
        × (slice_get all_sites k ≡ Some (sites places f.calls))

    it_stands : Stands n e
    it_stands = (
      placed_at,
      set_there y.results n (option_map (node_at placed_at) e.result) (omega (arith, within, ap length same.results, h.long_results)),
      set_there y.sites n (sites placed_at e.calls) (omega (arith, within, ap length same.sites, h.long_sites)),
    )

    other_stands : (k : ℕ) (f : Element) → n ≢ k → In placed k → slice_get g.elements k ≡ Some f → Stands k f
    other_stands k f differ i at =
        let old = h.each k f i at in (
          old.0,
          set_elsewhere y.results n k (option_map (node_at placed_at) e.result) differ ∙ (ap (λ (xs : List (Option ℕ)). slice_get xs k) same.results ∙ old.1),
          set_elsewhere y.sites n k (sites placed_at e.calls) differ ∙ (ap (λ (xs : List (List Site)). slice_get xs k) same.sites ∙ old.2),
        )

    each_stands : (k : ℕ) (f : Element) → In (placed ++ n ∷ []) k → slice_get g.elements k ≡ Some f → (b : Bool) → (n == k) ≡ b → Stands k f
    each_stands k f i at true q =
        let e_is : n ≡ k = eqb-true n k q in
        let f_is : e ≡ f = same_Some e f (sym there ∙ (ap (slice_get g.elements) e_is ∙ at)) in
        subst (λ (m : ℕ). Stands m f) e_is (subst (λ (d : Element). Stands n d) f_is it_stands)
    each_stands k f i at false q = other_stands k f (eqb-false n k q) (of (last_or_front placed n k i)) at
      where
        of : (In placed k) ⊎ (k ≡ n) → In placed k
        of (inl j) = j
        of (inr j) = absurd (eqb-false n k q (sym j))

    pub element_holds : Holds g.elements (with_element g x n e) (placed ++ n ∷ [])
    unfolding with_element
    element_holds = record {
      long_fires = length-set y.fires n _ ∙ (ap length same.fires ∙ h.long_fires);
      long_readies = length-set y.readies n _ ∙ (ap length same.readies ∙ h.long_readies);
      long_results = length-set y.results n _ ∙ (ap length same.results ∙ h.long_results);
      long_sites = length-set y.sites n _ ∙ (ap length same.sites ∙ h.long_sites);
      each = λ k f i at. each_stands k f i at (n == k) refl;
    }

  number_holds : (x : FireBuilder) (placed : List ℕ) → Holds g.elements x placed → (n : ℕ) (o : Option Element) → slice_get g.elements n ≡ o
      → Holds g.elements (with_number g x n o) (placed ++ n ∷ [])
  number_holds x placed h n (Some e) there = element_holds x placed h n e there
  number_holds x placed h n None past = record {
    long_fires = h.long_fires;
    long_readies = h.long_readies;
    long_results = h.long_results;
    long_sites = h.long_sites;
    each = λ k f i at. h.each k f (of (last_or_front placed n k i) at) at;
  }
    where
      of : {k : ℕ} {f : Element} → (In placed k) ⊎ (k ≡ n) → slice_get g.elements k ≡ Some f → In placed k
      of {k} {f} (inl j) at = j
      of {k} {f} (inr j) at = absurd (let e : slice_get g.elements n ≡ Some f = ap (slice_get g.elements) (sym j) ∙ at in let no_one : ⊥ = cc in no_one)

  pub grown_holds : (x : FireBuilder) (placed ns : List ℕ) → Holds g.elements x placed → Holds g.elements (grown g x ns) (placed ++ ns)
  unfolding grown
  grown_holds x placed [] h = subst (λ (ms : List ℕ). Holds g.elements x ms) (sym (append-nil placed)) h
  grown_holds x placed (n ∷ ns) h =
      subst (λ (ms : List ℕ). Holds g.elements (grown g (with_number g x n (slice_get g.elements n)) ns) ms) (append_assoc placed (n ∷ []) ns)
      (grown_holds (with_number g x n (slice_get g.elements n)) (placed ++ n ∷ []) ns (number_holds x placed h n (slice_get g.elements n) refl))

pub none_holds : (ks : List Kind) (es : List Element) (ns : List NetNode) → Holds es (none_placed ks (length es) ns) []
none_holds ks es ns = record {
  long_fires = length-replicate (length es) 0;
  long_readies = length-replicate (length es) 0;
  long_results = length-replicate (length es) None;
  long_sites = length-replicate (length es) [];
  each = λ n e i at. absurd i;
}
