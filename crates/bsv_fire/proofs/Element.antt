-- An element that is in the net, too: the net tells of it what it told of the others.
use Rattle.std.proofs.Common.{◌≡◌, ◌≢◌, ◌∙◌, ◌<◌, ◌≤◌, ◌&&◌, ◌||◌, ◌⊎◌, inl, inr, ℕ, Bool, true, false, not, List, [], ◌∷◌, ◌++◌, Option, Some, None, is_some, refl, sym, ap, ap₂, subst, arith, length, map}
use Rattle.std.specs.Prelude.{slice_get, option_map}
use Rattle.std.specs.List.{list_any}
use Rattle.std.proofs.lemmas.Bool.{and_parts, cases_lt, ltb-true}
use Rattle.std.proofs.lemmas.List.{length-map, length-set}
use Rattle.std.proofs.lemmas.Option.{slice_get_past}
use Rattle.std.proofs.lemmas.List.Folds.{list_any-append}
use Rattle.bsv_lemmas.proofs.Places.{mapped_at, set_elsewhere, set_there}
use Rattle.bsv_lemmas.proofs.Truths.{or_false}
use Rattle.bsv_bits.specs.Words.{Bits, bit}
use Rattle.bsv_design.specs.declared.element.Element.{Element}
use Rattle.bsv_design.specs.design.Bodies.{Answers, Target, at, target, words}
use Rattle.bsv_design.specs.design.Roles.{gives_value}
use Rattle.bsv_design.specs.scheme.Schemes.{calls_of, design_scheme, kinds_of, outline, ready, seen, value}
use Rattle.bsv_design.specs.scheme.Traces.{Site, kind_at}
use Rattle.bsv_design.specs.design.Widths.{has_width, method_fits, result_fits}
use Rattle.bsv_graph.specs.Orders.{In}
use Rattle.bsv_graph.proofs.LeastLemmas.{in_left, in_parts, in_right}
use Rattle.bsv_guard.proofs.Lists.{item_of}
use Rattle.bsv_clock.specs.Clocks.{is_in, may_fire}
use Rattle.bsv_clock.specs.Settling.{fires, is_stopped, or_no_numbers, stops_in}
use Rattle.bsv_clock.proofs.Stopping.{stops_true, stops_within}
use Rattle.bsv_net.specs.declared.node.Site.{Site as NetSite}
use Rattle.bsv_net.specs.Placing.{Placed, node_at}
use Rattle.bsv_net.proofs.Grows.{Grows, grows_trans}
use Rattle.bsv_ports.specs.CallSites.{or_none}
use Rattle.bsv_fire.specs.Bodies.{site, sites}
use Rattle.bsv_ports.specs.Ports.{arity_of, PlacedAll}
use Rattle.bsv_fire.specs.Grounds.{Ground}
use Rattle.bsv_fire.specs.FireBuilder.{Stopping, FireBuilder, all_stopped, at_nodes, element_body, element_fire, element_ready, flattened, placed}
use Rattle.bsv_fire.proofs.Stopping.{TellsStop, all_stopped_long, all_stopped_told}
use Rattle.bsv_fire.proofs.Bodies.{body_told}
use Rattle.bsv_fire.proofs.FireTold.{fire_told, fires_where, once, stands_below}
use Rattle.bsv_ports.proofs.Scene.{Scene, S, does, looks, TellsFiring, TellsSite}
use Rattle.bsv_fire.proofs.Frame.{IsGround, Tells, TellsElement}
use Rattle.bsv_fire.proofs.Ready.{ready_opens, ready_told}
use Rattle.bsv_fire.proofs.Setting.{node_elsewhere, node_there}
use Rattle.bsv_fire.proofs.Steps.{all_stopped_grows, fire_grows, ready_grows}
use Rattle.bsv_fire.proofs.Traces.{arguments_stand, call_is_fit, calls_told, fits, own_words, same_as_wired, sites_are, value_is, word_told, words_have}
use Rattle.bsv_fire.proofs.Wiring.{IsWired}
use Rattle.bsv_graph.proofs.Fronts.{not_yet}

module _ (z : Scene) (g : Ground) (ground : IsGround z g) (stand rest : List ℕ) (n : ℕ) (split : z.made.urgency ≡ stand ++ n ∷ rest) (e : Element) (is : slice_get z.b.elements n ≡ Some e) (x : FireBuilder) (tells : Tells z x stand) (r : Answers) (wiring : IsWired z g.base x.ports n r) (grows : Grows (placed g x n e).nodes z.full) where
  -- ---- what is placed

  abbrev bodied : PlacedAll
  bodied = element_body g x n e

  abbrev with_body : FireBuilder
  with_body = at_nodes x bodied.nodes

  abbrev readied : Placed
  readied = element_ready g with_body n e bodied.places

  abbrev with_readied : FireBuilder
  with_readied = at_nodes with_body readied.nodes

  abbrev fired : Placed
  fired = element_fire g with_readied n e readied.place

  abbrev stops : List ℕ
  stops = or_none (slice_get g.stops n)

  abbrev stopping : Stopping
  stopping = all_stopped fired.place fired.nodes x.stoppers stops

  fired_grows : Grows fired.nodes z.full
  fired_grows = grows_trans (all_stopped_grows fired.place fired.nodes x.stoppers stops) grows

  readied_grows : Grows readied.nodes z.full
  readied_grows = grows_trans (fire_grows g with_readied n e readied.place) fired_grows

  bodied_grows : Grows bodied.nodes z.full
  bodied_grows = grows_trans (ready_grows g with_body n e bodied.places) readied_grows

  -- ---- what it tells

  places_told : map z.V bodied.places ≡ words e r (z.xs n)
  places_told = body_told z g ground x.ports n e is r wiring x.nodes bodied_grows

  readied_told : z.V readied.place ≡ bit (ready false (S z) z.q n (looks z))
  readied_told = ready_told z n e is g ground x.ports r wiring bodied.nodes bodied.places places_told readied_grows

  fired_told : z.V fired.place ≡ bit (is_some (does z n))
  fired_told =
      fire_told z stand rest n split g ground e is readied.nodes (flattened (slice_get x.stoppers n)) readied.place readied_told (tells.free n) (tells.stopped_is n) fired_grows

  -- where it is ready, its nodes have the words of its flat body under the look of the clock
  places_own : ready false (S z) z.q n (looks z) ≡ true → map z.V bodied.places ≡ own_words z n e is
  places_own h = places_told ∙ sym (same_as_wired z n e is g x.ports r wiring (ready_opens z n e is h))

  fires_ready : fires (does z) n ≡ true → ready false (S z) z.q n (looks z) ≡ true
  fires_ready h = middle (may_fire (S z) z.q n) (ready false (S z) z.q n (looks z)) (not (is_stopped z.made (does z) n)) (sym (fires_where z n) ∙ h)
    where
      middle : (a b c : Bool) → ((a && b) && c) ≡ true → b ≡ true
      middle true true c e = refl
      middle true false c e = e
      middle false b c e = absurd (let f : ⊥ = cc in f)

  own_sites_told : fires (does z) n ≡ true → (k : ℕ) (c : Site) (s : NetSite) → slice_get (seen (S z) z.q n (looks z)).sites k ≡ Some c → slice_get (sites bodied.places e.calls) k ≡ Some s
      → TellsSite z.V c s
  own_sites_told h k c s there at_k =
      calls_told z.V (kinds_of z.b) (fits z n e is).widths (own_words z n e is) (words_have z n e is) bodied.places (places_own (fires_ready h)) e.calls (call_is_fit z n e is) k c s
      (ap (λ (xs : List Site). slice_get xs k) (sym (sites_are z n e is)) ∙ there) at_k

  own_calls : (k : ℕ) (t : Target) → slice_get ((S z).uses n) k ≡ Some t
      → (s : NetSite) × (slice_get (sites bodied.places e.calls) k ≡ Some s) × (length s.args ≡ arity_of (kind_at (S z).kinds t) t.method)
  unfolding design_scheme
  own_calls k t there =
      let i = item_of target e.calls k t (ap (λ (o : Option Element). slice_get (calls_of o) k) (sym is) ∙ there) in
      let c = i.item in
      let fit = and_parts (has_width (slice_get (fits z n e is).widths c.taken) 1) (method_fits (slice_get (kinds_of z.b) c.part) (fits z n e is).widths c) (call_is_fit z n e is k c i.is) in
      let many = (arguments_stand (slice_get (kinds_of z.b) c.part) (fits z n e is).widths c fit.1).many in (
        site bodied.places c,
        mapped_at (site bodied.places) e.calls k c i.is,
        length-map c.args (node_at bodied.places) ∙ many ∙ ap (λ (u : Target). arity_of (kind_at (kinds_of z.b) u) u.method) i.gives,
      )

  own_result : (w : Bits) → ready false (S z) z.q n (looks z) ≡ true → value (S z) z.q n (looks z) ≡ Some w
      → (k : ℕ) × (option_map (node_at bodied.places) e.result ≡ Some k) × (z.V k ≡ w)
  own_result w h v = of e.result refl
    where
      own_value : option_map (at (own_words z n e is)) e.result ≡ Some w
      own_value = sym (value_is z n e is) ∙ v

      within : (b : Bool) (k : ℕ) → result_fits (fits z n e is).widths b (Some k) ≡ true → k < length (fits z n e is).widths
      within true k l = ltb-true k (length (fits z n e is).widths) l
      within false k l = absurd (let f : ⊥ = cc in f)

      of : (o : Option ℕ) → e.result ≡ o → (k : ℕ) × (option_map (node_at bodied.places) e.result ≡ Some k) × (z.V k ≡ w)
      of None o = absurd (let f : None ≡ Some w = ap (option_map (at (own_words z n e is))) (sym o) ∙ own_value in let a : ⊥ = cc in a)
      of (Some k) o =
          let same : at (own_words z n e is) k ≡ w = (let f : Some (at (own_words z n e is) k) ≡ Some w = ap (option_map (at (own_words z n e is))) (sym o) ∙ own_value in cc) in
          let l = within (gives_value e.role) k (ap (result_fits (fits z n e is).widths (gives_value e.role)) (sym o) ∙ (fits z n e is).result) in (
            node_at bodied.places k,
            ap (option_map (node_at bodied.places)) o,
            word_told z.V (kinds_of z.b) (fits z n e is).widths (own_words z n e is) (words_have z n e is) bodied.places (places_own h) k l ∙ same,
          )

  -- ---- lists

  below : n < length z.b.elements
  unfolding design_scheme
  below = let l = stands_below z stand rest n split in omega (arith, l, length-map z.b.elements outline)

  fresh : ¬ In stand n
  fresh = not_yet stand rest n (once z stand rest n split)

  apart : (m : ℕ) → In stand m → n ≢ m
  apart m i e = fresh (subst (In stand) (sym e) i)

  there_fires : n < length x.fires
  there_fires = let l = below in omega (arith, l, tells.long)

  there_readies : n < length x.readies
  there_readies = let l = below in omega (arith, l, tells.long_readies)

  there_results : n < length x.results
  there_results = let l = below in omega (arith, l, tells.long_results)

  there_sites : n < length x.sites
  there_sites = let l = below in omega (arith, l, tells.long_sites)

  abbrev more : FireBuilder
  more = placed g x n e

  elements : (m : ℕ) → In (stand ++ n ∷ []) m → TellsElement z more m
  elements m i = of (in_parts stand (n ∷ []) m i)
    where
      old : In stand m → TellsElement z more m
      old j = record {
        readies = ap z.V (node_elsewhere x.readies n m readied.place (apart m j)) ∙ (tells.elements m j).readies;
        result = λ w h v.
            (let k = (tells.elements m j).result w h v in
            (k.0, set_elsewhere x.results n m (option_map (node_at bodied.places) e.result) (apart m j) ∙ k.1, k.2));
      }

      own : TellsElement z more n
      own = record {
        readies = ap z.V (node_there x.readies n readied.place there_readies) ∙ readied_told;
        result = λ w h v.
            (let k = own_result w h v in
            (k.0, set_there x.results n (option_map (node_at bodied.places) e.result) there_results ∙ ap (λ (o : Option ℕ). Some o) k.1, k.2));
      }

      of : In stand m ⊎ In (n ∷ []) m → TellsElement z more m
      of (inl j) = old j
      of (inr (inl s)) = subst (TellsElement z more) (sym s) own
      of (inr (inr f)) = absurd f

  abbrev AllCalls : ℕ → Type 0
  AllCalls m =
      (k : ℕ) (t : Target) → slice_get ((S z).uses m) k ≡ Some t
      → (s : NetSite) × (slice_get (or_none (slice_get more.sites m)) k ≡ Some s) × (length s.args ≡ arity_of (kind_at (S z).kinds t) t.method)

  abbrev AllTold : ℕ → Type 0
  AllTold m =
      fires (does z) m ≡ true → (k : ℕ) (c : Site) (s : NetSite) → slice_get (seen (S z) z.q m (looks z)).sites k ≡ Some c → slice_get (or_none (slice_get more.sites m)) k ≡ Some s
      → TellsSite z.V c s

  firing : TellsFiring z more.fires more.sites (stand ++ n ∷ [])
  firing = record {
    fire = λ m i. fire m (in_parts stand (n ∷ []) m i);
    calls = λ m i k t there. calls m (in_parts stand (n ∷ []) m i) k t there;
    told = λ m i. told m (in_parts stand (n ∷ []) m i);
    others = others;
  }
    where
      row_here : or_none (slice_get more.sites n) ≡ sites bodied.places e.calls
      row_here = ap or_none (set_there x.sites n (sites bodied.places e.calls) there_sites)

      row_elsewhere : (m : ℕ) → n ≢ m → or_none (slice_get more.sites m) ≡ or_none (slice_get x.sites m)
      row_elsewhere m o = ap or_none (set_elsewhere x.sites n m (sites bodied.places e.calls) o)

      fire : (m : ℕ) → In stand m ⊎ In (n ∷ []) m → z.V (node_at more.fires m) ≡ bit (is_some (does z m))
      fire m (inl j) = ap z.V (node_elsewhere x.fires n m fired.place (apart m j)) ∙ tells.firing.fire m j
      fire m (inr (inl s)) =
          subst (λ (c : ℕ). z.V (node_at more.fires c) ≡ bit (is_some (does z c))) (sym s) (ap z.V (node_there x.fires n fired.place there_fires) ∙ fired_told)
      fire m (inr (inr f)) = absurd f

      own_row : AllCalls n
      own_row k t there = let s = own_calls k t there in (s.0, ap (λ (ss : List NetSite). slice_get ss k) row_here ∙ s.1, s.2)

      calls : (m : ℕ) → In stand m ⊎ In (n ∷ []) m → AllCalls m
      calls m (inl j) = λ k t there.
          (let s = tells.firing.calls m j k t there in
          (s.0, ap (λ (ss : List NetSite). slice_get ss k) (row_elsewhere m (apart m j)) ∙ s.1, s.2))
      calls m (inr (inl s)) = subst AllCalls (sym s) own_row
      calls m (inr (inr f)) = absurd f

      own_told : AllTold n
      own_told h k c s there at_k = own_sites_told h k c s there (ap (λ (ss : List NetSite). slice_get ss k) (sym row_here) ∙ at_k)

      told : (m : ℕ) → In stand m ⊎ In (n ∷ []) m → AllTold m
      told m (inl j) = λ h k c s there at_k.
          tells.firing.told m j h k c s there (ap (λ (ss : List NetSite). slice_get ss k) (sym (row_elsewhere m (apart m j))) ∙ at_k)
      told m (inr (inl s)) = subst AllTold (sym s) own_told
      told m (inr (inr f)) = absurd f

      others : (m : ℕ) → ¬ In (stand ++ n ∷ []) m → or_none (slice_get more.sites m) ≡ []
      others m o =
          row_elsewhere m (λ s. o (in_right stand (n ∷ []) m (inl (sym s)))) ∙ tells.firing.others m (λ i. o (in_left stand (n ∷ []) m i))

  -- ---- which are stopped

  same_stops : (m : ℕ) → is_in stops m ≡ stops_in z.made n m
  unfolding stops_in
  same_stops m = ap (λ (xs : List ℕ). is_in xs m) (ap (λ (all : List (List ℕ)). or_none (slice_get all n)) ground.stops ∙ same (slice_get z.made.stops n))
    where
      same : (o : Option (List ℕ)) → or_none o ≡ or_no_numbers o
      same None = refl
      same (Some xs) = refl

  abbrev any_stops : List ℕ → ℕ → Bool
  any_stops ms m = list_any (λ f. stops_in z.made f m) ms

  abbrev any_stopped : List ℕ → ℕ → Bool
  any_stopped ms m = list_any (λ f. fires (does z) f && stops_in z.made f m) ms

  any_one_more : (t : ℕ → Bool) → (list_any t stand || t n) ≡ list_any t (stand ++ n ∷ [])
  any_one_more t = ap (λ (b : Bool). list_any t stand || b) (sym (or_false (t n))) ∙ sym (list_any-append t stand (n ∷ []))

  -- no element that there is not is stopped
  none_stops : (f m : ℕ) → length z.b.elements ≤ m → stops_in z.made f m ≡ false
  unfolding design_scheme
  none_stops f m l = of (stops_in z.made f m) refl
    where
      of : (b : Bool) → stops_in z.made f m ≡ b → b ≡ false
      of false h = refl
      of true h =
          let w = (stops_within (S z) z.made z.scheduled f m (stops_true (S z) z.made z.scheduled f m h)).1 in
          absurd (omega (arith, w, l, length-map z.b.elements outline))

  none_any : (ms : List ℕ) (m : ℕ) → length z.b.elements ≤ m → any_stops ms m ≡ false
  none_any [] m l = refl
  none_any (f ∷ ms) m l = ap₂ (λ (a b : Bool). a || b) (none_stops f m l) (none_any ms m l)

  none_any_fires : (ms : List ℕ) (m : ℕ) → any_stops ms m ≡ false → any_stopped ms m ≡ false
  none_any_fires [] m h = refl
  none_any_fires (f ∷ ms) m h =
      let k = both_false (stops_in z.made f m) (any_stops ms m) h in
      ap₂ (λ (a b : Bool). a || b) (one (fires (does z) f) (stops_in z.made f m) k.0) (none_any_fires ms m k.1)
    where
      one : (a b : Bool) → b ≡ false → (a && b) ≡ false
      one true b e = e
      one false b e = refl

      both_false : (a b : Bool) → (a || b) ≡ false → (a ≡ false) × (b ≡ false)
      both_false true b e = absurd (let f : ⊥ = cc in f)
      both_false false b e = (refl, e)

  stop_told : (m : ℕ) → m < length z.b.elements → TellsStop z.V (flattened (slice_get stopping.stoppers m)) (any_stops (stand ++ n ∷ []) m) (any_stopped (stand ++ n ∷ []) m)
  stop_told m l =
      let o = flattened (slice_get stopping.stoppers m) in
      let before : TellsStop z.V (flattened (slice_get x.stoppers m)) (any_stops stand m) (any_stopped stand m) =
      record { free = tells.free m; quiet = λ h. none_any_fires stand m (tells.free m h); stopped_is = tells.stopped_is m } in
      let now = all_stopped_told z.inputs z.registers z.V z.full z.widths z.solved fired.place (is_some (does z n)) fired_told stops fired.nodes x.stoppers m (any_stops stand m) (any_stopped stand m)
      (subst (λ (k : ℕ). m < k) (sym tells.long_stoppers) l) before grows in
      subst (λ (b : Bool). TellsStop z.V o b (any_stopped (stand ++ n ∷ []) m)) (ap (λ (b : Bool). any_stops stand m || b) (same_stops m) ∙ any_one_more (λ f. stops_in z.made f m))
      (subst (λ (b : Bool). TellsStop z.V o (any_stops stand m || is_in stops m) b)
      (ap (λ (b : Bool). any_stopped stand m || (fires (does z) n && b)) (same_stops m) ∙ any_one_more (λ f. fires (does z) f && stops_in z.made f m)) now)

  free : (m : ℕ) → flattened (slice_get stopping.stoppers m) ≡ None → any_stops (stand ++ n ∷ []) m ≡ false
  free m h = elim (cases_lt m (length z.b.elements)) [ inl l ↦ (stop_told m l).free h | inr l ↦ none_any (stand ++ n ∷ []) m l ]

  still_stopped : (m k : ℕ) → flattened (slice_get stopping.stoppers m) ≡ Some k → z.V k ≡ bit (any_stopped (stand ++ n ∷ []) m)
  still_stopped m k h = elim (cases_lt m (length z.b.elements)) [
    | inl l ↦ (stop_told m l).stopped_is k h
    | inr l ↦ (let past = slice_get_past stopping.stoppers m (let a = all_stopped_long fired.place fired.nodes x.stoppers stops in omega (arith, a, l, tells.long_stoppers)) in
        let none : None ≡ Some k = ap flattened (sym past) ∙ h in absurd (let f : ⊥ = cc in f))
  ]

  pub element_told : Tells z (placed g x n e) (stand ++ n ∷ [])
  element_told = record {
    nodes = grows;
    elements = elements;
    firing = firing;
    long = length-set x.fires n fired.place ∙ tells.long;
    long_stoppers = all_stopped_long fired.place fired.nodes x.stoppers stops ∙ tells.long_stoppers;
    long_readies = length-set x.readies n readied.place ∙ tells.long_readies;
    long_results = length-set x.results n (option_map (node_at bodied.places) e.result) ∙ tells.long_results;
    long_sites = length-set x.sites n (sites bodied.places e.calls) ∙ tells.long_sites;
    free = free;
    stopped_is = still_stopped;
    rooms = tells.rooms;
    ports = tells.ports;
  }
