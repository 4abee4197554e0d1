-- The node that tells whether an element is ready.
use Rattle.std.proofs.Common.{◌≡◌, ◌∙◌, ℕ, suc, ◌+◌, Bool, true, false, cond, ◌&&◌, List, [], ◌∷◌, ◌++◌, map, Option, Some, None, refl, sym, ap, ap₂, subst, arith, append_assoc, append-nil}
use Rattle.std.specs.Prelude.{slice_get}
use Rattle.std.proofs.lemmas.List.{map-append}
use Rattle.bsv_lemmas.proofs.Places.{mapped_at}
use Rattle.bsv_lemmas.proofs.Truths.{both_turned}
use Rattle.bsv_bits.specs.Words.{Bits, bit}
use Rattle.bsv_design.specs.declared.element.Call.{Call}
use Rattle.bsv_design.specs.declared.element.Condition.{Condition}
use Rattle.bsv_design.specs.declared.element.Element.{Element}
use Rattle.bsv_design.specs.declared.kind.Kind.{Kind}
use Rattle.bsv_design.specs.declared.schedule.Need.{Need}
use Rattle.bsv_design.specs.design.Bodies.{Answers, at, target, words}
use Rattle.bsv_design.specs.design.Guards.{is_guarded, needs_from, needs_of}
use Rattle.bsv_design.specs.design.Words.{is_one}
use Rattle.bsv_design.specs.scheme.Schemes.{Look, all_hold, all_open, design_scheme, is_open, ready, required}
use Rattle.bsv_design.specs.scheme.Traces.{Site, Demand, demand_at, kind_at, site_at}
use Rattle.bsv_guard.proofs.Extends.{each_open}
use Rattle.bsv_net.specs.declared.node.NetNode.{NetNode}
use Rattle.bsv_net.specs.Placing.{Placed}
use Rattle.bsv_net.proofs.Grows.{Grows, grows_trans}
use Rattle.bsv_fire.specs.Bodies as placing
use Rattle.bsv_ports.specs.CallSites.{or_none}
use Rattle.bsv_fire.specs.Bodies.{Ports, all_of, guards, truths}
use Rattle.bsv_fire.specs.Grounds.{Ground}
use Rattle.bsv_fire.proofs.Bits.{all_true, all_of_means}
use Rattle.bsv_fire.proofs.Bodies.{use_of}
use Rattle.bsv_fire.proofs.BodiesGrow.{all_of_grows, guards_grow}
use Rattle.bsv_ports.proofs.Scene.{Scene, S, looks}
use Rattle.bsv_fire.proofs.Frame.{IsGround}
use Rattle.bsv_fire.proofs.Traces.{EachIsOpen, ks, own_words, fits, words_have, condition_is_fit, sites_are, demands_are, same_as_wired, truths_told}
use Rattle.bsv_fire.proofs.Wiring.{IsWired}
use Rattle.bsv_design.proofs.Elements.{unguarded}

-- ---- what is asked

-- of each of these calls whose method has a guard, whether it is open
abbrev pub opens : List Kind → Look → List Call → List Bool
opens kinds look [] = []
opens kinds look (c ∷ cs) = cond (is_guarded (kind_at kinds (target c)) c.method) (is_open kinds look (target c) ∷ opens kinds look cs) (opens kinds look cs)

plain : (t h : Bool) → required false t h ≡ h
plain t true = refl
plain t false = refl

all_opens : (kinds : List Kind) (look : Look) (ws : List Bits) (cs : List Call) → all_open false kinds look (map (site_at kinds ws) cs) ≡ all_true (opens kinds look cs)
all_opens kinds look ws [] = refl
all_opens kinds look ws (c ∷ cs) =
    ap₂ (λ (a b : Bool). a && b) (plain (site_at kinds ws c).taken (is_open kinds look (target c))) (all_opens kinds look ws cs) ∙ of (is_guarded (kind_at kinds (target c)) c.method) refl
  where
    of : (b : Bool) → is_guarded (kind_at kinds (target c)) c.method ≡ b
        → (is_open kinds look (target c) && all_true (opens kinds look cs)) ≡ all_true (cond b (is_open kinds look (target c) ∷ opens kinds look cs) (opens kinds look cs))
    of true h = refl
    of false h = ap (λ (b : Bool). b && all_true (opens kinds look cs)) (unguarded (kind_at kinds (target c)) c.method (look (target c)) h)

all_holds : (ws : List Bits) (cs : List Condition) → all_hold false (map (demand_at ws) cs) ≡ all_true (map (λ c. is_one (at ws c.truth)) cs)
all_holds ws [] = refl
all_holds ws (c ∷ cs) = ap₂ (λ (a b : Bool). a && b) (plain (is_one (at ws c.taken)) (is_one (at ws c.truth))) (all_holds ws cs)

needs_at : (kinds : List Kind) (es : List Element) (n : ℕ) (e : Element) → slice_get es n ≡ Some e → or_none (slice_get (needs_of kinds es) n) ≡ needs_from kinds 0 e.calls
needs_at kinds es n e is = ap or_none (mapped_at (λ (x : Element). needs_from kinds 0 x.calls) es n e is)

module _ (z : Scene) (n : ℕ) (e : Element) (is : slice_get z.b.elements n ≡ Some e) where
  abbrev pub holds : List Bool
  holds = map (λ c. is_one (at (own_words z n e is) c.truth)) e.conditions

  abbrev pub opened : List Bool
  opened = opens (ks z n e is) (looks z) e.calls

  pub ready_is : ready false (S z) z.q n (looks z) ≡ (all_true opened && all_true holds)
  unfolding ready design_scheme
  ready_is =
      ap₂ (λ (ds : List Demand) (xs : List Site). all_hold false ds && all_open false (ks z n e is) (looks z) xs) (demands_are z n e is) (sites_are z n e is)
      ∙ ap₂ (λ (a b : Bool). a && b) (all_holds (own_words z n e is) e.conditions) (all_opens (ks z n e is) (looks z) (own_words z n e is) e.calls)
      ∙ both_turned (all_true holds) (all_true opened)

  pub all_are_open : all_true opened ≡ true → EachIsOpen z n e is
  all_are_open h k c there =
      let each = each_open false (ks z n e is) (looks z) (map (site_at (ks z n e is) (own_words z n e is)) e.calls) (all_opens (ks z n e is) (looks z) (own_words z n e is) e.calls ∙ h) in
      sym (plain (site_at (ks z n e is) (own_words z n e is) c).taken (is_open (ks z n e is) (looks z) (target c)))
      ∙ each k (site_at (ks z n e is) (own_words z n e is) c) (mapped_at (site_at (ks z n e is) (own_words z n e is)) e.calls k c there)

  pub ready_opens : ready false (S z) z.q n (looks z) ≡ true → EachIsOpen z n e is
  ready_opens h = all_are_open (first (all_true opened) (all_true holds) (sym ready_is ∙ h))
    where
      first : (a b : Bool) → (a && b) ≡ true → a ≡ true
      first true b e = refl
      first false b e = e

  module _ (g : Ground) (ground : IsGround z g) (ports : Ports) (r : Answers) (wiring : IsWired z g.base ports n r) where
    guard_of_told : (o : Option Call) (k : ℕ) (c : Call) → slice_get e.calls k ≡ o → o ≡ Some c → (ns : List NetNode) → Grows (placing.guard_of g.base ports o ns).nodes z.full
        → z.V (placing.guard_of g.base ports o ns).place ≡ bit (is_open (ks z n e is) (looks z) (target c))
    unfolding design_scheme
    guard_of_told None k c there h ns grows = absurd (let f : ⊥ = cc in f)
    guard_of_told (Some y) k c there h ns grows =
        let same : y ≡ c = cc in
        wiring.guard_told (target y) (use_of z n e is k y there) ns grows ∙ ap (λ (x : Call). bit (is_open (ks z n e is) (looks z) (target x))) same

    guards_told : (cs : List Call) (k : ℕ) (ns : List NetNode) (so_far : List ℕ) (bs : List Bool) → ((j : ℕ) (c : Call) → slice_get cs j ≡ Some c → slice_get e.calls (k + j) ≡ Some c)
        → map z.V so_far ≡ map bit bs → Grows (guards g.base ports e.calls ns so_far (needs_from (ks z n e is) k cs)).nodes z.full
        → map z.V (guards g.base ports e.calls ns so_far (needs_from (ks z n e is) k cs)).places ≡ map bit (bs ++ opens (ks z n e is) (looks z) cs)
    unfolding guards needs_from
    guards_told [] k ns so_far bs there h grows = h ∙ ap (map bit) (sym (append-nil bs))
    guards_told (c ∷ cs) k ns so_far bs there h grows =
        of (is_guarded (kind_at (ks z n e is) (target c)) c.method) grows
        (λ ns so_far bs. guards_told cs (k + 1) ns so_far bs (λ j y at_j. ap (slice_get e.calls) (let m : (k + 1) + j ≡ k + suc j = omega arith in m) ∙ there (suc j) y at_j))
      where
        rest : List Need
        rest = needs_from (ks z n e is) (k + 1) cs

        of : (b : Bool) → Grows (guards g.base ports e.calls ns so_far (cond b (record { call = k; under = None } ∷ rest) rest)).nodes z.full
            → ((ns : List NetNode) (so_far : List ℕ) (bs : List Bool) → map z.V so_far ≡ map bit bs → Grows (guards g.base ports e.calls ns so_far rest).nodes z.full
            → map z.V (guards g.base ports e.calls ns so_far rest).places ≡ map bit (bs ++ opens (ks z n e is) (looks z) cs))
            → map z.V (guards g.base ports e.calls ns so_far (cond b (record { call = k; under = None } ∷ rest) rest)).places
            ≡ map bit (bs ++ cond b (is_open (ks z n e is) (looks z) (target c) ∷ opens (ks z n e is) (looks z) cs) (opens (ks z n e is) (looks z) cs))
        of true grows ih =
            let here : slice_get e.calls k ≡ Some c = ap (slice_get e.calls) (let m : k ≡ k + 0 = omega arith in m) ∙ there 0 c refl in
            let p = placing.guard_of g.base ports (slice_get e.calls k) ns in
            let told = guard_of_told (slice_get e.calls k) k c refl here ns (grows_trans (guards_grow g.base ports e.calls p.nodes (so_far ++ p.place ∷ []) rest) grows) in
            let o = is_open (ks z n e is) (looks z) (target c) in
            ih p.nodes (so_far ++ p.place ∷ []) (bs ++ o ∷ [])
            (map-append z.V so_far (p.place ∷ []) ∙ ap₂ (λ (vs : List Bits) (v : Bits). vs ++ v ∷ []) h told ∙ sym (map-append bit bs (o ∷ []))) grows
            ∙ ap (map bit) (append_assoc bs (o ∷ []) (opens (ks z n e is) (looks z) cs))
        of false grows ih = ih ns so_far bs h grows

    -- where these needs are asked
    abbrev ready_of : List NetNode → List ℕ → List Need → Placed
    ready_of ns places needs =
        all_of (g.base.none + 1) (guards g.base ports e.calls ns [] needs).nodes ((guards g.base ports e.calls ns [] needs).places ++ truths places e.conditions)

    ready_at : (ns : List NetNode) (places : List ℕ) → map z.V places ≡ words e r (z.xs n) → Grows (ready_of ns places (needs_from (ks z n e is) 0 e.calls)).nodes z.full
        → z.V (ready_of ns places (needs_from (ks z n e is) 0 e.calls)).place ≡ bit (ready false (S z) z.q n (looks z))
    ready_at ns places told grows =
        let needs = needs_from (ks z n e is) 0 e.calls in
        let gs = guards g.base ports e.calls ns [] needs in
        let inner = grows_trans (all_of_grows (g.base.none + 1) gs.nodes (gs.places ++ truths places e.conditions)) grows in
        let first = guards_told e.calls 0 ns [] [] (λ j c at_j. ap (slice_get e.calls) (let m : 0 + j ≡ j = omega arith in m) ∙ at_j) refl inner in
        all_of_means z.inputs z.registers z.V z.full z.widths z.solved (g.base.none + 1) gs.nodes gs.places opened (truths places e.conditions) holds ground.one first
        (λ h.
        truths_told z.V (ks z n e is) (fits z n e is).widths (own_words z n e is) (words_have z n e is) places
        (told ∙ sym (same_as_wired z n e is g ports r wiring (all_are_open h))) e.conditions (condition_is_fit z n e is)) grows
        ∙ ap bit (sym ready_is)

    pub ready_told : (ns : List NetNode) (places : List ℕ) → map z.V places ≡ words e r (z.xs n) → Grows (ready_of ns places (or_none (slice_get g.needs n))).nodes z.full
        → z.V (ready_of ns places (or_none (slice_get g.needs n))).place ≡ bit (ready false (S z) z.q n (looks z))
    ready_told ns places told =
        subst (λ (needs : List Need). Grows (ready_of ns places needs).nodes z.full → z.V (ready_of ns places needs).place ≡ bit (ready false (S z) z.q n (looks z)))
        (sym (ap (λ (all : List (List Need)). or_none (slice_get all n)) ground.needs ∙ needs_at (ks z n e is) z.b.elements n e is))
        (ready_at ns places told)
