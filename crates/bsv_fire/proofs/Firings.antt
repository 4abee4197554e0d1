-- A net in which all elements stand tells what happens in each clock, since the net tells it in each scene.
use Rattle.std.proofs.Common.{◌≡◌, ◌∙◌, ◌<◌, ◌≤◌, ◌⊎◌, inl, inr, ℕ, zero, suc, true, false, List, [], ◌∷◌, Option, Some, None, refl, sym, ap, ap₂, subst, arith, length, map}
use Rattle.std.specs.Prelude.{slice_get, unwrap_or}
use Rattle.std.proofs.lemmas.Bool.{cases_lt}
use Rattle.std.proofs.lemmas.List.{length-map}
use Rattle.std.proofs.lemmas.Option.{slice_get_past, same_Some}
use Rattle.bsv_lemmas.proofs.Places.{mapped_at}
use Rattle.bsv_bits.specs.Words.{Bits, bit}
use Rattle.bsv_prim.specs.Table.{word_at}
use Rattle.bsv_prim.specs.declared.part.Part.{Part}
use Rattle.bsv_design.specs.declared.element.Element.{Element}
use Rattle.bsv_design.specs.declared.schedule.Need.{Need}
use Rattle.bsv_design.specs.declared.schedule.Schedule.{Schedule}
use Rattle.bsv_design.specs.design.Bodies.{Target, at}
use Rattle.bsv_design.specs.design.Designs.{DesignData, IsDesign}
use Rattle.bsv_design.specs.design.Guards.{needs_of}
use Rattle.bsv_design.specs.scheme.Schemes.{Scheme, Asking, Look, design_scheme, kinds_of, outline, ports_of, trace_of, answers, given, ready, seen, value}
use Rattle.bsv_design.specs.scheme.States.{AreWordsOf}
use Rattle.bsv_design.specs.scheme.Traces.{Site, kind_at}
use Rattle.bsv_graph.specs.Orders.{In}
use Rattle.bsv_guard.specs.Fitting.{HaveWidths, IsFitCall}
use Rattle.bsv_guard.proofs.Fits.{fitting_keeps}
use Rattle.bsv_guard.proofs.Given.{given_arguments}
use Rattle.bsv_clock.proofs.Clocks.{clock_fed}
use Rattle.bsv_clock.proofs.Steadily.{steady_scheme}
use Rattle.bsv_design.specs.declared.kind.Kind.{Kind}
use Rattle.bsv_clock.specs.Shows.{TellsElements, cells_of, cell_widths, input_widths}
use Rattle.bsv_net.specs.Unasked.{Arguments, inputs_with, with_arguments}
use Rattle.bsv_clock.specs.Clocks.{IsClock, is_in}
use Rattle.bsv_clock.specs.Grounds.{BelongTogether, Fit, IsLawful, IsScheduleOf}
use Rattle.bsv_clock.specs.Looks.{clock_look}
use Rattle.bsv_clock.proofs.Stopping.{urgency_order}
use Rattle.bsv_net.specs.declared.net_data.NetData.{NetData}
use Rattle.bsv_net.specs.declared.node.Site.{Site as NetSite}
use Rattle.bsv_net.specs.Nets.{IsNet, register_widths, words}
use Rattle.bsv_net.specs.Placing.{node_at}
use Rattle.bsv_net.proofs.Solution.{satisfies}
use Rattle.bsv_fire.specs.Nets.{IsFiringNet, net}
use Rattle.bsv_net.specs.ShowsByNet.{given_at}
use Rattle.bsv_ports.specs.Ports.{arity_of}
use Rattle.bsv_fire.specs.Firing as firing
use Rattle.bsv_fire.specs.FireBuilder.{FireBuilder}
use Rattle.bsv_ports.specs.CallSites.{or_none}
use Rattle.bsv_ports.proofs.Scene.{Scene, looks}
use Rattle.bsv_fire.proofs.Frame.{Tells}
use Rattle.bsv_net.proofs.WidthsFit.{cells_have, inputs_of_scheme}
use Rattle.bsv_fire.proofs.Whole.{fires_is, fired_fires, fired_below, look_is}

-- ---- lists

pub node_there : (ns : List ℕ) (n : ℕ) → n < length ns → slice_get ns n ≡ Some (node_at ns n)
node_there [] n l = absurd (omega arith)
node_there (x ∷ ns) zero l = refl
node_there (x ∷ ns) (suc n) l = node_there ns n (omega arith)

word_of_node : (vs : List Bits) (ns : List ℕ) (n : ℕ) → n < length ns → slice_get (map (at vs) ns) n ≡ Some (at vs (node_at ns n))
word_of_node vs ns n l = mapped_at (at vs) ns n (node_at ns n) (node_there ns n l)

pub same_words : (V : ℕ → Bits) (ns : List ℕ) (ws : List Bits) → length ns ≡ length ws → ((k : ℕ) → k < length ws → V (node_at ns k) ≡ word_at ws k) → map V ns ≡ ws
same_words V [] [] l h = refl
same_words V [] (w ∷ ws) l h = absurd (omega (arith, l))
same_words V (n ∷ ns) [] l h = absurd (omega (arith, l))
same_words V (n ∷ ns) (w ∷ ws) l h = ap₂ (λ (x : Bits) (xs : List Bits). x ∷ xs) (h 0 (omega arith)) (same_words V ns ws (omega (arith, l)) (λ k m. h (suc k) (omega arith)))

-- ---- a clock

module _ (b : DesignData) (right : IsDesign b) (needs : List (List Need)) (made : Schedule) (xs : Arguments)
    (stands : (n : ℕ) → AreWordsOf (ports_of (slice_get (design_scheme b).elements n)) (xs n))
    (lawful : IsLawful (with_arguments (design_scheme b) xs)) (scheduled : IsScheduleOf (with_arguments (design_scheme b) xs) made)
    (are : needs ≡ needs_of (kinds_of b) b.elements) (c : NetData) (is : IsFiringNet b needs made c) (ordered : IsNet c)
    (q : Asking) (s : List Part) (ws : List Bits) (fit : Fit (with_arguments (design_scheme b) xs) q s) (have : HaveWidths (cell_widths (cells_of (kinds_of b))) ws) where
  abbrev T : Scheme
  T = with_arguments (design_scheme b) xs

  pub inputs_fit : HaveWidths c.inputs (inputs_with T q xs)
  unfolding design_scheme input_widths
  inputs_fit = subst (λ (us : List ℕ). HaveWidths us (inputs_with T q xs)) (sym is.inputs_are) (inputs_of_scheme T q xs stands)

  pub registers_fit : HaveWidths (register_widths c.registers) ws
  registers_fit = subst (λ (us : List ℕ). HaveWidths us ws) (sym (ap cell_widths is.registers) ∙ cells_have c.registers) have

  abbrev pub vs : List Bits
  vs = words c.nodes (inputs_with T q xs) ws

  abbrev pub scene : Scene
  scene = record {
    b = b;
    right = right;
    xs = xs;
    stands = stands;
    made = made;
    lawful = lawful;
    scheduled = scheduled;
    q = q;
    s = s;
    fit = fit;
    full = c.nodes;
    widths = ordered.widths;
    V = at vs;
    inputs = inputs_with T q xs;
    registers = ws;
    solved = satisfies c ordered (inputs_with T q xs) ws inputs_fit registers_fit;
  }

  module _ (told : Tells scene (net b needs made) made.urgency) (fired : List ℕ) (after : List Part) (clock : IsClock false T made q s fired after) where
    abbrev x : FireBuilder
    x = net b needs made

    together : BelongTogether T made q s
    together = record { lawful = lawful; schedule = scheduled; fit = fit }

    count : length T.elements ≡ length b.elements
    unfolding design_scheme
    count = length-map b.elements outline

    among : (n : ℕ) → n < length T.elements → In made.urgency n
    among n l = (urgency_order T made scheduled).each n l

    same_look : clock_look T q s fired ≡ looks scene
    same_look = look_is T made q s together fired after clock

    fire_word : (n : ℕ) → n < length T.elements → slice_get (map (at vs) c.fires) n ≡ Some (bit (is_in fired n))
    fire_word n l =
        ap (λ (ns : List ℕ). slice_get (map (at vs) ns) n) is.fires
        ∙ (word_of_node vs x.fires n (omega (arith, told.long, count))
        ∙ ap (λ (w : Bits). Some w) (told.firing.fire n (among n l) ∙ ap bit (sym (fires_is T made q s together fired after clock n l))))

    ready_word : (n : ℕ) → n < length T.elements → slice_get (map (at vs) c.readies) n ≡ Some (bit (ready false T q n (clock_look T q s fired)))
    ready_word n l =
        ap (λ (ns : List ℕ). slice_get (map (at vs) ns) n) is.readies
        ∙ (word_of_node vs x.readies n (omega (arith, told.long_readies, count))
        ∙ ap (λ (w : Bits). Some w) ((told.elements n (among n l)).readies ∙ ap (λ (a : Look). bit (ready false T q n a)) (sym same_look)))

    no_value : (n : ℕ) (a : Look) → length T.elements ≤ n → value T q n a ≡ None
    unfolding value seen design_scheme
    no_value n a l =
        ap (λ (o : Option Element). (trace_of (kinds_of b) o (answers (kinds_of b) a) (xs n)).result)
        (slice_get_past b.elements n (omega (arith, count)))

    result_word : (n : ℕ) (w : Bits) → ready false T q n (clock_look T q s fired) ≡ true → value T q n (clock_look T q s fired) ≡ Some w
        → (n < length T.elements) ⊎ (length T.elements ≤ n) → slice_get (map (at vs) c.results) n ≡ Some w
    result_word n w r v (inr l) = absurd (let e = no_value n (clock_look T q s fired) l in let f : ⊥ = cc in f)
    result_word n w r v (inl l) =
        let found = (told.elements n (among n l)).result w
        (ap (λ (a : Look). ready false T q n a) (sym same_look) ∙ r) (ap (λ (a : Look). value T q n a) (sym same_look) ∙ v) in
        ap (λ (ns : List ℕ). slice_get (map (at vs) ns) n) is.results
        ∙ (mapped_at (at vs) (map (λ o. unwrap_or o (length x.nodes)) x.results) n found.0
        (mapped_at (λ o. unwrap_or o (length x.nodes)) x.results n (Some found.0) found.1)
        ∙ ap (λ (u : Bits). Some u) found.2)

    pub tells_elements : TellsElements false T q s fired (given_at c vs)
    tells_elements = record {
      fires = fire_word;
      readies = ready_word;
      results = λ n w r v. result_word n w r v (cases_lt n (length T.elements));
    }

    site_fits : (n k : ℕ) (y : Site) → slice_get (seen T q n (looks scene)).sites k ≡ Some y → IsFitCall (kind_at T.kinds y.target) y.target.method y.arguments
    unfolding seen
    site_fits n k y there =
        lawful.fitting.calls_fit n (answers T.kinds (looks scene)) (given T q n) (fit.requests n)
        ((fitting_keeps T lawful.sound lawful.fitting).answers_fit (looks scene) (clock_fed false T made q s together (steady_scheme false T lawful)).look_fits) k y there

    -- a call that is told has as many argument words as its site has nodes
    arguments_long : (n k : ℕ) (y : Site) → n < length T.elements → slice_get (seen T q n (looks scene)).sites k ≡ Some y
        → length y.arguments ≡ arity_of (kind_at T.kinds y.target) y.target.method
    arguments_long n k y l there = arity_is (kind_at T.kinds y.target) y.target.method y.arguments (site_fits n k y there)
      where
        arity_is : (o : Option Kind) (m : ℕ) (args : List Bits) → IsFitCall o m args → length args ≡ arity_of o m
        arity_is None m args f = absurd f
        arity_is (Some kind) m args f = f.args.arity

    use_of : (n k : ℕ) (y : Site) → slice_get (seen T q n (looks scene)).sites k ≡ Some y → slice_get (T.uses n) k ≡ Some y.target
    unfolding seen
    use_of n k y there =
        ap (λ (ts : List Target). slice_get ts k) (sym (lawful.sound.uses n (answers T.kinds (looks scene)) (given T q n) (given_arguments T q n)))
        ∙ mapped_at (λ (v : Site). v.target) (seen T q n (looks scene)).sites k y there

    site_told : (n : ℕ) → In fired n → (k : ℕ) (y : Site) (z : NetSite)
        → slice_get (seen T q n (looks scene)).sites k ≡ Some y → slice_get (firing.sites_of c n) k ≡ Some z → firing.TellsSite vs y z
    site_told n i k y z there at_z =
        let l = fired_below T made q s together fired after clock n i in
        let found = told.firing.calls n (among n l) k y.target (use_of n k y there) in
        let same : found.0 ≡ z = same_Some found.0 z (sym found.1 ∙ (sym (ap (λ (ss : List (List NetSite)). slice_get (or_none (slice_get ss n)) k) is.sites) ∙ at_z)) in
        let tells = told.firing.told n (among n l) (fired_fires T made q s together fired after clock n i) k y found.0 there found.1 in
        subst (λ (w : NetSite). firing.TellsSite vs y w) same (record {
          taken = tells.taken;
          args = λ h. same_words (at vs) found.0.args y.arguments (found.2 ∙ sym (arguments_long n k y l there)) (tells.args h);
        })

    pub tells_firing : firing.TellsFiring false T q s fired c vs
    tells_firing = record {
      elements = tells_elements;
      sites = λ n i k y z there at_z.
          site_told n i k y z (subst (λ (a : Look). slice_get (seen T q n a).sites k ≡ Some y) same_look there) at_z;
    }
