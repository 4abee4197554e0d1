-- The net with the next words of the registers carries the design: it tells what the net before told, and its next words
-- show the parts after the clock.
use Rattle.std.proofs.Common.{◌≡◌, ◌∙◌, ◌<◌, ◌≤◌, ◌+◌, ◌⊎◌, inl, inr, ℕ, Bool, true, false, List, [], ◌∷◌, ◌++◌, Some, None, is_some, refl, sym, ap, ap₂, subst, arith, length, map, drop, append-nil}
use Rattle.std.specs.Prelude.{slice_get, nat_lt, if◌then◌else◌}
use Rattle.std.proofs.Math.Logic.{∥∥₁_elim}
use Rattle.std.proofs.lemmas.Bool.{cases_lt, lt-ltb, ltb-true}
use Rattle.std.proofs.lemmas.List.{length-map}
use Rattle.std.proofs.lemmas.Option.{slice_get_within, slice_get_past, same_Some}
use Rattle.bsv_lemmas.proofs.Places.{mapped_at, at_left, at_right, item_there}
use Rattle.bsv_lemmas.proofs.Choices.{option_set}
use Rattle.bsv_bits.specs.Words.{Bits, bit}
use Rattle.bsv_prim.specs.Table.{word_at}
use Rattle.bsv_prim.specs.declared.part.Part.{Part}
use Rattle.bsv_design.specs.declared.design.Design.{Design}
use Rattle.bsv_design.specs.declared.kind.Kind.{Kind}
use Rattle.bsv_design.specs.declared.kind.Kind.TheVariants.{Reg, RegU, Wire, DWire, RWire, Pulse, Plain, Pipeline, Bypass}
use Rattle.bsv_design.specs.declared.schedule.Schedule.{Schedule}
use Rattle.bsv_design.specs.design.Bodies.{Target, at}
use Rattle.bsv_design.specs.design.Designs.{DesignData, IsDesign}
use Rattle.bsv_design.specs.parts.Kinds.{kind_table}
use Rattle.bsv_design.specs.design.Words.{or_zero}
use Rattle.bsv_design.specs.scheme.Seen.{design_data}
use Rattle.bsv_design.specs.scheme.Schemes.{Scheme, Asking, Look, calls_of, design_scheme, kinds_of, given, outline, ports_of, seen}
use Rattle.bsv_design.specs.scheme.States.{AreWordsOf, FitsKinds, part_at}
use Rattle.bsv_design.specs.scheme.Traces.{Site, kind_at}
use Rattle.bsv_graph.specs.Edges.{numbers_below}
use Rattle.bsv_graph.specs.Orders.{In}
use Rattle.bsv_guard.specs.ElementLaws.{IsUse}
use Rattle.bsv_guard.specs.Fitting.{HaveWidths}
use Rattle.bsv_clock.specs.Shows.{Cell, Given, Shows, TellsElements, TellsClock, Carries, cell, cells_of, cell_widths, inputs_of}
use Rattle.bsv_clock.specs.Clocks.{IsClock, is_in}
use Rattle.bsv_clock.specs.Grounds.{BelongTogether, Fit, IsLawful, IsScheduleOf, KeepsRules}
use Rattle.bsv_clock.specs.Looks.{clock_look}
use Rattle.bsv_clock.specs.Settling.{end_of, fires, fired_in}
use Rattle.bsv_clock.proofs.Belonging.{lawful_design}
use Rattle.bsv_clock.proofs.Clocks.{clock_fed}
use Rattle.bsv_clock.proofs.Members.{in_kept}
use Rattle.bsv_clock.proofs.Steadily.{steady_scheme}
use Rattle.bsv_clock.proofs.Stopping.{execution_order}
use Rattle.bsv_net.specs.declared.net_data.NetData.{NetData}
use Rattle.bsv_net.specs.declared.net.Net.{Net}
use Rattle.bsv_net.specs.declared.node.NetNode.{NetNode}
use Rattle.bsv_net.specs.declared.node.NetNode.TheVariants as net
use Rattle.bsv_net.specs.declared.node.Site.{Site as NetSite}
use Rattle.bsv_net.specs.AtHand.{net_data}
use Rattle.bsv_net.specs.Nets.{IsNet, register_widths, words}
use Rattle.bsv_net.specs.Placing.{node_at}
use Rattle.bsv_net.proofs.Evaluating.{words_long}
use Rattle.bsv_net.proofs.Grows.{Grows, grows_trans, kept, length_grows}
use Rattle.bsv_net.proofs.Solution.{satisfies, same_length, words_have}
use Rattle.bsv_ports.specs.CallSites.{or_none, all_call_sites}
use Rattle.bsv_ports.specs.Ports.{arity_of}
use Rattle.bsv_fire.specs.Firing as firing
use Rattle.bsv_fire.specs.Firing.{Fires}
use Rattle.bsv_net.specs.Unasked.{Arguments, IgnoresUnasked, MayBeArguments, inputs_with, with_arguments}
use Rattle.bsv_net.specs.ShowsByNet.{NamesNoResult, NamesResults, NetCarries, gives, given_at}
use Rattle.bsv_ports.specs.Starts.{register_starts}
use Rattle.bsv_ports.proofs.FirstNodes.{part_shown, register_start, registers_before, word_after}
use Rattle.bsv_net.proofs.WidthsFit.{cells_have, inputs_given, inputs_of_scheme}
use Rattle.bsv_net.proofs.WithArguments.{all_told as all_given_told, clock_with, each_gets, fit_with, given_may_be, lawful_with, others_told, schedule_with}
use Rattle.bsv_fire.proofs.Firings.{node_there}
use Rattle.bsv_ports.proofs.Scene.{Scene, does, looks, TellsFiring, TellsSite}
use Rattle.bsv_fire.proofs.GroundTold.{registers_within}
use Rattle.bsv_net.proofs.Numbers.{number_at}
use Rattle.bsv_fire.proofs.Whole.{after_is, fired_is, fires_is, look_is}
use Rattle.bsv_mux.specs.Nexts.{IsNextNet, Told, next_words, renamed, told, with_registers}
use Rattle.bsv_mux.proofs.NextsTold.{NextsTold, nexts_grow, nexts_told, words_are}
use Rattle.bsv_mux.proofs.Older.{Named, named, results_renamed, words_grown}
use Rattle.bsv_graph.proofs.Below.{count_below}
use Rattle.bsv_clock.proofs.Propositions.{bits_set}

-- ---- lists

-- ---- registers after the nodes

module _ (ns : List NetNode) (count : ℕ) where
  abbrev behind : List NetNode
  behind = map net.Register (numbers_below count) ++ (net.Constant (bit false) ∷ [])

  many : length (map net.Register (numbers_below count)) ≡ count
  many = length-map (numbers_below count) net.Register ∙ count_below count

  pub register_stands : (k : ℕ) → k < count → slice_get (with_registers ns count) (length ns + k) ≡ Some (net.Register k)
  register_stands k l =
      at_right ns behind k
      ∙ (at_left (map net.Register (numbers_below count)) (net.Constant (bit false) ∷ []) k (omega (arith, many))
      ∙ mapped_at net.Register (numbers_below count) k k (number_at count k l))

  pub zero_stands : slice_get (with_registers ns count) (length ns + count) ≡ Some (net.Constant (bit false))
  zero_stands =
      at_right ns behind count
      ∙ (ap (slice_get behind) (omega (arith, many)) ∙ at_right (map net.Register (numbers_below count)) (net.Constant (bit false) ∷ []) 0)

-- ---- the nodes that were there

module _ (b : DesignData) (made : Schedule) (c e : NetData) (is : IsNextNet b made c e) where
  registers_grown : Grows (with_registers c.nodes (length c.registers)) e.nodes
  unfolding next_words
  registers_grown =
      subst (λ (ns : List NetNode). Grows (with_registers c.nodes (length c.registers)) ns) (sym is.nodes)
      (nexts_grow (told b made c) (register_starts (length c.nodes) (kinds_of b)) (all_call_sites (kinds_of b) b.elements made.execution) 0
      (with_registers c.nodes (length c.registers)) [] (kinds_of b))

  nodes_grown : Grows c.nodes e.nodes
  nodes_grown = grows_trans (record { more = behind c.nodes (length c.registers); is = refl }) registers_grown

-- ---- a clock

module _ (b : DesignData) (right : IsDesign b) (made : Schedule) (xs : Arguments)
    (stands : (n : ℕ) → AreWordsOf (ports_of (slice_get (design_scheme b).elements n)) (xs n))
    (lawful : IsLawful (with_arguments (design_scheme b) xs)) (scheduled : IsScheduleOf (with_arguments (design_scheme b) xs) made)
    (c : NetData) (before : IsNet c) (promise : Fires false (design_scheme b) made c) (e : NetData) (is : IsNextNet b made c e) (ordered : IsNet e)
    (q : Asking) (s : List Part) (ws : List Bits) (fit : Fit (with_arguments (design_scheme b) xs) q s) (have : HaveWidths (cell_widths (cells_of (kinds_of b))) ws)
    (shows : Shows (kinds_of b) s ws) where
  abbrev T : Scheme
  T = with_arguments (design_scheme b) xs

  cells_are : map cell c.registers ≡ cells_of (kinds_of b)
  unfolding design_scheme
  cells_are = promise.registers

  before_inputs : HaveWidths c.inputs (inputs_with T q xs)
  unfolding inputs_with
  before_inputs = subst (λ (us : List ℕ). HaveWidths us (inputs_with T q xs)) (sym promise.inputs) (inputs_of_scheme (design_scheme b) q xs stands)

  before_registers : HaveWidths (register_widths c.registers) ws
  before_registers = subst (λ (us : List ℕ). HaveWidths us ws) (sym (ap cell_widths cells_are) ∙ cells_have c.registers) have

  inputs_fit : HaveWidths e.inputs (inputs_with T q xs)
  inputs_fit = subst (λ (us : List ℕ). HaveWidths us (inputs_with T q xs)) (sym is.inputs) before_inputs

  registers_fit : HaveWidths (register_widths e.registers) ws
  registers_fit = subst (λ (rs : List _). HaveWidths (register_widths rs) ws) (sym is.registers) before_registers

  -- the words of the nodes, and those of the net before
  abbrev vs : List Bits
  vs = words e.nodes (inputs_with T q xs) ws

  abbrev old : List Bits
  old = words c.nodes (inputs_with T q xs) ws

  abbrev scene : Scene
  scene = record {
    b = b;
    right = right;
    xs = xs;
    stands = stands;
    made = made;
    lawful = lawful;
    scheduled = scheduled;
    q = q;
    s = s;
    fit = fit;
    full = e.nodes;
    widths = ordered.widths;
    V = at vs;
    inputs = inputs_with T q xs;
    registers = ws;
    solved = satisfies e ordered (inputs_with T q xs) ws inputs_fit registers_fit;
  }

  abbrev count : ℕ
  count = length c.registers

  abbrev x : Told
  x = told b made c

  grown_registers : Grows (with_registers c.nodes count) e.nodes
  grown_registers = registers_grown b made c e is

  grown_nodes : Grows c.nodes e.nodes
  grown_nodes = nodes_grown b made c e is

  -- the nodes of the net before keep their words
  old_long : length before.widths ≡ length old
  old_long = same_length before.widths old (words_have c before (inputs_with T q xs) ws before_inputs before_registers)

  same_word : (n : ℕ) → n < length old → at vs n ≡ at old n
  same_word n l =
      let g = words_grown c.nodes e.nodes grown_nodes (inputs_with T q xs) ws in
      ap (λ (us : List Bits). at us n) g.1 ∙ ap or_zero (at_left old g.0 n l)

  names : Named vs old c
  names = named vs old before.widths (λ n l. same_word n (omega (arith, old_long, l))) c before.in_order

  module _ (fired : List ℕ) (after : List Part) (clock : IsClock false T made q s fired after) (tells : firing.TellsFiring false T q s fired c old) where
    together : BelongTogether T made q s
    together = record { lawful = lawful; schedule = scheduled; fit = fit }

    same_look : clock_look T q s fired ≡ looks scene
    same_look = look_is T made q s together fired after clock

    -- ---- what fires and its calls

    below : (n : ℕ) → In made.execution n → n < length T.elements
    below n i = (execution_order T made scheduled).below n i

    old_node : (ns : List ℕ) (n : ℕ) (w : Bits) → n < length ns → slice_get (map (at old) ns) n ≡ Some w → at old (node_at ns n) ≡ w
    old_node ns n w l h = same_Some (at old (node_at ns n)) w (sym (mapped_at (at old) ns n (node_at ns n) (node_there ns n l)) ∙ h)

    new_node : (ns : List ℕ) (n : ℕ) (w : Bits) → n < length ns → map (at vs) ns ≡ map (at old) ns → slice_get (map (at old) ns) n ≡ Some w → at vs (node_at ns n) ≡ w
    new_node ns n w l same h =
        same_Some (at vs (node_at ns n)) w
        (sym (mapped_at (at vs) ns n (node_at ns n) (node_there ns n l)) ∙ (ap (λ (us : List Bits). slice_get us n) same ∙ h))

    fire_told : (n : ℕ) → In made.execution n → at vs (node_at c.fires n) ≡ bit (is_some (does scene n))
    fire_told n i =
        let l = below n i in
        new_node c.fires n (bit (is_in fired n)) (omega (arith, promise.count, l)) names.fires (tells.elements.fires n l)
        ∙ ap bit (fires_is T made q s together fired after clock n l)

    calls_told : (n : ℕ) → In made.execution n → (k : ℕ) (t : Target) → slice_get (T.uses n) k ≡ Some t
        → (y : NetSite) × (slice_get (or_none (slice_get c.sites n)) k ≡ Some y) × (length y.args ≡ arity_of (kind_at T.kinds t) t.method)
    calls_told n i k t used =
        let found = item_there (firing.sites_of c n) k (omega (arith, promise.calls n (below n i), slice_get_within (T.uses n) k t used)) in
        (found.0, found.1, promise.arguments n k t found.0 used found.1)

    fires_in : (n : ℕ) → In made.execution n → fires (does scene) n ≡ true → In fired n
    unfolding fired_in
    fires_in n i h = subst (λ (ns : List ℕ). In ns n) (sym (fired_is T made q s together fired after clock)) (in_kept (fires (does scene)) made.execution n i h)

    site_told : (n : ℕ) → In made.execution n → fires (does scene) n ≡ true → (k : ℕ) (a : Site) (y : NetSite)
        → slice_get (seen T q n (looks scene)).sites k ≡ Some a → slice_get (or_none (slice_get c.sites n)) k ≡ Some y → TellsSite (at vs) a y
    site_told n i h k a y there at_y =
        let told = tells.sites n (fires_in n i h) k a y (subst (λ (l : Look). slice_get (seen T q n l).sites k ≡ Some a) (sym same_look) there) at_y in
        let same = names.sites n k y at_y in
        record {
          taken = same.0 ∙ told.taken;
          args = λ taken j l.
              let are : map (at vs) y.args ≡ a.arguments = same.1 ∙ told.args taken in
              sym (words_are (at vs) y.args j (omega (arith, l, ap length are, length-map y.args (at vs)))) ∙ ap (λ (us : List Bits). word_at us j) are;
        }

    no_others : (n : ℕ) → ¬ In made.execution n → (n < length T.elements) ⊎ (length T.elements ≤ n) → or_none (slice_get c.sites n) ≡ []
    no_others n out (inl l) = absurd (out ((execution_order T made scheduled).each n l))
    no_others n out (inr l) = ap or_none (slice_get_past c.sites n (omega (arith, promise.count_sites)))

    firing_told : TellsFiring scene c.fires c.sites made.execution
    firing_told = record {
      fire = fire_told;
      calls = calls_told;
      told = site_told;
      others = λ n out. no_others n out (cases_lt n (length T.elements));
    }

    no_uses : (n : ℕ) → length T.elements ≤ n → T.uses n ≡ []
    unfolding design_scheme
    no_uses n past = ap calls_of (slice_get_past b.elements n (omega (arith, length-map b.elements outline)))

    each_use : (n i m : ℕ) → IsUse T n (record { part = i; method = m }) → (n < length T.elements) ⊎ (length T.elements ≤ n) → In made.execution n
    each_use n i m u (inl l) = (execution_order T made scheduled).each n l
    each_use n i m u (inr l) =
        absurd (let t : Target = record { part = i; method = m } in
        let f : None ≡ Some t = ap (λ (ts : List Target). slice_get ts u.index) (sym (no_uses n l)) ∙ u.is in let g : ⊥ = cc in g)

    -- ---- what they stand on

    zero_bit : at vs (length c.nodes + count) ≡ bit false
    zero_bit = scene.solved.operates (length c.nodes + count) (net.Constant (bit false)) (kept grown_registers (length c.nodes + count) (net.Constant (bit false)) (zero_stands c.nodes count))

    register_word : (k : ℕ) → k < count → at vs (length c.nodes + k) ≡ at ws k
    register_word k l = scene.solved.operates (length c.nodes + k) (net.Register k) (kept grown_registers (length c.nodes + k) (net.Register k) (register_stands c.nodes count k l))

    long_cells : count ≡ length (cells_of (kinds_of b))
    long_cells = sym (length-map c.registers cell) ∙ ap length cells_are

    shown_told : (i : ℕ) (k : Kind) → slice_get (kinds_of b) i ≡ Some k
        → (r : ℕ → Bits) × (kind_table k).Shows (part_at s i) r × ((n : ℕ) → n < (kind_table k).registers → at vs (node_at (register_starts (length c.nodes) (kinds_of b)) i + n) ≡ r n)
    shown_told i k there = (
      word_at (drop (registers_before (kinds_of b) i) ws),
      part_shown (kinds_of b) s ws shows i k there,
      λ n l. ap (λ m. at vs (m + n)) (register_start (length c.nodes) (kinds_of b) i (slice_get_within (kinds_of b) i k there))
          ∙ (ap (at vs) (omega arith)
          ∙ (register_word (registers_before (kinds_of b) i + n) (omega (arith, l, long_cells, registers_within (kinds_of b) i k there))
          ∙ sym (word_after ws (registers_before (kinds_of b) i) n))),
    )

    ends_fit : FitsKinds (kinds_of b) (end_of T made s (does scene))
    unfolding design_scheme
    ends_fit = (clock_fed false T made q s together (steady_scheme false T lawful)).end_fits

    all_told : NextsTold scene x zero_bit made.execution firing_told (λ n i m u. each_use n i m u (cases_lt n (length T.elements)))
        (all_call_sites (kinds_of b) b.elements made.execution) refl (register_starts (length c.nodes) (kinds_of b)) shown_told [] (kinds_of b) (end_of T made s (does scene)) (next_words b made c)
    unfolding next_words
    all_told =
        nexts_told scene x zero_bit made.execution firing_told (λ n i m u. each_use n i m u (cases_lt n (length T.elements)))
        (all_call_sites (kinds_of b) b.elements made.execution) refl (register_starts (length c.nodes) (kinds_of b)) shown_told (kinds_of b) (end_of T made s (does scene)) ends_fit 0
        (λ j. ap (slice_get (kinds_of b)) (omega arith)) (λ j. ap (part_at (end_of T made s (does scene))) (omega arith)) (with_registers c.nodes count) []
        (subst (λ (ns : List NetNode). Grows ns e.nodes) is.nodes (record { more = []; is = sym (append-nil e.nodes) }))

    places_are : e.nexts ≡ all_told.more
    places_are = is.nexts_are ∙ all_told.is

    results_are : map (at vs) e.results ≡ map (at old) c.results
    results_are =
        ap (map (at vs)) (is.results ∙ ap₂ (λ (m n : ℕ). map (renamed m n) c.results) old_nodes new_nodes)
        ∙ results_renamed vs old same_word c.results
      where
        old_nodes : length c.nodes ≡ length old
        old_nodes = sym (words_long c.nodes (inputs_with T q xs) ws)

        new_nodes : length (next_words b made c).nodes ≡ length vs
        new_nodes = ap length (sym is.nodes) ∙ sym (words_long e.nodes (inputs_with T q xs) ws)

    elements_told : TellsElements false T q s fired (given_at e vs)
    elements_told = record {
      fires = λ n l. ap (λ (us : List Bits). slice_get us n) (ap (map (at vs)) is.fires ∙ names.fires) ∙ tells.elements.fires n l;
      readies = λ n l. ap (λ (us : List Bits). slice_get us n) (ap (map (at vs)) is.readies ∙ names.readies) ∙ tells.elements.readies n l;
      results = λ n w r v. ap (λ (us : List Bits). slice_get us n) results_are ∙ tells.elements.results n w r v;
    }

    -- the net tells the clock
    pub clock_told : TellsClock false T q s fired after (gives e ws (inputs_with T q xs))
    unfolding design_scheme
    clock_told = record {
      elements = elements_told;
      nexts =
          subst (λ (ps : List Part). Shows (kinds_of b) ps (map (at vs) e.nexts)) (sym (after_is T made q s together fired after clock))
          (subst (λ (ns : List ℕ). Shows (kinds_of b) (end_of T made s (does scene)) (map (at vs) ns)) (sym places_are) all_told.shows);
    }

-- ---- the whole

shows_prop : (k : Kind) (p : Part) (r : ℕ → Bits) → IsProp ((kind_table k).Shows p r)
shows_prop (Reg k) p r = hlevel bits_set
shows_prop (RegU k) p r = hlevel bits_set
shows_prop (Wire k) p r = hlevel
shows_prop (DWire k) p r = hlevel
shows_prop (RWire k) p r = hlevel
shows_prop (Pulse k) p r = hlevel
shows_prop (Plain k) p r = hlevel bits_set
shows_prop (Pipeline k) p r = hlevel bits_set
shows_prop (Bypass k) p r = hlevel bits_set

all_prop : (ks : List Kind) (ps : List Part) (ws : List Bits) → IsProp (Shows ks ps ws)
all_prop [] [] ws = hlevel
all_prop [] (p ∷ ps) ws = hlevel
all_prop (k ∷ ks) [] ws = hlevel
all_prop (k ∷ ks) (p ∷ ps) ws = hlevel (shows_prop k p (word_at ws), all_prop ks ps (drop (kind_table k).registers ws))

elements_prop : (T : Scheme) (q : Asking) (s : List Part) (fired : List ℕ) (g : Given) → IsProp (TellsElements false T q s fired g)
elements_prop T q s fired g = hlevel (option_set bits_set, bits_set)

told_prop : (T : Scheme) (q : Asking) (s : List Part) (fired : List ℕ) (after : List Part) (g : Given) → IsProp (TellsClock false T q s fired after g)
told_prop T q s fired after g = hlevel (elements_prop T q s fired g, all_prop T.kinds after g.nexts)

module _ (d : Design) (made : Schedule) (rules : KeepsRules (design_scheme (design_data d))) (scheduled : IsScheduleOf (design_scheme (design_data d)) made)
    (c : NetData) (before : ∥ IsNet c ∥₁) (promise : Fires false (design_scheme (design_data d)) made c)
    (e : NetData) (is : IsNextNet (design_data d) made c e) (ordered : ∥ IsNet e ∥₁) where
  abbrev U : Scheme
  U = design_scheme (design_data d)

  -- each clock of elements with the arguments that they have
  clock_of : (q : Asking) (s : List Part) (ws : List Bits) (fired : List ℕ) (after : List Part) (xs : Arguments) → Fit U q s → MayBeArguments U q xs
      → HaveWidths (cell_widths (cells_of U.kinds)) ws → Shows U.kinds s ws → IsClock false U made q s fired after
      → TellsClock false (with_arguments U xs) q s fired after (gives e ws (inputs_with U q xs))
  unfolding design_scheme inputs_with
  clock_of q s ws fired after xs fit stand have shows clock =
      let stands = stand.widths in
      let lawful = lawful_with U xs stands (lawful_design d rules) in
      let prop = told_prop (with_arguments U xs) q s fired after (gives e ws (inputs_with U q xs)) in
      ∥∥₁_elim d.right prop (λ (right : IsDesign (design_data d)).
      ∥∥₁_elim before prop (λ (before_is : IsNet c).
      ∥∥₁_elim ordered prop (λ (ordered_is : IsNet e).
      clock_told (design_data d) right made xs stands lawful (schedule_with U xs stands made scheduled) c before_is promise e is ordered_is
      q s ws (fit_with U xs stands q s fit) have shows fired after (clock_with U q xs (each_gets U q xs stand) false made s fired after clock)
      (promise.clock q s ws fired after xs fit stand have shows clock))))

  -- and each where all have what they are given
  clock_given : (q : Asking) (s : List Part) (ws : List Bits) (fired : List ℕ) (after : List Part) → Fit U q s
      → HaveWidths (cell_widths (cells_of U.kinds)) ws → Shows U.kinds s ws → IsClock false U made q s fired after
      → TellsClock false U q s fired after (gives e ws (inputs_of U q))
  clock_given q s ws fired after fit have shows clock =
      let stand = given_may_be U q fit.requests in
      subst (λ (vs : List Bits). TellsClock false U q s fired after (gives e ws vs)) (inputs_given U q)
      (all_given_told U q (given U q) stand false made s fired after clock (λ n. refl) (gives e ws (inputs_with U q (given U q)))
      (clock_of q s ws fired after (given U q) fit stand have shows clock))

  cells_kept : map cell e.registers ≡ cells_of U.kinds
  cells_kept = ap (map cell) is.registers ∙ promise.registers

  words_carry : Carries false U made (map cell e.registers) e.inputs (gives e)
  words_carry = record {
    registers = cells_kept;
    inputs = is.inputs ∙ promise.inputs;
    clock = λ q s ws fired after fit have shows clock.
        clock_given q s ws fired after fit (subst (λ (cs : List Cell). HaveWidths (cell_widths cs) ws) cells_kept have) shows clock;
  }

  words_ignore : IgnoresUnasked false U made (map cell e.registers) (gives e)
  words_ignore = λ q s ws fired after xs fit stand have shows clock.
      others_told U q xs stand false made s fired after clock (gives e ws (inputs_with U q xs))
      (clock_of q s ws fired after xs fit stand (subst (λ (cs : List Cell). HaveWidths (cell_widths cs) ws) cells_kept have) shows clock)

  names_no_result : NamesNoResult U e
  names_no_result n o at_o gives_none =
      ap (λ (ns : List ℕ). slice_get ns n) is.results
      ∙ (mapped_at (renamed (length c.nodes) (length (next_words (design_data d) made c).nodes)) c.results n (length c.nodes) (promise.no_result n o at_o gives_none)
      ∙ (ap (λ (t : Bool). Some (if t then length c.nodes else length (next_words (design_data d) made c).nodes)) (never (length c.nodes))
      ∙ ap (λ (ns : List NetNode). Some (length ns)) (sym is.nodes)))
    where
      never : (k : ℕ) → nat_lt k k ≡ false
      never k = of (nat_lt k k) refl
        where
          of : (t : Bool) → nat_lt k k ≡ t → t ≡ false
          of true h = absurd (let l = ltb-true k k h in omega arith)
          of false h = refl

  -- a node that was there keeps its place
  names_results : NamesResults U e
  names_results n o at_o gives_one =
      let old = promise.results n o at_o gives_one in
      let more = length_grows (nodes_grown (design_data d) made c e is) in (
        old.0,
        ap (λ (ns : List ℕ). slice_get ns n) is.results
            ∙ (mapped_at (renamed (length c.nodes) (length (next_words (design_data d) made c).nodes)) c.results n old.0 old.1
            ∙ ap (λ (t : Bool). Some (if t then old.0 else length (next_words (design_data d) made c).nodes)) (lt-ltb old.0 (length c.nodes) old.2)),
        omega (arith, old.2, more),
      )

pub net_names : (d : Design) (made : Schedule) → KeepsRules (design_scheme (design_data d)) → IsScheduleOf (design_scheme (design_data d)) made
    → (c : NetData) → ∥ IsNet c ∥₁ → Fires false (design_scheme (design_data d)) made c
    → (n : Net) → IsNextNet (design_data d) made c (net_data n) → NamesResults (design_scheme (design_data d)) (net_data n)
net_names d made rules scheduled c before promise n is = names_results d made rules scheduled c before promise (net_data n) is n.right

pub net_carries : (d : Design) (made : Schedule) → KeepsRules (design_scheme (design_data d)) → IsScheduleOf (design_scheme (design_data d)) made
    → (c : NetData) → ∥ IsNet c ∥₁ → Fires false (design_scheme (design_data d)) made c
    → (n : Net) → IsNextNet (design_data d) made c (net_data n) → NetCarries false (design_scheme (design_data d)) made n
net_carries d made rules scheduled c before promise n is = record {
  words = words_carry d made rules scheduled c before promise (net_data n) is n.right;
  unasked = words_ignore d made rules scheduled c before promise (net_data n) is n.right;
  no_result = names_no_result d made rules scheduled c before promise (net_data n) is n.right;
}
