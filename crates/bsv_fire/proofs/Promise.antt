-- The promise of a net in which all elements stand, out of what the net tells in each scene.
use Rattle.std.proofs.Common.{◌≡◌, ◌∙◌, ◌<◌, ◌≤◌, ◌+◌, ◌⊎◌, inl, inr, ℕ, zero, suc, Bool, true, false, List, [], ◌∷◌, Option, Some, None, refl, sym, ap, subst, arith, length, map, option_map}
use Rattle.std.specs.Prelude.{slice_get, unwrap_or, nat_lt}
use Rattle.std.proofs.lemmas.Bool.{and_parts, cases_lt, lt-ltb, ltb-true}
use Rattle.std.proofs.Math.Bool.{Bool-set}
use Rattle.std.proofs.Math.Nat.{ℕ_set}
use Rattle.std.proofs.Math.Logic.{∥∥₁_elim}
use Rattle.std.proofs.lemmas.List.{length-map}
use Rattle.std.proofs.lemmas.Option.{slice_get_within, slice_get_past, same_Some}
use Rattle.bsv_lemmas.proofs.Places.{mapped_at}
use Rattle.bsv_lemmas.proofs.Choices.{option_set}
use mathlib.Core.List.{is_set as list_set}
use Rattle.bsv_bits.specs.Words.{Bits}
use Rattle.bsv_prim.specs.declared.part.Part.{Part}
use Rattle.bsv_design.specs.declared.design.Design.{Design}
use Rattle.bsv_design.specs.declared.element.Call.{Call}
use Rattle.bsv_design.specs.declared.element.Element.{Element}
use Rattle.bsv_design.specs.declared.kind.Kind.{Kind}
use Rattle.bsv_design.specs.declared.schedule.Need.{Need}
use Rattle.bsv_design.specs.declared.schedule.Schedule.{Schedule}
use Rattle.bsv_design.specs.design.Bodies.{Target, target, at}
use Rattle.bsv_design.specs.design.Designs.{DesignData, IsDesign}
use Rattle.bsv_design.specs.design.Guards.{needs_of}
use Rattle.bsv_design.specs.design.Roles.{gives_value}
use Rattle.bsv_design.specs.scheme.Schemes.{Scheme, Outline, Asking, calls_of, design_scheme, kinds_of, outline, ports_of}
use Rattle.bsv_design.specs.scheme.States.{AreWordsOf}
use Rattle.bsv_design.specs.scheme.Seen.{design_data}
use Rattle.bsv_design.specs.parts.Kinds.{kind_table}
use Rattle.bsv_design.specs.scheme.Traces.{kind_at}
use Rattle.bsv_design.specs.design.Widths.{args_fit, call_fits, has_width, method_fits, result_fits}
use Rattle.bsv_graph.specs.Edges.{numbers_below}
use Rattle.bsv_graph.specs.Orders.{In}
use Rattle.bsv_guard.specs.Fitting.{HaveWidths}
use Rattle.bsv_guard.proofs.Lists.{item_of, holds_at_all}
use Rattle.bsv_clock.specs.Shows.{Shows, cell, cells_of, cell_widths, input_widths}
use Rattle.bsv_clock.specs.Clocks.{IsClock}
use Rattle.bsv_clock.specs.Grounds.{Fit, IsLawful, IsScheduleOf, KeepsRules}
use Rattle.bsv_clock.proofs.Belonging.{lawful_design}
use Rattle.bsv_clock.proofs.Stopping.{urgency_order}
use Rattle.bsv_net.specs.declared.net_data.NetData.{NetData}
use Rattle.bsv_net.specs.declared.node.NetNode.{NetNode}
use Rattle.bsv_net.specs.declared.node.NetNode.TheVariants as net_node
use Rattle.bsv_net.specs.declared.node.Site.{Site as NetSite}
use Rattle.bsv_net.specs.Nets.{IsNet, register_widths, words}
use Rattle.bsv_net.specs.Placing.{node_at, or_first}
use Rattle.bsv_net.specs.Unasked.{Arguments, MayBeArguments, inputs_with, with_arguments}
use Rattle.bsv_net.proofs.Grows.{Grows, kept}
use Rattle.bsv_net.proofs.WithArguments.{clock_with, each_gets, fit_with, lawful_with, schedule_with}
use Rattle.bsv_net.proofs.Solution.{satisfies, same_length}
use Rattle.bsv_ports.specs.CallSites.{or_none}
use Rattle.bsv_fire.specs.Bodies.{site, sites}
use Rattle.bsv_fire.specs.Nets.{IsFiringNet, net, inputs, count}
use Rattle.bsv_ports.specs.Ports.{arity_of}
use Rattle.bsv_fire.specs.Firing.{Fires, TellsFiring, sites_of}
use Rattle.bsv_ports.specs.Starts.{first_nodes}
use Rattle.bsv_ports.proofs.FirstNodes.{word_is_at}
use Rattle.bsv_net.proofs.WidthsFit.{cells_have}
use Rattle.bsv_fire.proofs.Firings.{scene, tells_firing, same_words}
use Rattle.bsv_fire.proofs.Frame.{Tells}
use Rattle.bsv_fire.proofs.GroundTold.{register_there}
use Rattle.bsv_net.proofs.Numbers.{number_at}
use Rattle.bsv_fire.proofs.Structure.{Holds}
use Rattle.bsv_fire.proofs.WithinNet.{result_within}
use Rattle.bsv_fire.specs.FireBuilder.{flattened}
use Rattle.bsv_graph.proofs.Below.{count_below}
use Rattle.bsv_clock.proofs.Propositions.{bits_set}
use Rattle.bsv_fire.proofs.Bodies.{args_many}

told_prop : (T : Scheme) (q : Asking) (s : List Part) (fired : List ℕ) (c : NetData) (vs : List Bits) → IsProp (TellsFiring false T q s fired c vs)
told_prop T q s fired c vs = hlevel (option_set bits_set, list_set bits_set, bits_set)

-- ---- what is beside the nodes

call_long : (o : Option Kind) (us : List ℕ) (c : Call) → method_fits o us c ≡ true → length c.args ≡ arity_of o c.method
call_long None us c h = absurd (let n : ⊥ = cc in n)
call_long (Some k) us c h =
    let parts = and_parts (nat_lt c.method (kind_table k).methods) (args_fit (kind_table k) c.method us 0 c.args) h in
    let long = args_many (kind_table k) c.method us 0 c.args parts.1 in
    omega arith

nothing_given : (us : List ℕ) (b : Bool) (o : Option ℕ) → result_fits us b o ≡ true → b ≡ false → o ≡ None
nothing_given us true o h e = absurd (let n : ⊥ = cc in n)
nothing_given us false None h e = refl
nothing_given us false (Some k) h e = absurd (let n : ⊥ = cc in n)

nothing_there : (us : List ℕ) (b : Bool) (o : Option ℕ) → result_fits us b o ≡ true → b ≡ true → o ≡ None → ⊥
nothing_there us true None h e f = let n : ⊥ = cc in n
nothing_there us true (Some k) h e f = let n : ⊥ = cc in n
nothing_there us false o h e f = let n : ⊥ = cc in n

module _ (d : Design) (needs : List (List Need)) (made : Schedule) (rules : KeepsRules (design_scheme (design_data d))) (scheduled : IsScheduleOf (design_scheme (design_data d)) made)
    (are : needs ≡ needs_of (kinds_of (design_data d)) d.elements) (c : NetData) (is : IsFiringNet (design_data d) needs made c) (ordered : ∥ IsNet c ∥₁)
    (holds : Holds d.elements (net (design_data d) needs made) made.urgency)
    (first : Grows (first_nodes (length (inputs (design_data d) needs made)) (count (design_data d) needs made)) c.nodes) where
  abbrev b : DesignData
  b = design_data d

  abbrev T : Scheme
  T = design_scheme b

  pub lawful : IsLawful T
  lawful = lawful_design d rules

  elements_are : length T.elements ≡ length d.elements
  unfolding design_scheme
  elements_are = length-map d.elements outline

  among : (n : ℕ) → n < length T.elements → In made.urgency n
  among n l = (urgency_order T made scheduled).each n l

  record At (n : ℕ) (o : Outline) : Type 0 where
    element : Element
    there : slice_get d.elements n ≡ Some element
    gives : outline element ≡ o

  element_of : (n : ℕ) (o : Outline) → slice_get T.elements n ≡ Some o → At n o
  unfolding design_scheme
  element_of n o at_o = let found = item_of outline d.elements n o at_o in record { element = found.item; there = found.is; gives = found.gives }

  no_result_told : (n : ℕ) (o : Outline) → slice_get T.elements n ≡ Some o → gives_value o.role ≡ false → slice_get c.results n ≡ Some (length c.nodes)
  no_result_told n o at_o gives_none =
      let found = element_of n o at_o in
      let placed = holds.each n found.element (among n (slice_get_within T.elements n o at_o)) found.there in
      let nothing : found.element.result ≡ None =
      ∥∥₁_elim d.right (option_set ℕ_set _ _) (λ (right : IsDesign b).
      let fits = (right.elements n found.element found.there).fits in
      nothing_given fits.widths (gives_value found.element.role) found.element.result fits.result (ap (λ (x : Outline). gives_value x.role) found.gives ∙ gives_none)) in
      ap (λ (ns : List ℕ). slice_get ns n) is.results
      ∙ (mapped_at (λ x. unwrap_or x (length (net b needs made).nodes)) (net b needs made).results n None
      (placed.1 ∙ ap (λ (x : Option ℕ). Some (option_map (node_at placed.0) x)) nothing)
      ∙ ap (λ (ns : List NetNode). Some (length ns)) (sym is.nodes))

  results_told : (n : ℕ) (o : Outline) → slice_get T.elements n ≡ Some o → gives_value o.role ≡ true → (k : ℕ) × (slice_get c.results n ≡ Some k) × (k < length c.nodes)
  results_told n o at_o gives_one = of found.element.result refl
    where
      found : At n o
      found = element_of n o at_o

      placed : (places : List ℕ) × (slice_get (net b needs made).results n ≡ Some (option_map (node_at places) found.element.result))
          × (slice_get (net b needs made).sites n ≡ Some (sites places found.element.calls))
      placed = holds.each n found.element (among n (slice_get_within T.elements n o at_o)) found.there

      below : (k : ℕ) → slice_get (net b needs made).results n ≡ Some (Some k) → k < length (net b needs made).nodes
      below k there =
          ltb-true k (length (net b needs made).nodes)
          (∥∥₁_elim d.right (Bool-set _ _) (λ (right : IsDesign b).
          lt-ltb k (length (net b needs made).nodes)
          (subst (λ (x : Option (Option ℕ)). or_first (flattened x) < length (net b needs made).nodes) there (result_within b right needs made n))))

      of : (x : Option ℕ) → found.element.result ≡ x → (k : ℕ) × (slice_get c.results n ≡ Some k) × (k < length c.nodes)
      of None e =
          absurd (∥∥₁_elim d.right (λ (x y : ⊥). absurd x) (λ (right : IsDesign b).
          let fits = (right.elements n found.element found.there).fits in
          nothing_there fits.widths (gives_value found.element.role) found.element.result fits.result (ap (λ (x : Outline). gives_value x.role) found.gives ∙ gives_one) e))
      of (Some r) e =
          let k : ℕ = node_at placed.0 r in
          let there : slice_get (net b needs made).results n ≡ Some (Some k) = placed.1 ∙ ap (λ (x : Option ℕ). Some (option_map (node_at placed.0) x)) e in (
            k,
            ap (λ (ns : List ℕ). slice_get ns n) is.results
                ∙ mapped_at (λ x. unwrap_or x (length (net b needs made).nodes)) (net b needs made).results n (Some k) there,
            subst (λ (ns : List NetNode). k < length ns) (sym is.nodes) (below k there),
          )

  -- the sites of an element are those of its calls
  record Sites (n : ℕ) : Type 0 where
    element : Element
    there : slice_get d.elements n ≡ Some element
    places : List ℕ
    are_sites : sites_of c n ≡ sites places element.calls

  there_is : (es : List Element) (n : ℕ) → n < length es → (e : Element) × (slice_get es n ≡ Some e)
  there_is [] n l = absurd (omega arith)
  there_is (e ∷ es) zero l = (e, refl)
  there_is (e ∷ es) (suc n) l = there_is es n (omega arith)

  sites_there : (n : ℕ) → n < length T.elements → Sites n
  sites_there n l =
      let found = there_is d.elements n (omega (arith, l, elements_are)) in
      let placed = holds.each n found.0 (among n l) found.1 in
      record {
        element = found.0;
        there = found.1;
        places = placed.0;
        are_sites = ap (λ (ss : List (List NetSite)). or_none (slice_get ss n)) is.sites ∙ ap or_none placed.2;
      }

  uses_are : (n : ℕ) (e : Element) → slice_get d.elements n ≡ Some e → T.uses n ≡ map target e.calls
  unfolding design_scheme
  uses_are n e there = ap calls_of there

  calls_told : (n : ℕ) → n < length T.elements → length (sites_of c n) ≡ length (T.uses n)
  calls_told n l =
      let found = sites_there n l in
      ap length found.are_sites ∙ (length-map found.element.calls (site found.places)
      ∙ (sym (length-map found.element.calls target) ∙ ap length (sym (uses_are n found.element found.there))))

  arguments_told : (n k : ℕ) (t : Target) (y : NetSite) → slice_get (T.uses n) k ≡ Some t → slice_get (sites_of c n) k ≡ Some y
      → (n < length T.elements) ⊎ (length T.elements ≤ n) → length y.args ≡ arity_of (kind_at T.kinds t) t.method
  unfolding design_scheme
  arguments_told n k t y used at_y (inr past) = absurd (let e = no_uses n past in let f : None ≡ Some t = ap (λ (ts : List Target). slice_get ts k) (sym e) ∙ used in let g : ⊥ = cc in g)
    where
      no_uses : (n : ℕ) → length T.elements ≤ n → T.uses n ≡ []
      no_uses n past = ap calls_of (slice_get_past d.elements n (omega (arith, elements_are)))
  arguments_told n k t y used at_y (inl l) =
      let found = sites_there n l in
      let e = found.element in
      let call = item_of target e.calls k t (ap (λ (ts : List Target). slice_get ts k) (sym (uses_are n e found.there)) ∙ used) in
      let y_is : site found.places call.item ≡ y =
      same_Some (site found.places call.item) y
      (sym (mapped_at (site found.places) e.calls k call.item call.is) ∙ (ap (λ (ss : List NetSite). slice_get ss k) (sym found.are_sites) ∙ at_y)) in
      let long : length call.item.args ≡ arity_of (kind_at T.kinds (target call.item)) call.item.method =
      ∥∥₁_elim d.right (ℕ_set _ _) (λ (right : IsDesign b).
      let fits = (right.elements n e found.there).fits in
      call_long (slice_get (kinds_of b) call.item.part) fits.widths call.item
      (and_parts (has_width (slice_get fits.widths call.item.taken) 1) (method_fits (slice_get (kinds_of b) call.item.part) fits.widths call.item)
      (holds_at_all (call_fits (kinds_of b) fits.widths) e.calls fits.calls k call.item call.is)).1) in
      ap (λ (s : NetSite). length s.args) (sym y_is)
      ∙ (length-map call.item.args (node_at found.places)
      ∙ (long ∙ ap (λ (x : Target). arity_of (kind_at T.kinds x) x.method) call.gives))

  -- ---- registers

  registers_are : map cell c.registers ≡ cells_of T.kinds
  unfolding design_scheme
  registers_are = is.registers

  inputs_are : c.inputs ≡ input_widths T
  unfolding design_scheme input_widths
  inputs_are = is.inputs_are

  long_nexts : length c.nexts ≡ count b needs made
  long_nexts = ap length is.nexts ∙ (length-map (numbers_below (count b needs made)) _ ∙ count_below (count b needs made))

  next_there : (k : ℕ) → k < count b needs made → node_at c.nexts k ≡ length (inputs b needs made) + k
  next_there k l =
      ap (λ (ns : List ℕ). node_at ns k) is.nexts
      ∙ ap or_first (mapped_at (λ j. length (inputs b needs made) + j) (numbers_below (count b needs made)) k k (number_at (count b needs made) k l))

  kept_told : (ws given : List Bits) → HaveWidths (cell_widths (cells_of T.kinds)) ws → HaveWidths c.inputs given → map (at (words c.nodes given ws)) c.nexts ≡ ws
  unfolding design_scheme
  kept_told ws given have fit =
      let have_registers : HaveWidths (register_widths c.registers) ws =
      subst (λ (us : List ℕ). HaveWidths us ws) (sym (ap cell_widths is.registers) ∙ cells_have c.registers) have in
      let long : count b needs made ≡ length ws = sym (length-map (cells_of (kinds_of b)) _) ∙ same_length (cell_widths (cells_of (kinds_of b))) ws have in
      same_words (at (words c.nodes given ws)) c.nexts ws (long_nexts ∙ long)
      (λ k l.
      ap (at (words c.nodes given ws)) (next_there k (omega (arith, long)))
      ∙ (∥∥₁_elim ordered (bits_set _ _) (λ (right : IsNet c).
      (satisfies c right given ws fit have_registers).operates (length (inputs b needs made) + k) (net_node.Register k)
      (kept first (length (inputs b needs made) + k) (net_node.Register k)
      (register_there (length (inputs b needs made)) (count b needs made) k (omega (arith, long)))))
      ∙ sym (word_is_at ws k)))

  -- ---- the whole

  -- the elements with these arguments are a scheme that belongs to the schedule as the design does
  module _ (xs : Arguments) (stands : (n : ℕ) → AreWordsOf (ports_of (slice_get T.elements n)) (xs n)) where
    pub lawful_too : IsLawful (with_arguments T xs)
    lawful_too = lawful_with T xs stands lawful

    pub scheduled_too : IsScheduleOf (with_arguments T xs) made
    scheduled_too = schedule_with T xs stands made scheduled

  module _ (told : (right : IsDesign b) (in_order : IsNet c) (xs : Arguments) (stands : (n : ℕ) → AreWordsOf (ports_of (slice_get T.elements n)) (xs n))
      (q : Asking) (s : List Part) (ws : List Bits) (fit : Fit (with_arguments T xs) q s)
      (have : HaveWidths (cell_widths (cells_of (kinds_of b))) ws) → Shows T.kinds s ws
      → Tells (scene b right needs made xs stands (lawful_too xs stands) (scheduled_too xs stands) are c is in_order q s ws fit have) (net b needs made) made.urgency) where
    clock_told : (q : Asking) (s : List Part) (ws : List Bits) (fired : List ℕ) (after : List Part) (xs : Arguments) → Fit T q s → MayBeArguments T q xs
        → HaveWidths (cell_widths (cells_of T.kinds)) ws → Shows T.kinds s ws → IsClock false T made q s fired after
        → TellsFiring false (with_arguments T xs) q s fired c (words c.nodes (inputs_with T q xs) ws)
    unfolding design_scheme inputs_with
    clock_told q s ws fired after xs fit stand have shows clock =
        let stands = stand.widths in
        let fit_too = fit_with T xs stands q s fit in
        ∥∥₁_elim d.right (told_prop (with_arguments T xs) q s fired c _) (λ (right : IsDesign b).
        ∥∥₁_elim ordered (told_prop (with_arguments T xs) q s fired c _) (λ (in_order : IsNet c).
        tells_firing b right needs made xs stands (lawful_too xs stands) (scheduled_too xs stands) are c is in_order q s ws fit_too have
        (told right in_order xs stands q s ws fit_too have shows) fired after
        (clock_with T q xs (each_gets T q xs stand) false made s fired after clock)))

    pub fires : Fires false T made c
    fires = record {
      registers = registers_are;
      inputs = inputs_are;
      count = ap length is.fires ∙ (holds.long_fires ∙ sym elements_are);
      count_readies = ap length is.readies ∙ (holds.long_readies ∙ sym elements_are);
      count_results = ap length is.results ∙ (length-map (net b needs made).results _ ∙ (holds.long_results ∙ sym elements_are));
      count_sites = ap length is.sites ∙ (holds.long_sites ∙ sym elements_are);
      no_result = no_result_told;
      results = results_told;
      calls = calls_told;
      arguments = λ n k t y used at_y. arguments_told n k t y used at_y (cases_lt n (length T.elements));
      clock = clock_told;
      kept = kept_told;
    }
