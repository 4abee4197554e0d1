-- A module that computes what a net does carries what the net carries.
use Rattle.std.proofs.Common.{◌≡◌, ◌∙◌, ◌<◌, ◌≤◌, ◌+◌, ℕ, suc, Bool, true, false, List, [], ◌∷◌, ◌++◌, Option, Some, None, refl, sym, ap, ap₂, subst, arith, length, map}
use Rattle.std.proofs.Math.Bool.{Bool-set}
use Rattle.std.proofs.Math.Logic.{∥∥₁_elim}
use Rattle.std.specs.Prelude.{IsTrue, cond, option_map, slice_get, unwrap_or, ◌||◌}
use Rattle.std.proofs.lemmas.Bool.{both_ways}
use Rattle.std.proofs.lemmas.Option.{same_Some, slice_get_within}
use Rattle.bsv_lemmas.proofs.Places.{mapped_at}
use Rattle.bsv_bits.specs.Words.{Bits, bit}
use Rattle.bsv_prim.specs.declared.part.Part.{Part}
use Rattle.bsv_design.specs.declared.element.Element.{Element}
use Rattle.bsv_design.specs.declared.element.Port.{Port}
use Rattle.bsv_design.specs.declared.schedule.Schedule.{Schedule}
use Rattle.bsv_design.specs.design.Bodies.{at, words}
use Rattle.bsv_design.specs.design.Designs.{DesignData, IsDesign}
use Rattle.bsv_design.specs.design.Roles.{is_rule, is_value, gives_value}
use Rattle.bsv_design.specs.scheme.Schemes.{Scheme, Outline, AreAlike, Asking, Look, answers, design_scheme, given, kinds_of, outline, ports_of, ready, seen, trace_of, value}
use Rattle.bsv_design.specs.scheme.States.{AreWordsOf, methods_in}
use Rattle.bsv_design.specs.scheme.Traces.{body_trace}
use Rattle.bsv_design.specs.design.Widths.{result_fits}
use Rattle.bsv_graph.specs.Edges.{numbers_below}
use Rattle.bsv_guard.specs.Fitting.{HaveWidths}
use Rattle.bsv_guard.proofs.Alike.{alike}
use Rattle.bsv_design.proofs.Elements.{length-words}
use Rattle.bsv_guard.proofs.Lists.{IsOf, item_of}
use Rattle.bsv_clock.specs.Shows.{Cell, Given, Shows, TellsClock, cell, cell_widths, cells_of, inputs_of}
use Rattle.bsv_clock.specs.Clocks.{IsClock, is_asked, is_in}
use Rattle.bsv_clock.specs.Grounds.{Fit, IsLawful, IsScheduleOf}
use Rattle.bsv_clock.specs.Looks.{clock_look}
use Rattle.bsv_clock.specs.Values.{IsValueMethod}
use Rattle.bsv_net.specs.declared.net.Net.{Net}
use Rattle.bsv_net.specs.AtHand.{net_data}
use Rattle.bsv_net.specs.Nets.{register_widths}
use Rattle.bsv_net.specs.ShowsByNet.{gives, WordsCarry, WordsIgnore}
use Rattle.bsv_net.specs.Unasked as unasked
use Rattle.bsv_net.specs.Unasked.{Arguments, TellsOthers, inputs_with_from}
use Rattle.bsv_net.proofs.WidthsFit.{cells_have, inputs_given, inputs_of_scheme}
use Rattle.bsv_net.proofs.Numbers.{number_at}
use Rattle.bsv_vtext.specs.declared.tree.Atom.{Atom}
use Rattle.bsv_vtext.specs.declared.tree.Atom.TheVariants as atom
use Rattle.bsv_vtext.specs.declared.tree.Target.TheVariants as target
use Rattle.bsv_vtext.specs.Signals.{VModuleData}
use Rattle.bsv_vtext.specs.VClock.{Inputs, Nets, VClock, atom_word, word_at}
use Rattle.bsv_vgen.specs.declared.known.Known.{Known}
use Rattle.bsv_vgen.specs.ShowsByModule.{ModuleCarries, ModuleIgnores, TellsFire, TellsModule, TellsOthersByModule, inputs_with}
use Rattle.bsv_vgen.specs.Modules as modules
use Rattle.bsv_vgen.specs.Modules.{argument_inputs, asked_input}
use Rattle.bsv_vgen.specs.Names.{fire_wire}
use Rattle.bsv_vgen.proofs.AskedToo.{ClockToo, asking_values, clock_too, fit_too, given_too, idle_too, is_asked_too, is_value_at, ready_too, stand_too, value_too}
use Rattle.bsv_vgen.proofs.Computes.{Computes, TellsNet, input_words}
use Rattle.bsv_design.specs.design.Words.{or_zero}

-- ---- the words of the inputs

-- the words of the arguments of a method, from this one on
arguments_are : (word : Atom → Bits) (m k : ℕ) (ps : List Port) (ws : List Bits) → length ws ≡ length ps
    → ((j : ℕ) → j < length ws → word (atom.Argument m (k + j)) ≡ word_at ws j) → input_words word (argument_inputs m k ps) ≡ ws
arguments_are word m k [] [] long are = refl
arguments_are word m k [] (w ∷ ws) long are = absurd (omega (arith, long))
arguments_are word m k (p ∷ ps) [] long are = absurd (omega (arith, long))
arguments_are word m k (p ∷ ps) (w ∷ ws) long are =
    ap₂ (λ (x : Bits) (xs : List Bits). x ∷ xs)
    (ap (λ j. word (atom.Argument m j)) (omega arith) ∙ are 0 (omega arith))
    (arguments_are word m (k + 1) ps ws (omega (arith, long))
    (λ j l. ap (λ i. word (atom.Argument m i)) (omega arith) ∙ are (suc j) (omega (arith, l))))

-- the words of a method after which more inputs stand
words_after : (word : Atom → Bits) (xs : List Known) (x : Known) (more : List Known)
    → input_words word ((xs ++ x ∷ []) ++ more) ≡ input_words word xs ++ (word x.atom ∷ input_words word more)
words_after word [] x more = refl
words_after word (y ∷ xs) x more = ap (λ (ws : List Bits). word y.atom ∷ ws) (words_after word xs x more)

module _ (S : Scheme) (q : Asking) (xs : Arguments) (long : (n : ℕ) → length (xs n) ≡ length (ports_of (slice_get S.elements n))) (count : ℕ) (registers : List Bits) (nets : Nets) where
  abbrev r : Asking
  r = asking_values S q

  abbrev word : Atom → Bits
  word = atom_word registers (inputs_with q xs count) nets

  argument_word : (n k : ℕ) → n < count → word (atom.Argument n k) ≡ word_at (xs n) k
  argument_word n k l =
      ap (λ (o : Option (List Bits)). word_at (unwrap_or o []) k) (mapped_at xs (numbers_below count) n n (number_at count n l))

  enable_word : (n : ℕ) → n < count → word (atom.Enable n) ≡ bit (is_asked q n)
  enable_word n l = ap (λ (o : Option Bool). bit (unwrap_or o false)) (mapped_at (is_asked q) (numbers_below count) n n (number_at count n l))

  -- a method that gives a value alone counts as asked
  asked_word : (n : ℕ) (e : Element) → n < count → slice_get S.elements n ≡ Some (outline e)
      → word (asked_input n e.role).atom ≡ bit (is_asked r n)
  asked_word n e l there =
      of (is_value e.role) ∙ ap bit (sym (is_asked_too S q n within ∙ ap (λ (o : Option Outline). is_value_at o || is_asked q n) there))
    where
      within : n < length S.elements
      within = slice_get_within S.elements n (outline e) there

      of : (b : Bool) → word (cond b (atom.Constant (bit true)) (atom.Enable n)) ≡ bit (b || is_asked q n)
      of true = refl
      of false = enable_word n l

  -- the words of a method's arguments are these
  arguments_word : (n : ℕ) (e : Element) → n < count → slice_get S.elements n ≡ Some (outline e)
      → input_words word (argument_inputs n 0 e.arguments) ≡ xs n
  arguments_word n e l there =
      arguments_are word n 0 e.arguments (xs n)
      (long n ∙ ap (λ (o : Option Outline). length (ports_of o)) there)
      (λ j m. ap (λ i. word (atom.Argument n i)) (omega arith) ∙ argument_word n j l)

  inputs_from_are : (n : ℕ) (es : List Element) → n + length (methods_in es) ≤ count
      → ((j : ℕ) (e : Element) → slice_get es j ≡ Some e → slice_get S.elements (n + j) ≡ Some (outline e))
      → input_words word (modules.inputs_from n (methods_in es)) ≡ inputs_with_from r xs n (map outline es)
  inputs_from_are n [] few there = refl
  inputs_from_are n (e ∷ es) few there =
      of (is_rule e.role) few
      (λ l. inputs_from_are (n + 1) es l (λ j x h. ap (slice_get S.elements) (omega arith) ∙ there (suc j) x h))
    where
      here : slice_get S.elements n ≡ Some (outline e)
      here = ap (slice_get S.elements) (omega arith) ∙ there 0 e refl

      of : (b : Bool) → n + length (cond b [] (e ∷ methods_in es)) ≤ count
          → (n + 1 + length (methods_in es) ≤ count
          → input_words word (modules.inputs_from (n + 1) (methods_in es)) ≡ inputs_with_from r xs (n + 1) (map outline es))
          → input_words word (modules.inputs_from n (cond b [] (e ∷ methods_in es)))
          ≡ cond b [] (xs n ++ (bit (is_asked r n) ∷ inputs_with_from r xs (n + 1) (map outline es)))
      of true l rest = refl
      of false l rest =
          words_after word (argument_inputs n 0 e.arguments) (asked_input n e.role) (modules.inputs_from (n + 1) (methods_in es))
          ∙ ap₂ (λ (us ws : List Bits). us ++ ws) (arguments_word n e (omega (arith, l)) here)
          (ap₂ (λ (x : Bits) (ws : List Bits). x ∷ ws) (asked_word n e (omega (arith, l)) here) (rest (omega (arith, l))))

-- ---- a result

-- where there is a word there is a node, and so a value is given
gives_where_word : (widths : List ℕ) (gives : Bool) (place : Option ℕ) (word : ℕ → Bits) (w : Bits) → IsTrue (result_fits widths gives place)
    → option_map word place ≡ Some w → gives ≡ true
gives_where_word widths true place word w fits is = refl
gives_where_word widths false None word w fits is = absurd (let n : ⊥ = cc in n)
gives_where_word widths false (Some k) word w fits is = absurd (let n : ⊥ = cc in n)

-- an element of a design that gives a word is a method that gives a value
gives_from_word : (b : DesignData) → ∥ IsDesign b ∥₁ → (q : Asking) (n : ℕ) (look : Look) (e : Element) → slice_get b.elements n ≡ Some e
    → (w : Bits) → value (design_scheme b) q n look ≡ Some w → gives_value e.role ≡ true
unfolding value seen design_scheme body_trace
gives_from_word b made q n look e there w is =
    ∥∥₁_elim made (Bool-set _ _) (λ (right : IsDesign b).
    gives_where_word (right.elements n e there).fits.widths (gives_value e.role) e.result
    (at (words e (answers (kinds_of b) look) (given (design_scheme b) q n))) w (right.elements n e there).fits.result
    (sym (ap (λ (x : Option Element). (trace_of (kinds_of b) x (answers (kinds_of b) look) (given (design_scheme b) q n)).result) there) ∙ is))

-- ---- a clock

module _ (b : DesignData) (right : ∥ IsDesign b ∥₁) (net : Net) (m : VModuleData) (computes : Computes b (net_data net) m)
    (count : length m.methods ≡ length (methods_in b.elements)) where
  module _ (g : Bool) (S : Scheme) (made : Schedule) (al : AreAlike S (design_scheme b)) (lawful : IsLawful S)
      (scheduled : IsScheduleOf S made) (net_carries : WordsCarry g S made net)
      (q : Asking) (s : List Part) (ws : List Bits) (fired : List ℕ) (after : List Part) (nets : Nets) (nexts : List Bits) (fit : Fit S q s)
      (have : HaveWidths (cell_widths (cells_of S.kinds)) ws) (shows : Shows S.kinds s ws) (clock : IsClock g S made q s fired after)
      (xs : Arguments) (fits : (n : ℕ) → AreWordsOf (ports_of (slice_get S.elements n)) (xs n))
      (steps : VClock m ws (inputs_with q xs (length m.methods)) true nets nexts) where
    abbrev p : Asking
    p = asking_values S q

    abbrev ins : Inputs
    ins = inputs_with q xs (length m.methods)

    abbrev vs : List Bits
    vs = unasked.inputs_with S p xs

    elements_are : S.elements ≡ map outline b.elements
    unfolding design_scheme
    elements_are = al.elements

    too : ClockToo g S made q s fired after
    too = clock_too g S made lawful scheduled q s fit fired after clock

    fit_asked : Fit S p s
    fit_asked = fit_too S q s fit

    -- ---- the inputs and the registers of the net

    input_words_are : input_words (atom_word ws ins nets) (modules.inputs b) ≡ vs
    unfolding modules.inputs unasked.inputs_with
    input_words_are =
        inputs_from_are S q xs (λ n. length-words (ports_of (slice_get S.elements n)) (xs n) (fits n)) (length m.methods) ws nets 0 b.elements (omega (arith, count))
        (λ j e there.
        ap (slice_get S.elements) (omega arith)
        ∙ (ap (λ (os : List Outline). slice_get os j) elements_are ∙ mapped_at outline b.elements j e there))
        ∙ ap (λ (os : List Outline). inputs_with_from p xs 0 os) (sym elements_are)

    inputs_fit : HaveWidths net.inputs vs
    inputs_fit = subst (λ (us : List ℕ). HaveWidths us vs) (sym net_carries.inputs) (inputs_of_scheme S p xs fits)

    cells_fit : HaveWidths (cell_widths (map cell net.registers)) ws
    cells_fit = subst (λ (cs : List Cell). HaveWidths (cell_widths cs) ws) (sym net_carries.registers) have

    registers_fit : HaveWidths (register_widths net.registers) ws
    registers_fit = subst (λ (us : List ℕ). HaveWidths us ws) (cells_have net.registers) cells_fit

    -- ---- what is told of the clock, by the net and by the module

    abbrev told : Given
    told = gives (net_data net) ws vs

    net_told : TellsNet b (net_data net) m vs ws nets
    net_told = computes.tells vs ws ins true nets nexts inputs_fit registers_fit input_words_are steps

    nexts_are : nexts ≡ told.nexts
    nexts_are = computes.nexts vs ws ins nets nexts inputs_fit registers_fit input_words_are steps

    nexts_told : Shows S.kinds after told.nexts → Shows S.kinds after nexts
    nexts_told = subst (λ (us : List Bits). Shows S.kinds after us) (sym nexts_are)

    element_of : (n : ℕ) (o : Outline) → slice_get S.elements n ≡ Some o → IsOf outline b.elements n o
    element_of n o there = item_of outline b.elements n o (ap (λ (os : List Outline). slice_get os n) (sym elements_are) ∙ there)

    no_value_method : (n : ℕ) (o : Outline) → slice_get S.elements n ≡ Some o → is_value o.role ≡ false → ¬ IsValueMethod S n
    no_value_method n o there other v =
        both_ways (is_value o.role) other
        (ap (λ (x : Outline). is_value x.role) (same_Some o v.0 (sym there ∙ v.1)) ∙ ap is_value v.2)

    ready_same : (n : ℕ) → ready g S p n (clock_look S p s too.others) ≡ ready g S q n (clock_look S q s fired)
    ready_same n = ap (ready g S p n) too.look ∙ ready_too S q g n (clock_look S q s fired)

    value_same : (n : ℕ) → value S p n (clock_look S p s too.others) ≡ value S q n (clock_look S q s fired)
    value_same n = ap (value S p n) too.look ∙ value_too S q n (clock_look S q s fired)

    fire_told : (n : ℕ) (o : Outline) → slice_get S.elements n ≡ Some o → is_value o.role ≡ false
        → slice_get told.fires n ≡ Some (bit (is_in too.others n)) → TellsFire m nets o.name (bit (is_in fired n))
    fire_told n o there other tells =
        let e = element_of n o there in
        let fire = net_told.fires n e.item e.is (ap (λ (x : Outline). is_value x.role) e.gives ∙ other) in
        record {
          place = fire.place;
          at = fire.at ∙ ap (λ (x : Outline). Some (fire_wire x.name)) e.gives;
          word = fire.word ∙ (ap or_zero tells ∙ ap bit (too.fires n (no_value_method n o there other)));
        }

    ready_told : (n : ℕ) (o : Outline) → slice_get S.elements n ≡ Some o → is_rule o.role ≡ false
        → slice_get told.readies n ≡ Some (bit (ready g S p n (clock_look S p s too.others)))
        → nets (target.Ready n) ≡ bit (ready g S q n (clock_look S q s fired))
    ready_told n o there other tells =
        let e = element_of n o there in
        net_told.readies n e.item e.is (ap (λ (x : Outline). is_rule x.role) e.gives ∙ other)
        ∙ (ap or_zero tells ∙ ap bit (ready_same n))

    result_told : (n : ℕ) (o : Outline) (w : Bits) → slice_get S.elements n ≡ Some o
        → value S q n (clock_look S q s fired) ≡ Some w → slice_get told.results n ≡ Some w → nets (target.Result n) ≡ w
    result_told n o w there is tells =
        let e = element_of n o there in
        net_told.results n e.item e.is
        (gives_from_word b right q n (clock_look S q s fired) e.item e.is w
        (sym ((alike S (design_scheme b) al).value_same q n (clock_look S q s fired)) ∙ is))
        ∙ ap or_zero tells

    -- of all elements, where the net tells of them
    module_told : TellsClock g S p s too.others after told → TellsModule g S q s fired after m nets nexts
    module_told tells = record {
      fires = λ n o there other. fire_told n o there other (tells.elements.fires n (slice_get_within S.elements n o there));
      readies = λ n o there other. ready_told n o there other (tells.elements.readies n (slice_get_within S.elements n o there));
      results = λ n o w there other is_ready is.
          result_told n o w there is (tells.elements.results n w (ready_same n ∙ is_ready) (value_same n ∙ is));
      nexts = nexts_told tells.nexts;
    }

    -- and of those alone that are not idle
    others_told : TellsOthers g S p s too.others after told → TellsOthersByModule g S q s fired after m nets nexts
    others_told tells = record {
      fires = λ n o there other. fire_told n o there other (tells.fires n (slice_get_within S.elements n o there));
      readies = λ n o there other busy.
          ready_told n o there other (tells.readies n (slice_get_within S.elements n o there) (idle_too S q n ∙ busy));
      results = λ n o w there other busy is_ready is.
          result_told n o w there is (tells.results n w (idle_too S q n ∙ busy) (ready_same n ∙ is_ready) (value_same n ∙ is));
      nexts = nexts_told tells.nexts;
    }

  -- what the net carries, the module carries
  pub carries : (aggressive : Bool) (S : Scheme) (made : Schedule) → AreAlike S (design_scheme b) → IsLawful S → IsScheduleOf S made
      → WordsCarry aggressive S made net → ModuleCarries aggressive S made m
  carries g S made al lawful scheduled net_carries =
      λ q s ws fired after nets nexts fit have shows clock steps.
      let more = too g S made al lawful scheduled net_carries q s ws fired after nets nexts fit have shows clock (given S q) fit.requests steps in
      let p = asking_values S q in
      let inputs_are : inputs_of S p ≡ unasked.inputs_with S p (given S q) =
      sym (inputs_given S p) ∙ ap (unasked.inputs_with S p) (λ i n. sym (given_too S q n) i) in
      module_told g S made al lawful scheduled net_carries q s ws fired after nets nexts fit have shows clock (given S q) fit.requests steps
      (subst (λ (vs : List Bits). TellsClock g S p s more.others after (gives (net_data net) ws vs)) inputs_are
      (net_carries.clock p s ws more.others after (fit_too S q s fit)
      (subst (λ (cs : List Cell). HaveWidths (cell_widths cs) ws) (sym net_carries.registers) have) shows more.clock))

  -- and what the net ignores, the module ignores
  pub ignores : (aggressive : Bool) (S : Scheme) (made : Schedule) → AreAlike S (design_scheme b) → IsLawful S → IsScheduleOf S made
      → WordsCarry aggressive S made net → WordsIgnore aggressive S made net → ModuleIgnores aggressive S made m
  ignores g S made al lawful scheduled net_carries net_ignores =
      λ q s ws fired after nets nexts xs fit stand have shows clock steps.
      let more = too g S made al lawful scheduled net_carries q s ws fired after nets nexts fit have shows clock xs stand.widths steps in
      others_told g S made al lawful scheduled net_carries q s ws fired after nets nexts fit have shows clock xs stand.widths steps
      (net_ignores (asking_values S q) s ws more.others after xs (fit_too S q s fit) (stand_too S q xs stand)
      (subst (λ (cs : List Cell). HaveWidths (cell_widths cs) ws) (sym net_carries.registers) have) shows more.clock)
