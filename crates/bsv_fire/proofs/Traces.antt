-- Where each method is open that an element uses, its nodes in the net tell its trace in the clock.
use Rattle.std.proofs.Common.{◌≡◌, ◌∙◌, ℕ, zero, suc, ◌<◌, ◌^◌, true, false, List, [], ◌∷◌, length, map, Option, Some, None, refl, sym, ap, ap₂, subst, arith}
use Rattle.std.specs.Prelude.{slice_get, nat_lt, option_map, ◌==◌}
use Rattle.std.specs.List.{AllByRecursion}
use Rattle.std.proofs.lemmas.Bool.{and_parts}
use Rattle.std.proofs.lemmas.List.{length-map}
use Rattle.std.proofs.lemmas.Option.{slice_get-map}
use Rattle.bsv_lemmas.proofs.Places.{mapped_at}
use Rattle.bsv_bits.specs.Words.{Bits, bit}
use Rattle.bsv_prim.specs.Table.{IsWordOf}
use Rattle.bsv_design.specs.declared.element.Call.{Call}
use Rattle.bsv_design.specs.declared.element.Condition.{Condition}
use Rattle.bsv_design.specs.declared.element.Element.{Element}
use Rattle.bsv_design.specs.declared.kind.Kind.{Kind}
use Rattle.bsv_design.specs.design.Bodies.{Answers, at, target, words}
use Rattle.bsv_design.specs.design.Designs.{HasWidths}
use Rattle.bsv_design.specs.parts.Kinds.{kind_table}
use Rattle.bsv_design.specs.design.Words.{is_one}
use Rattle.bsv_design.specs.scheme.Schemes.{answers, design_scheme, is_open, kinds_of, outline, ports_of, seen, trace_of, value}
use Rattle.bsv_design.specs.scheme.States.{AreWordsOf, FitLook}
use Rattle.bsv_design.specs.scheme.Traces.{Site, Trace, acts, body_trace, demand_at, kind_at, site_at}
use Rattle.bsv_design.specs.design.Widths.{args_fit, call_fits, condition_fits, has_width, method_fits}
use Rattle.bsv_guard.specs.Fitting.{HaveWidths}
use Rattle.bsv_guard.proofs.BodyFits.{call_fit, width_is, word_there}
use Rattle.bsv_guard.proofs.DesignFits.{element_words}
use Rattle.bsv_guard.proofs.Extends.{answer_open}
use Rattle.bsv_guard.proofs.Fits.{answers_fit}
use Rattle.bsv_guard.proofs.Lists.{holds_at_all, item_of}
use Rattle.bsv_guard.proofs.Nodes.{arguments_before, has_one, same_words}
use Rattle.bsv_clock.specs.Grounds.{BelongTogether}
use Rattle.bsv_clock.proofs.Clocks.{clock_fed}
use Rattle.bsv_clock.proofs.Steadily.{steady_scheme}
use Rattle.bsv_net.specs.declared.node.Site.{Site as NetSite}
use Rattle.bsv_net.specs.Equations.{Values}
use Rattle.bsv_net.specs.Placing.{node_at}
use Rattle.bsv_net.proofs.Solution.{same_length}
use Rattle.bsv_fire.specs.Bodies.{Ports, site, sites, truths}
use Rattle.bsv_ports.specs.Ports.{arity_of}
use Rattle.bsv_fire.specs.Grounds.{Ground}
use Rattle.bsv_fire.proofs.Bodies.{all_at_places, args_many, at_places, use_of}
use Rattle.bsv_ports.proofs.FirstNodes.{word_is_at}
use Rattle.bsv_ports.proofs.Scene.{Scene, S, looks, TellsSite}
use Rattle.bsv_fire.proofs.Wiring.{IsWired}

-- ---- words of one bit

bit_of : (width value : ℕ) → width ≡ 1 → value < 2 → (let w : Bits = record { width = width; value = value } in w) ≡ bit (value == 1)
bit_of width zero e l = ap (λ (n : ℕ). record { width = n; value = 0 }) e
bit_of width (suc zero) e l = ap (λ (n : ℕ). record { width = n; value = 1 }) e
bit_of width (suc (suc value)) e l = absurd (omega arith)

pub one_bit : (w : Bits) → IsWordOf 1 w → w ≡ bit (is_one w)
one_bit w h = bit_of w.width w.value h.same_width (subst (λ (n : ℕ). w.value < 2 ^ n) h.same_width h.word.below)

pub has_bit : (us : List ℕ) (ws : List Bits) → HaveWidths us ws → (k : ℕ) → has_width (slice_get us k) 1 ≡ true → at ws k ≡ bit (is_one (at ws k))
has_bit us ws have k h = one_bit (at ws k) (word_there us ws have k 1 (width_is (slice_get us k) 1 h))

-- ---- calls

pub record ArgumentsStand (o : Option Kind) (us : List ℕ) (c : Call) : Type 0 where
  pub before : AllByRecursion (λ a. a < length us) c.args
  pub many : length c.args ≡ arity_of o c.method

pub arguments_stand : (o : Option Kind) (us : List ℕ) (c : Call) → method_fits o us c ≡ true → ArgumentsStand o us c
arguments_stand None us c h = absurd (let n : ⊥ = cc in n)
arguments_stand (Some kind) us c h =
    let t = kind_table kind in
    let args = (and_parts (nat_lt c.method t.methods) (args_fit t c.method us 0 c.args) h).1 in
    record {
      before = arguments_before t c.method us 0 c.args args;
      many = (let m = args_many t c.method us 0 c.args args in omega arith);
    }

-- the words of a call's nodes tell the call
module _ (V : Values) (ks : List Kind) (us : List ℕ) (ws : List Bits) (have : HaveWidths us ws) (places : List ℕ) (told : map V places ≡ ws) where
  long : length places ≡ length us
  long = sym (length-map places V) ∙ ap length told ∙ sym (same_length us ws have)

  pub word_told : (k : ℕ) → k < length us → V (node_at places k) ≡ at ws k
  word_told k l = sym (at_places V places k (subst (λ (n : ℕ). k < n) (sym long) l)) ∙ ap (λ (vs : List Bits). at vs k) told

  pub bit_told : (k : ℕ) → has_width (slice_get us k) 1 ≡ true → V (node_at places k) ≡ bit (is_one (at ws k))
  bit_told k h = word_told k (has_one us k 1 h) ∙ has_bit us ws have k h

  arguments_told : (args : List ℕ) → AllByRecursion (λ a. a < length us) args → map V (map (node_at places) args) ≡ map (at ws) args
  arguments_told args h =
      all_at_places V places args (subst (λ (n : ℕ). AllByRecursion (λ a. a < n) args) (sym long) h) ∙ ap (λ (vs : List Bits). map (at vs) args) told

  call_told : (c : Call) → call_fits ks us c ≡ true → TellsSite V (site_at ks ws c) (site places c)
  call_told c h =
      let parts = and_parts (has_width (slice_get us c.taken) 1) (method_fits (slice_get ks c.part) us c) h in
      let stand = arguments_stand (slice_get ks c.part) us c parts.1 in
      let told = arguments_told c.args stand.before in
      record {
        taken = bit_told c.taken parts.0;
        args = λ t k l.
            (let within : k < length (map (node_at places) c.args) = omega (arith, l, length-map c.args (node_at places), length-map c.args (at ws)) in
            sym (at_places V (map (node_at places) c.args) k within) ∙ ap (λ (vs : List Bits). at vs k) told ∙ sym (word_is_at (map (at ws) c.args) k));
      }

  pub calls_told : (cs : List Call) → ((k : ℕ) (c : Call) → slice_get cs k ≡ Some c → call_fits ks us c ≡ true)
      → (k : ℕ) (x : Site) (s : NetSite) → slice_get (map (site_at ks ws) cs) k ≡ Some x → slice_get (sites places cs) k ≡ Some s → TellsSite V x s
  calls_told cs fit k x s there placed =
      let i = item_of (site_at ks ws) cs k x there in
      let own : slice_get (sites places cs) k ≡ Some (site places i.item) = mapped_at (site places) cs k i.item i.is in
      let same : site places i.item ≡ s = cc in
      subst (TellsSite V x) same (subst (λ (y : Site). TellsSite V y (site places i.item)) i.gives (call_told i.item (fit k i.item i.is)))

  -- and the truths of conditions are bits
  pub truths_told : (cs : List Condition) → ((k : ℕ) (c : Condition) → slice_get cs k ≡ Some c → condition_fits us c ≡ true)
      → map V (truths places cs) ≡ map bit (map (λ c. is_one (at ws c.truth)) cs)
  truths_told [] fit = refl
  truths_told (c ∷ cs) fit =
      let parts = and_parts (has_width (slice_get us c.truth) 1) (has_width (slice_get us c.taken) 1) (fit 0 c refl) in
      ap₂ (λ (v : Bits) (vs : List Bits). v ∷ vs) (bit_told c.truth parts.0) (truths_told cs (λ k x e. fit (suc k) x e))

-- ---- an element

module _ (z : Scene) (n : ℕ) (e : Element) (is : slice_get z.b.elements n ≡ Some e) where
  abbrev pub ks : List Kind
  ks = kinds_of z.b

  -- the words of its flat body under the look of the clock
  abbrev pub own_words : List Bits
  own_words = words e (answers ks (looks z)) (z.xs n)

  pub fits : HasWidths ks e
  fits = (z.right.elements n e is).fits

  look_fits : FitLook ks (looks z)
  unfolding design_scheme
  look_fits =
      let together : BelongTogether (S z) z.made z.q z.s = record { lawful = z.lawful; schedule = z.scheduled; fit = z.fit } in
      (clock_fed false (S z) z.made z.q z.s together (steady_scheme false (S z) z.lawful)).look_fits

  given_fits : AreWordsOf e.arguments (z.xs n)
  unfolding design_scheme
  given_fits =
      subst (λ o. AreWordsOf (ports_of o) (z.xs n)) (slice_get-map outline z.b.elements n ∙ ap (option_map outline) is) (z.stands n)

  pub words_have : HaveWidths fits.widths own_words
  unfolding fits
  words_have = element_words ks e (z.right.elements n e is) (answers ks (looks z)) (z.xs n) given_fits (answers_fit ks (looks z) look_fits)

  pub call_is_fit : (k : ℕ) (c : Call) → slice_get e.calls k ≡ Some c → call_fits ks fits.widths c ≡ true
  call_is_fit k c there = holds_at_all (call_fits ks fits.widths) e.calls fits.calls k c there

  pub condition_is_fit : (k : ℕ) (c : Condition) → slice_get e.conditions k ≡ Some c → condition_fits fits.widths c ≡ true
  condition_is_fit k c there = holds_at_all (condition_fits fits.widths) e.conditions fits.conditions k c there

  run_is : seen (S z) z.q n (looks z) ≡ body_trace ks e (answers ks (looks z)) (z.xs n)
  unfolding seen design_scheme
  run_is = ap (λ (o : Option Element). trace_of ks o (answers ks (looks z)) (z.xs n)) is

  pub sites_are : (seen (S z) z.q n (looks z)).sites ≡ map (site_at ks own_words) e.calls
  unfolding body_trace
  sites_are = ap (λ (t : Trace). t.sites) run_is

  pub demands_are : (seen (S z) z.q n (looks z)).demands ≡ map (demand_at own_words) e.conditions
  unfolding body_trace
  demands_are = ap (λ (t : Trace). t.demands) run_is

  pub value_is : value (S z) z.q n (looks z) ≡ option_map (at own_words) e.result
  unfolding body_trace value
  value_is = ap (λ (t : Trace). t.result) run_is

  -- ---- where all is open

  abbrev pub EachIsOpen : Type 0
  EachIsOpen = (k : ℕ) (c : Call) → slice_get e.calls k ≡ Some c → is_open ks (looks z) (target c) ≡ true

  module _ (g : Ground) (ports : Ports) (r : Answers) (wiring : IsWired z g.base ports n r) (each : EachIsOpen) where
    agree : (k : ℕ) (c : Call) → slice_get e.calls k ≡ Some c → acts (kind_at ks (target c)) c.method ≡ false
        → answers ks (looks z) k (target c) (map (at own_words) c.args) ≡ r k (target c) (map (at own_words) c.args)
    unfolding design_scheme
    agree k c there reads =
        let args = map (at own_words) c.args in
        let parts = and_parts (has_width (slice_get fits.widths c.taken) 1) (method_fits (slice_get ks c.part) fits.widths c) (call_is_fit k c there) in
        answer_open ks (looks z) k (target c) args (each k c there)
        ∙ sym (wiring.result_open (target c) (use_of z n e is k c there) k args (each k c there) reads
        (call_fit fits.widths own_words words_have (slice_get ks c.part) c parts.1))

    pub same_as_wired : own_words ≡ words e r (z.xs n)
    same_as_wired = same_words ks e.arguments e.calls (z.xs n) (answers ks (looks z)) r e.nodes fits.widths fits.nodes agree
