-- The scheme of a design is sound.
use Rattle.std.proofs.Common.{◌≡◌, ◌∙◌, ℕ, true, false, List, [], ◌∷◌, length, map, Option, Some, None, refl, sym, ap}
use Rattle.std.specs.Prelude.{slice_get, option_map}
use Rattle.std.proofs.lemmas.Bool.{not-true}
use Rattle.std.proofs.lemmas.Option.{slice_get-map}
use Rattle.bsv_lemmas.proofs.Places.{mapped_at}
use Rattle.bsv_bits.specs.Words.{Bits}
use Rattle.bsv_design.specs.declared.element.Call.{Call}
use Rattle.bsv_design.specs.declared.element.Condition.{Condition}
use Rattle.bsv_design.specs.declared.element.Element.{Element}
use Rattle.bsv_design.specs.declared.element.Role.TheVariants as role
use Rattle.bsv_design.specs.declared.kind.Kind.{Kind}
use Rattle.bsv_design.specs.design.Bodies.{target, Answers, at, words}
use Rattle.bsv_design.specs.design.Branches.{AreExclusive, AgreeOnTaken, AreSameWhereTaken}
use Rattle.bsv_design.specs.design.Designs.{DesignData, IsElement, IsDesign}
use Rattle.bsv_design.specs.parts.Kinds.{kind_table}
use Rattle.bsv_design.specs.scheme.Schemes.{Outline, AreArgumentsOf, outline, ports_of, calls_of, trace_of, kinds_of, design_scheme}
use Rattle.bsv_design.specs.scheme.Traces.{Site, Demand, acts, kind_at, site_at, demand_at, body_trace}
use Rattle.bsv_design.specs.design.Widths.{acts_not}
use Rattle.bsv_guard.specs.Sound.{IsSound, AreSamePlaces, AgreeOnReads, Place, place}
use Rattle.bsv_guard.proofs.Lists.{holds_at_all, item_of}
use Rattle.bsv_guard.proofs.Nodes.{same_words}
use Rattle.bsv_design.proofs.Elements.{site_targets}

-- the words are as many as an element has arguments
abbrev Fit : Option Element → List Bits → Type 0
Fit o ws = length ws ≡ length (ports_of (option_map outline o))

-- what is asked of a scheme, of one element
record RunsSoundly (ks : List Kind) (o : Option Element) : Type 0 where
  uses : (r : Answers) (ws : List Bits) → Fit o ws → map (λ x. x.target) (trace_of ks o r ws).sites ≡ calls_of o
  places : (q r : Answers) (vs ws : List Bits) → Fit o vs → Fit o ws → AreSamePlaces (trace_of ks o q vs) (trace_of ks o r ws)
  exclusive : (r : Answers) (ws : List Bits) → Fit o ws → AreExclusive (trace_of ks o r ws).sites
  decided : (q r : Answers) (ws : List Bits) → Fit o ws → AgreeOnTaken q r (trace_of ks o q ws).sites → AreSameWhereTaken (trace_of ks o q ws) (trace_of ks o r ws)
  local : (q r : Answers) (ws : List Bits) → Fit o ws → AgreeOnReads q r (trace_of ks o q ws).sites → trace_of ks o q ws ≡ trace_of ks o r ws
  actions : (r : Answers) (ws : List Bits) → Fit o ws → (k : ℕ) (x : Site) → slice_get (trace_of ks o r ws).sites k ≡ Some x → x.action ≡ acts (kind_at ks x.target) x.target.method
  values_act_not : (e : Element) → o ≡ Some e → e.role ≡ role.Value → (r : Answers) (ws : List Bits) → Fit o ws → (k : ℕ) (x : Site) → slice_get (trace_of ks o r ws).sites k ≡ Some x → x.action ≡ false

nothing_runs : (ks : List Kind) → RunsSoundly ks None
nothing_runs ks = record {
  uses = λ r ws f. refl;
  places = λ q r vs ws f g. record { calls = refl; conditions = refl };
  exclusive = λ r ws f i j x y e g t a b. let n : ⊥ = cc in n;
  decided = λ q r ws f h. record { sites = tt; demands = tt; result = refl };
  local = λ q r ws f h. refl;
  actions = λ r ws f k x e. absurd (let n : ⊥ = cc in n);
  values_act_not = λ e n v r ws f k x g. absurd (let n : ⊥ = cc in n);
}

places_of : (ks : List Kind) (vs ws : List Bits) (cs : List Call) → map place (map (site_at ks vs) cs) ≡ map place (map (site_at ks ws) cs)
places_of ks vs ws [] = refl
places_of ks vs ws (c ∷ cs) = ap (λ (ps : List Place). place (site_at ks vs c) ∷ ps) (places_of ks vs ws cs)

names_of : (vs ws : List Bits) (cs : List Condition) → map (λ (x : Demand). x.name) (map (demand_at vs) cs) ≡ map (λ (x : Demand). x.name) (map (demand_at ws) cs)
names_of vs ws [] = refl
names_of vs ws (c ∷ cs) = ap (λ ns. c.implicit ∷ ns) (names_of vs ws cs)

action_of : (ks : List Kind) (ws : List Bits) (cs : List Call) (k : ℕ) (x : Site) → slice_get (map (site_at ks ws) cs) k ≡ Some x → x.action ≡ acts (kind_at ks x.target) x.target.method
action_of ks ws cs k x e =
    let i = item_of (site_at ks ws) cs k x e in
    sym (ap (λ (y : Site). y.action) i.gives) ∙ ap (λ (y : Site). acts (kind_at ks y.target) y.target.method) i.gives

quiet : (ks : List Kind) (c : Call) → acts_not ks c ≡ true → acts (kind_at ks (target c)) c.method ≡ false
quiet ks c h = of (slice_get ks c.part) refl
  where
    of : (o : Option Kind) → slice_get ks c.part ≡ o → acts (slice_get ks c.part) c.method ≡ false
    of None e = ap (λ (o : Option Kind). acts o c.method) e
    of (Some k) e = ap (λ (o : Option Kind). acts o c.method) e ∙ not-true ((kind_table k).is_action c.method) (rw (e, acts_not) at h)

body_runs : (ks : List Kind) (e : Element) → IsElement ks e → RunsSoundly ks (Some e)
unfolding body_trace
body_runs ks e is = record {
  uses = λ r ws f. site_targets ks (words e r ws) e.calls;
  places = λ q r vs ws f g. record { calls = places_of ks (words e q vs) (words e r ws) e.calls; conditions = names_of (words e q vs) (words e r ws) e.conditions };
  exclusive = λ r ws f. is.exclusive r ws f;
  decided = λ q r ws f. is.decided q r ws f;
  local = λ q r ws f h.
      ap (λ (us : List Bits). record { sites = map (site_at ks us) e.calls; demands = map (demand_at us) e.conditions; result = option_map (at us) e.result })
      (same_words ks e.arguments e.calls ws q r e.nodes is.fits.widths is.fits.nodes
      (λ c y g a. h c (site_at ks (words e q ws) y) (mapped_at (site_at ks (words e q ws)) e.calls c y g) a));
  actions = λ r ws f. action_of ks (words e r ws) e.calls;
  values_act_not = λ d same v r ws f k x g.
      (let one : e ≡ d = cc in
      let i = item_of (site_at ks (words e r ws)) e.calls k x g in
      sym (ap (λ (y : Site). y.action) i.gives) ∙ quiet ks i.item (holds_at_all (acts_not ks) e.calls (is.value (ap (λ (z : Element). z.role) one ∙ v)) k i.item i.is));
}

fit_of : (b : DesignData) (n : ℕ) (ws : List Bits) → AreArgumentsOf (design_scheme b) n ws → Fit (slice_get b.elements n) ws
unfolding design_scheme
fit_of b n ws f = f ∙ ap (λ o. length (ports_of o)) (slice_get-map outline b.elements n)

each_runs : (b : DesignData) → IsDesign b → (n : ℕ) → RunsSoundly (kinds_of b) (slice_get b.elements n)
each_runs b is n = of (slice_get b.elements n) refl
  where
    of : (o : Option Element) → slice_get b.elements n ≡ o → RunsSoundly (kinds_of b) o
    of None e = nothing_runs (kinds_of b)
    of (Some x) e = body_runs (kinds_of b) x (is.elements n x e)

pub design_is_sound : (b : DesignData) → IsDesign b → IsSound (design_scheme b)
unfolding design_scheme
design_is_sound b is = record {
  uses = λ n r ws f. (each_runs b is n).uses r ws (fit_of b n ws f);
  places = λ n q r vs ws f g. (each_runs b is n).places q r vs ws (fit_of b n vs f) (fit_of b n ws g);
  exclusive = λ n r ws f. (each_runs b is n).exclusive r ws (fit_of b n ws f);
  decided = λ n q r ws f. (each_runs b is n).decided q r ws (fit_of b n ws f);
  local = λ n q r ws f. (each_runs b is n).local q r ws (fit_of b n ws f);
  actions = λ n r ws f. (each_runs b is n).actions r ws (fit_of b n ws f);
  values = λ n o e v r ws f.
      (let i = item_of outline b.elements n o e in
      (each_runs b is n).values_act_not i.item i.is (ap (λ (x : Outline). x.role) i.gives ∙ v) r ws (fit_of b n ws f));
}
