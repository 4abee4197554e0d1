-- The elements of a tree that are carried out mean their text.
use Rattle.std.proofs.Common.{◌≡◌, ℕ, Bool, true, false, List, [], ◌∷◌, length, map, Option, Some, None, Result, Ok, Err, refl, sym, ap, ap₂, ◌∙◌, subst}
use Rattle.std.specs.Prelude.{slice_get, nat_lt, option_map, if◌then◌else◌}
use Rattle.std.proofs.lemmas.List.{length-map}
use Rattle.std.proofs.lemmas.Option.{same_Some}
use Rattle.bsv_bits.specs.Words.{Bits}
use Rattle.bsv_types.specs.declared.modules.Method.{Method}
use Rattle.bsv_types.specs.declared.modules.Module.{Module}
use Rattle.bsv_types.specs.declared.modules.Rule.{Rule}
use Rattle.bsv_design.specs.design.Bodies.{Answers}
use Rattle.bsv_design.specs.design.Roles.{gives_value}
use Rattle.bsv_design.specs.scheme.Schemes.{Outline}
use Rattle.bsv_design.specs.scheme.Traces.{Trace}
use Rattle.bsv_tree.specs.declared.source.Source.{Source}
use Rattle.bsv_tree.specs.declared.tree.Built.{Built}
use Rattle.bsv_tree.specs.declared.tree.Instance.{Instance}
use Rattle.bsv_tree.specs.declared.tree.Made.{Made}
use Rattle.bsv_tree.specs.declared.tree.Made.TheVariants as made
use Rattle.bsv_tree.specs.declared.values.Fault.{Fault}
use Rattle.bsv_tree.specs.declared.values.Value.{Value}
use Rattle.bsv_tree.specs.declared.values.Work.{Work}
use Rattle.bsv_tree.specs.tree.Contexts.{Context, made_of}
use Rattle.bsv_tree.specs.tree.Elements.{Text, PlacedRule, role_of, port_of, method_text, top_methods, top_text, rule_in, standing_text, rule_text, rule_at, element_count, text_at, element_text}
use Rattle.bsv_tree.specs.tree.Trees.{TreeData}
use Rattle.bsv_tree.specs.carrying.Carrying as carrying
use Rattle.bsv_tree.specs.carrying.Running as running
use Rattle.bsv_tree.specs.carrying.Running.{Happening, happening}
use Rattle.bsv_tree.specs.carrying.Sources.{method_done, rule_done, carried, source_at, element_at, step_trace}
use Rattle.bsv_tree.specs.carrying.Values.{atom_of}
use Rattle.bsv_tree.specs.carrying.Working.{Valued, no_steps}
use Rattle.bsv_tree.specs.meaning.Evaluation.{SiteCall, Need}
use Rattle.bsv_tree.specs.meaning.Meaning as meaning
use Rattle.bsv_tree.specs.meaning.Schemes.{site_of, demand_of, results, whole, text_trace, text_outline}
use Rattle.bsv_tree.specs.meaning.Values.{Value as Val, varying, word_of}
use Rattle.bsv_tree.proofs.meaning.Elements.{rule_means, method_means}

-- ---- the text of one element

abbrev context_of : Text → Context
context_of (Text.method site m) = site
context_of (Text.rule name site x) = site

-- what was carried out of a text: its outline is that of the text, and its steps do what the text means
record MeansText (x : Text) (s : Source) : Type 0 where
  outline : text_outline x ≡ (let o : Outline = record { name = s.name; role = s.role; ports = s.ports } in o)
  trace : (r : Answers) (ws : List Bits) → length ws ≡ length s.ports → step_trace (context_of x).modules (context_of x).instances s.steps s.gives r ws ≡ text_trace x r ws

rule_text_means : (name : List ℕ) (site : Context) (x : Rule) (o : Result Work Fault) → carrying.rule site x.condition x.body (no_steps (record { weight = 0; slots = 0 })) ≡ o
    → (s : Source) → rule_done name o ≡ Some s → MeansText (Text.rule name site x) s
unfolding step_trace text_trace
rule_text_means name site x (Err f) c s e = absurd cc
rule_text_means name site x (Ok w) c s e = subst (MeansText (Text.rule name site x)) (same_Some _ s e) (record { outline = refl; trace = by }) where
  by : (r : Answers) (ws : List Bits) → length ws ≡ 0 → step_trace site.modules site.instances w.steps None r ws ≡ text_trace (Text.rule name site x) r ws
  by r [] l =
      let it = rule_means (results site.instances r) site x.condition x.body w c in
      ap₂ (λ (cs : List SiteCall) (ns : List Need). let t : Trace = record { sites = map (site_of site.instances) cs; demands = map (demand_of site.modules site.instances) ns; result = None } in t) it.0 it.1
  by r (v ∷ ws) l = absurd cc

-- the word of a method that gives one
result_is : (b : Bool) (h : Happening) (x : Value) (y : Val) → running.word_of h.words (atom_of x) ≡ word_of y
    → option_map (running.word_of h.words) (if b then Some (atom_of x) else None) ≡ (if b then Some (word_of y) else None)
result_is true h x y e = ap Some e
result_is false h x y e = refl

method_text_means : (site : Context) (m : Method) (o : Valued) → carrying.top_method site m 0 ≡ o → (s : Source) → method_done site.shapes m o ≡ Some s → MeansText (Text.method site m) s
unfolding step_trace text_trace
method_text_means site m (Err f) c s e = absurd cc
method_text_means site m (Ok x) c s e = subst (MeansText (Text.method site m)) (same_Some _ s e) (record { outline = refl; trace = by }) where
  by : (r : Answers) (ws : List Bits) → length ws ≡ length (map (port_of site.shapes) m.params)
      → step_trace site.modules site.instances x.1.steps (if gives_value (role_of m.result) then Some (atom_of x.0) else None) r ws ≡ text_trace (Text.method site m) r ws
  by r ws l =
      let it = method_means (results site.instances r) site m 0 x.0 x.1 c ws (l ∙ length-map m.params (port_of site.shapes)) in
      let h = happening x.1.steps (results site.instances r) ws in
      let d = whole (meaning.top_method (results site.instances r) site m (map varying ws)) in
      ap₂ (λ (cs : List SiteCall) (ns : List Need). let t : Trace = record {
        sites = map (site_of site.instances) cs;
        demands = map (demand_of site.modules site.instances) ns;
        result = option_map (running.word_of h.words) (if gives_value (role_of m.result) then Some (atom_of x.0) else None);
      } in t) it.0 it.1
      ∙ ap (λ (o : Option Bits). let t : Trace = record { sites = map (site_of site.instances) d.calls; demands = map (demand_of site.modules site.instances) d.needs; result = o } in t)
      (result_is (gives_value (role_of m.result)) h x.0 d.gives it.2)

-- an element means the text that it is carried out of
text_means : (x : Text) (s : Source) → carried (Some x) ≡ Some s → MeansText x s
text_means (Text.method site m) s e = method_text_means site m (carrying.top_method site m 0) refl s e
text_means (Text.rule name site x) s e = rule_text_means name site x (carrying.rule site x.condition x.body (no_steps (record { weight = 0; slots = 0 }))) refl s e

-- ---- the elements of a tree

module _ (h : TreeData) where
  -- the text is one of this tree
  IsOfTree : Option Text → Type 0
  IsOfTree None = Unit {0}
  IsOfTree (Some x) = ((context_of x).modules ≡ h.typed.modules) × ((context_of x).instances ≡ h.instances)

  method_of_tree : (b : Built) (levels : Option ℕ) (m : Option Method) → IsOfTree (method_text h b levels m)
  unfolding IsOfTree
  method_of_tree b None m = tt
  method_of_tree b (Some n) None = tt
  method_of_tree b (Some n) (Some m) = (refl, refl)

  top_of_tree : (n : ℕ) (o : Option Made) → IsOfTree (top_text h n o)
  unfolding IsOfTree
  top_of_tree n None = tt
  top_of_tree n (Some (made.Primitive p k)) = tt
  top_of_tree n (Some (made.Module b)) = method_of_tree b (slice_get b.methods n) (slice_get (top_methods h) n)

  standing_of_tree : (r : PlacedRule) (o : Option Rule) → IsOfTree (standing_text h r o)
  unfolding IsOfTree
  standing_of_tree r None = tt
  standing_of_tree r (Some x) = (refl, refl)

  rule_of_tree : (o : Option PlacedRule) → IsOfTree (rule_text h o)
  unfolding IsOfTree
  rule_of_tree None = tt
  rule_of_tree (Some r) = standing_of_tree r (rule_in (slice_get h.typed.modules r.built.«module») r.rule.rule)

  element_of_tree : (n : ℕ) → IsOfTree (element_text h n)
  unfolding IsOfTree text_at
  element_of_tree n = by (nat_lt n (element_count h)) (nat_lt n (length (top_methods h))) where
    by : (a b : Bool) → IsOfTree (if a then (if b then top_text h n (made_of (slice_get h.instances 0)) else rule_text h (rule_at h.instances n)) else None)
    by true true = top_of_tree n (made_of (slice_get h.instances 0))
    by true false = rule_of_tree (rule_at h.instances n)
    by false b = tt

  -- an element is carried out of its text
  element_carried : (n : ℕ) → element_at h n ≡ carried (element_text h n)
  unfolding source_at text_at
  element_carried n = by (nat_lt n (element_count h)) (nat_lt n (length (top_methods h))) where
    top : Option Text
    top = top_text h n (made_of (slice_get h.instances 0))

    standing : Option Text
    standing = rule_text h (rule_at h.instances n)

    by : (a b : Bool) → (if a then (if b then carried top else carried standing) else None) ≡ carried (if a then (if b then top else standing) else None)
    by true true = refl
    by true false = refl
    by false b = refl

-- the element of a position, carried out, means the text of the position: it has its outline, and its steps do what the text
-- means, whatever methods of primitives give
pub record Means (h : TreeData) (n : ℕ) (s : Source) : Type 0 where
  pub text : Text
  pub is : element_text h n ≡ Some text
  pub outline : text_outline text ≡ (let o : Outline = record { name = s.name; role = s.role; ports = s.ports } in o)
  pub trace : (r : Answers) (ws : List Bits) → length ws ≡ length s.ports → step_trace h.typed.modules h.instances s.steps s.gives r ws ≡ text_trace text r ws

pub source_means : (h : TreeData) (n : ℕ) (s : Source) → element_at h n ≡ Some s → Means h n s
unfolding IsOfTree
source_means h n s e = by (element_text h n) refl (element_of_tree h n) (sym (element_carried h n) ∙ e) where
  by : (o : Option Text) → element_text h n ≡ o → IsOfTree h o → carried o ≡ Some s → Means h n s
  by None f k c = absurd cc
  by (Some x) f k c =
      let it = text_means x s c in
      record {
        text = x;
        is = f;
        outline = it.outline;
        trace = λ r ws l.
            ap₂ (λ (ms : List Module) (is : List Instance). step_trace ms is s.steps s.gives r ws) (sym k.0) (sym k.1) ∙ it.trace r ws l;
      }
