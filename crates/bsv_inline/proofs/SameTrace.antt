-- A flat body and the element that it is in a design have one trace.
use Rattle.std.proofs.Common.{◌≡◌, ◌∙◌, ℕ, Bool, true, false, List, [], ◌∷◌, ◌++◌, length, map, Option, Some, None, refl, ap, ap₂}
use Rattle.std.specs.Bool.{beq}
use Rattle.std.specs.Prelude.{nat_lt, slice_get, option_map, IsTrue}
use Rattle.std.specs.List.{list_all}
use Rattle.std.proofs.lemmas.Option.{slice_get-map}
use Rattle.std.proofs.lemmas.Bool.{and_from}
use Rattle.bsv_lemmas.proofs.Truths.{both_right, both_left}
use Rattle.bsv_bits.specs.Words.{Bits, bit}
use Rattle.bsv_types.specs.declared.modules.Module.{Module}
use Rattle.bsv_design.specs.declared.element.Call.{Call as PartCall}
use Rattle.bsv_design.specs.declared.element.Condition.{Condition as NamedCondition}
use Rattle.bsv_design.specs.declared.element.Element.{Element}
use Rattle.bsv_design.specs.declared.element.Port.{Port}
use Rattle.bsv_design.specs.declared.element.Role.{Role}
use Rattle.bsv_design.specs.declared.kind.Kind.{Kind}
use Rattle.bsv_design.specs.declared.node.Branch.{Branch}
use Rattle.bsv_design.specs.declared.node.Node.{Node}
use Rattle.bsv_design.specs.declared.node.Node.TheVariants as node
use Rattle.bsv_tree.specs.declared.steps.Atom.{Atom}
use Rattle.bsv_tree.specs.declared.steps.Step.{Step}
use Rattle.bsv_tree.specs.declared.tree.Instance.{Instance}
use Rattle.bsv_design.specs.design.Bodies as bodies
use Rattle.bsv_design.specs.design.Bodies.{Answers, Target, at}
use Rattle.bsv_design.specs.parts.Kinds.{kind_table}
use Rattle.bsv_tree.specs.meaning.Evaluation.{Results, SiteCall, Need}
use Rattle.bsv_design.specs.design.Words.{or_zero, is_one}
use Rattle.bsv_tree.specs.carrying.Running.{word_of, happening}
use Rattle.bsv_design.specs.scheme.Traces.{Site, Demand, Trace, acts, kind_at, site_at, demand_at, body_trace}
use Rattle.bsv_tree.specs.tree.Elements.{target_of, place_name}
use Rattle.bsv_tree.specs.meaning.Schemes.{site_of, demand_of}
use Rattle.bsv_tree.specs.carrying.Sources.{step_trace}
use Rattle.bsv_body.specs.declared.body.Body.{Body}
use Rattle.bsv_body.specs.declared.calls.Call.{Call}
use Rattle.bsv_body.specs.declared.calls.Condition.{Condition}
use Rattle.bsv_body.specs.Bodies.{IsSite, AreSites, IsNeed, AreNeeds, IsResult, IsBody, words}
use Rattle.bsv_body.specs.Nodes as nodes
use Rattle.bsv_inline.specs.Placed.{placed_call, named_condition, element, kind_fits, call_fits, acts_rightly}
use Rattle.bsv_body.proofs.Words.{shows_words}

-- what parts give, as what methods of instances give
abbrev pub results_of : List Instance → Answers → Results
results_of is r k m = r k (target_of is m)

-- the element has the nodes of the body, and its calls and conditions are those of the body
pub record IsElementOf (ms : List Module) (is : List Instance) (b : Body) (e : Element) : Type 0 where
  pub nodes : e.nodes ≡ b.nodes
  pub calls : e.calls ≡ map (placed_call is) b.calls
  pub conditions : e.conditions ≡ map (named_condition ms is) b.conditions
  pub result : e.result ≡ b.result

pub is_element : (ms : List Module) (is : List Instance) (name : List ℕ) (as_role : Role) (ports : List Port) (b : Body) (e : Element)
    → e ≡ element ms is name as_role ports b → IsElementOf ms is b e
is_element ms is name as_role ports b e made = record {
  nodes = ap (λ (x : Element). x.nodes) made;
  calls = ap (λ (x : Element). x.calls) made;
  conditions = ap (λ (x : Element). x.conditions) made;
  result = ap (λ (x : Element). x.result) made;
}

-- ---- words

module _ (is : List Instance) (r : Answers) (arguments : List Bits) (calls : List Call) where
  abbrev own : Results
  own = results_of is r

  abbrev parts : List PartCall
  parts = map (placed_call is) calls

  answer_same : (c : ℕ) (ws : List Bits) → bodies.answer r c ws (slice_get parts c) ≡ nodes.answer own c ws (slice_get calls c)
  answer_same c ws = ap (bodies.answer r c ws) (slice_get-map (placed_call is) calls c) ∙ by (slice_get calls c) where
    by : (o : Option Call) → bodies.answer r c ws (option_map (placed_call is) o) ≡ nodes.answer own c ws o
    by None = refl
    by (Some x) = refl

  word_same : (ws : List Bits) (x : Node) → bodies.node_word r arguments parts ws x ≡ nodes.node_word own arguments calls ws x
  word_same ws (node.Result c) = answer_same c ws
  word_same ws (node.Constant w) = refl
  word_same ws (node.Argument k) = refl
  word_same ws (node.Not a) = refl
  word_same ws (node.Two o a b) = refl
  word_same ws (node.Pick t a b) = refl
  word_same ws (node.Slice a high low) = refl
  word_same ws (node.Join a b) = refl
  word_same ws (node.Extend a width) = refl
  word_same ws (node.SignExtend a width) = refl

  values_same : (ws : List Bits) (xs : List Node) → bodies.values r arguments parts ws xs ≡ nodes.values own arguments calls ws xs
  unfolding bodies.words_after
  values_same ws [] = refl
  values_same ws (x ∷ xs) =
      ap (λ (w : Bits). bodies.values r arguments parts (ws ++ w ∷ []) xs) (word_same ws x)
      ∙ values_same (ws ++ nodes.node_word own arguments calls ws x ∷ []) xs

pub same_words : (ms : List Module) (is : List Instance) (b : Body) (e : Element) → IsElementOf ms is b e
    → (r : Answers) (arguments : List Bits) → bodies.words e r arguments ≡ words (results_of is r) arguments b
same_words ms is b e of r arguments =
    ap₂ (λ (cs : List PartCall) (ns : List Node). bodies.values r arguments cs [] ns) of.calls of.nodes
    ∙ values_same is r arguments b.calls [] b.nodes

-- ---- what is beside them

one_of : (vs : List Bits) (k : ℕ) (b : Bool) → slice_get vs k ≡ Some (bit b) → is_one (at vs k) ≡ b
one_of vs k b e = ap (λ (o : Option Bits). is_one (or_zero o)) e ∙ by b where
  by : (x : Bool) → is_one (bit x) ≡ x
  by true = refl
  by false = refl

same_bool : (x y : Bool) → IsTrue (beq x y) → x ≡ y
same_bool true true h = refl
same_bool false false h = refl
same_bool true false h = absurd cc
same_bool false true h = absurd cc

-- calls that fit act where their methods do
pub acts_where_fits : (ks : List Kind) (is : List Instance) (cs : List Call) → IsTrue (list_all (call_fits ks is) cs) → IsTrue (list_all (acts_rightly ks is) cs)
acts_where_fits ks is [] h = refl
acts_where_fits ks is (c ∷ cs) h =
    and_from _ _ (of_kind (kind_at ks (target_of is c.method)) c (both_left _ _ h)) (acts_where_fits ks is cs (both_right (call_fits ks is c) _ h)) where
      of_kind : (o : Option Kind) (x : Call) → IsTrue (kind_fits o x) → IsTrue (beq (acts o x.method.method) x.action)
      of_kind None x h = absurd cc
      of_kind (Some k) x h = both_right (nat_lt x.method.method (kind_table k).methods) _ h

module _ (ms : List Module) (is : List Instance) (ks : List Kind) (vs : List Bits) where
  site_same : (c : Call) (s : SiteCall) → IsSite vs c s → IsTrue (acts_rightly ks is c) → site_at ks vs (placed_call is c) ≡ site_of is s
  site_same c s h right =
      let t : target_of is c.method ≡ target_of is s.method = ap (target_of is) h.method in
      let a : acts (kind_at ks (target_of is c.method)) c.method.method ≡ s.action = same_bool _ c.action right ∙ h.action in
      let k : is_one (at vs c.taken) ≡ s.taken = one_of vs c.taken s.taken h.taken in
      let w : map (at vs) c.arguments ≡ s.arguments = shows_words vs c.arguments s.arguments h.arguments in
      ap₂ (λ (x : Target) (y : Bool). made x y (is_one (at vs c.taken)) c.branches (map (at vs) c.arguments)) t a
      ∙ ap₂ (λ (x : Bool) (y : List Branch). made (target_of is s.method) s.action x y (map (at vs) c.arguments)) k h.branches
      ∙ ap (λ (x : List Bits). made (target_of is s.method) s.action s.taken s.branches x) w where
        made : Target → Bool → Bool → List Branch → List Bits → Site
        made x y z u w = record { target = x; action = y; taken = z; branches = u; arguments = w }

  sites_same : (cs : List Call) (ss : List SiteCall) → AreSites vs cs ss → IsTrue (list_all (acts_rightly ks is) cs)
      → map (site_at ks vs) (map (placed_call is) cs) ≡ map (site_of is) ss
  sites_same [] [] h right = refl
  sites_same (c ∷ cs) (s ∷ ss) h right =
      ap₂ (λ (x : Site) (xs : List Site). x ∷ xs) (site_same c s h.0 (both_left _ _ right)) (sites_same cs ss h.1 (both_right (acts_rightly ks is c) _ right))
  sites_same [] (s ∷ ss) h right = absurd h
  sites_same (c ∷ cs) [] h right = absurd h

  demand_same : (c : Condition) (n : Need) → IsNeed vs c n → demand_at vs (named_condition ms is c) ≡ demand_of ms is n
  demand_same c n h =
      let a : option_map (place_name ms is) c.name ≡ option_map (place_name ms is) n.name = ap (option_map (place_name ms is)) h.name in
      let t : is_one (at vs c.truth) ≡ n.truth = ap (λ (o : Option Bits). is_one (or_zero o)) h.truth ∙ h.holds in
      let k : is_one (at vs c.taken) ≡ n.taken = one_of vs c.taken n.taken h.taken in
      ap (λ (x : Option (List ℕ)). made x (is_one (at vs c.truth)) (is_one (at vs c.taken))) a
      ∙ ap₂ (λ (x : Bool) (y : Bool). made (option_map (place_name ms is) n.name) x y) t k where
        made : Option (List ℕ) → Bool → Bool → Demand
        made x y z = record { name = x; holds = y; taken = z }

  demands_same : (cs : List Condition) (ns : List Need) → AreNeeds vs cs ns → map (demand_at vs) (map (named_condition ms is) cs) ≡ map (demand_of ms is) ns
  demands_same [] [] h = refl
  demands_same (c ∷ cs) (n ∷ ns) h = ap₂ (λ (x : Demand) (xs : List Demand). x ∷ xs) (demand_same c n h.0) (demands_same cs ns h.1)
  demands_same [] (n ∷ ns) h = absurd h
  demands_same (c ∷ cs) [] h = absurd h

result_same : (vs ws : List Bits) (k : Option ℕ) (a : Option Atom) → IsResult vs k a ws → option_map (at vs) k ≡ option_map (word_of ws) a
result_same vs ws None None h = refl
result_same vs ws (Some k) (Some a) h = ap (λ (o : Option Bits). Some (or_zero o)) h
result_same vs ws None (Some a) h = absurd h
result_same vs ws (Some k) None h = absurd h

-- ---- the trace

abbrev pub trace_at : List Kind → List Bits → List PartCall → List NamedCondition → Option ℕ → Trace
trace_at ks vs cs ds k = record { sites = map (site_at ks vs) cs; demands = map (demand_at vs) ds; result = option_map (at vs) k }

abbrev trace : List Site → List Demand → Option Bits → Trace
trace xs ys z = record { sites = xs; demands = ys; result = z }

trace_is : (ks : List Kind) (e : Element) (r : Answers) (ws : List Bits) → body_trace ks e r ws ≡ trace_at ks (bodies.words e r ws) e.calls e.conditions e.result
unfolding body_trace
trace_is ks e r ws = refl

steps_are : (ms : List Module) (is : List Instance) (ss : List Step) (gives : Option Atom) (r : Answers) (ws : List Bits)
    → (let h = happening ss (results_of is r) ws in trace (map (site_of is) h.calls) (map (demand_of ms is) h.needs) (option_map (word_of h.words) gives)) ≡ step_trace ms is ss gives r ws
unfolding step_trace
steps_are ms is ss gives r ws = refl

-- Whatever parts give, and for all words of so many arguments: the element of a body does what the steps do
pub same_trace : (ms : List Module) (is : List Instance) (ks : List Kind) (count : ℕ) (ss : List Step) (gives : Option Atom) (b : Body) (e : Element)
    → IsBody count ss gives b → IsElementOf ms is b e → IsTrue (list_all (acts_rightly ks is) b.calls)
    → (r : Answers) (ws : List Bits) → length ws ≡ count → body_trace ks e r ws ≡ step_trace ms is ss gives r ws
same_trace ms is ks count ss gives b e body of right r ws long =
    let own = results_of is r in
    let vs = words own ws b in
    let h = happening ss own ws in
    let parts : trace_at ks (bodies.words e r ws) e.calls e.conditions e.result
    ≡ trace_at ks vs (map (placed_call is) b.calls) (map (named_condition ms is) b.conditions) b.result =
    ap₂ (λ (us : List Bits) (cs : List PartCall). trace_at ks us cs e.conditions e.result) (same_words ms is b e of r ws) of.calls
    ∙ ap₂ (λ (ds : List NamedCondition) (k : Option ℕ). trace_at ks vs (map (placed_call is) b.calls) ds k) of.conditions of.result in
    trace_is ks e r ws ∙ parts
    ∙ ap₂ (λ (xs : List Site) (ys : List Demand). trace xs ys (option_map (at vs) b.result))
    (sites_same ms is ks vs b.calls h.calls (body.calls own ws long) right) (demands_same ms is ks vs b.conditions h.needs (body.conditions own ws long))
    ∙ ap (λ (z : Option Bits). trace (map (site_of is) h.calls) (map (demand_of ms is) h.needs) z) (result_same vs h.words b.result gives (body.result own ws long))
    ∙ steps_are ms is ss gives r ws

-- the same of the element that is made of a body whose calls fit
pub element_trace : (ms : List Module) (is : List Instance) (ks : List Kind) (count : ℕ) (ss : List Step) (gives : Option Atom) (b : Body)
    → (name : List ℕ) (as_role : Role) (ports : List Port) (e : Element) → e ≡ element ms is name as_role ports b
    → IsBody count ss gives b → IsTrue (list_all (call_fits ks is) b.calls)
    → (r : Answers) (ws : List Bits) → length ws ≡ count → body_trace ks e r ws ≡ step_trace ms is ss gives r ws
element_trace ms is ks count ss gives b name as_role ports e made body fit =
    same_trace ms is ks count ss gives b e body (is_element ms is name as_role ports b e made) (acts_where_fits ks is b.calls fit)
