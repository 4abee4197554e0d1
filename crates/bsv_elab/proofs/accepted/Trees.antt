-- What is built is accepted: carrying out its rules, and the methods of its top, meets no refusal.
use Rattle.std.proofs.Common.{◌≡◌, ◌∙◌, ℕ, zero, suc, ◌+◌, List, [], ◌∷◌, take, Option, Some, None, Ok, refl, sym, ap, subst, arith}
use Rattle.std.specs.Prelude.{nat_lt, slice_get}
use Rattle.std.proofs.lemmas.Option.{same_Some}
use Rattle.bsv_types.specs.declared.modules.Method.{Method}
use Rattle.bsv_types.specs.declared.modules.Module.{Module}
use Rattle.bsv_types.specs.declared.modules.Rule.{Rule}
use Rattle.bsv_types.specs.declared.typed.Typed.{Typed}
use Rattle.bsv_tree.specs.declared.statics.Binding.{Binding}
use Rattle.bsv_tree.specs.declared.tree.Built.{Built}
use Rattle.bsv_tree.specs.declared.tree.BuiltRule.{BuiltRule}
use Rattle.bsv_tree.specs.declared.tree.Instance.{Instance}
use Rattle.bsv_tree.specs.declared.tree.Made.{Made}
use Rattle.bsv_tree.specs.declared.tree.Made.TheVariants as made
use Rattle.bsv_tree.specs.carrying.Carrying as carrying
use Rattle.bsv_tree.specs.tree.Trees as trees
use Rattle.bsv_tree.specs.tree.Trees.{TreeData, IsAccepted, IsModuleAt, IsTop, RuleIsAccepted, MethodIsAccepted}
use Rattle.bsv_elab.specs.declared.state.Done.{Done}
use Rattle.bsv_elab.specs.declared.state.Grown.{Grown}
use Rattle.bsv_elab.specs.Statics.{Here, site_in, put_at}
use Rattle.bsv_elab.specs.Attributes.{marks_of}
use Rattle.bsv_elab.specs.Making.{Bodies, instance, unbuilt, with_instance, inner}
use Rattle.bsv_elab.specs.Elements.{most_elements, here_module, methods_of}
use Rattle.bsv_elab.specs.Building.{opening, body_of, body_at, most_modules, top_from, first_rule_in, outside, nothing_grown, levels_at, method_at, methods_from, tree, from_top, carried_out, building}
use Rattle.bsv_elab.proofs.accepted.Gives.{Gives, gives_then, anything, gives_if, gives_more, given, accepted_gives}
use Rattle.bsv_carry.specs.StaysAccepted.{Grows}
use Rattle.bsv_elab.proofs.accepted.Rules.{MadeAccepted, TreeAccepted, each_at, site_at, method_later}
use Rattle.bsv_elab.proofs.accepted.Making.{BodyWent, BodiesGo, placed}
use Rattle.bsv_elab.proofs.accepted.Modules.{statements_went}

-- ---- bodies

body_of_went : (bodies : Bodies) → BodiesGo bodies → (here : Here) (m : Option Module) (bs : List Binding) (g : Grown)
    → Gives (BodyWent here g) (body_of bodies here m bs g)
body_of_went bodies go here None bs g = record { gives = tt }
body_of_went bodies go here (Some m) bs g =
    gives_then _ (statements_went bodies here go m.body (opening m bs g))
    (λ s went. gives_then _ (anything (marks_of m s.scope.rules)) (λ marks u. record {
      gives = record {
        of = refl;
        extends = went.extends;
        tree = λ h. (went.kept (record { tree = h; rules = tt })).tree;
        rules = λ h. (went.kept (record { tree = h; rules = tt })).rules;
      };
    }))

bodies_go : (depth : ℕ) → BodiesGo (body_at depth)
unfolding body_at
bodies_go zero here bs g = record { gives = tt }
bodies_go (suc depth) here bs g = body_of_went (body_at depth) (bodies_go depth) here (here_module here) bs g

-- ---- the methods of the top

-- the method was carried out
record MethodDone (here : Here) (d : Done) (number : ℕ) (m : Method) : Type 0 where
  pub weight : ℕ
  pub accepted : IsAccepted (carrying.top_method (site_in here d.grown (take (levels_at d.built.methods number) d.built.bindings)) m weight)

method_done : (here : Here) (d : Done) (weight number : ℕ) (m : Method) → Gives (λ w. MethodDone here d number m) (method_at here d weight number m)
unfolding method_at
method_done here d weight number m =
    gives_if (nat_lt (d.grown.rules + number) most_elements)
    (gives_then _ (accepted_gives (carrying.top_method (site_in here d.grown (take (levels_at d.built.methods number) d.built.bindings)) m weight))
    (λ w h. record { gives = record { weight = weight; accepted = h } }))
    (record { gives = tt })

abbrev MethodsDone : Here → Done → ℕ → List Method → Type 0
MethodsDone here d first ms = (j : ℕ) (m : Method) → slice_get ms j ≡ Some m → MethodDone here d (first + j) m

one_more : (here : Here) (d : Done) (first : ℕ) (m : Method) (ms : List Method) → MethodDone here d first m → MethodsDone here d (first + 1) ms
    → MethodsDone here d first (m ∷ ms)
one_more here d first m ms one rest zero x e =
    let here_is : first ≡ first + 0 = omega arith in
    subst (λ n. MethodDone here d n x) here_is (subst (λ y. MethodDone here d first y) (same_Some m x e) one)
one_more here d first m ms one rest (suc j) x e =
    let after_is : first + 1 + j ≡ first + suc j = omega arith in
    subst (λ n. MethodDone here d n x) after_is (rest j x e)

no_more : (here : Here) (d : Done) (first : ℕ) → MethodsDone here d first []
no_more here d first j x e = absurd cc

methods_done : (here : Here) (d : Done) (ms : List Method) (weight first : ℕ)
    → Gives (λ w. MethodsDone here d first ms) (methods_from here d weight first ms)
unfolding methods_from
methods_done here d [] weight first = record { gives = no_more here d first }
methods_done here d (m ∷ ms) weight first =
    gives_then _ (method_done here d weight first m) (λ next one. gives_more (λ w. MethodsDone here d (first + 1) ms)
    (λ w. MethodsDone here d first (m ∷ ms)) _ (λ w rest. one_more here d first m ms one rest)
    (methods_done here d ms next (first + 1)))

levels_are : (ns : List ℕ) (number levels : ℕ) → slice_get ns number ≡ Some levels → levels_at ns number ≡ levels
levels_are [] number levels e = absurd cc
levels_are (n ∷ ns) zero levels e = same_Some n levels e
levels_are (n ∷ ns) (suc number) levels e = levels_are ns number levels e

-- ---- the top

record TopAccepted (here : Here) (d : Done) : Type 0 where
  pub of : d.built.«module» ≡ here.within
  pub first : slice_get (put_at 0 (instance [] (made.Module d.built)) d.grown.instances) 0 ≡ Some (instance [] (made.Module d.built))
  pub tree : TreeAccepted here (put_at 0 (instance [] (made.Module d.built)) d.grown.instances)
      (put_at 0 (instance [] (made.Module d.built)) d.grown.instances)
  pub methods : (number levels : ℕ) → slice_get d.built.methods number ≡ Some levels → (m : Method)
      → slice_get (methods_of (here_module here)) number ≡ Some m
      → IsAccepted (carrying.top_method (site_at here (put_at 0 (instance [] (made.Module d.built)) d.grown.instances) here.within
      (take levels d.built.bindings)) m 0)

nothing_accepted : (here : Here) → TreeAccepted here [] []
nothing_accepted here n = tt

method_accepted : (here : Here) (d : Done) (is : List Instance) → Grows d.grown.instances is → (number levels : ℕ)
    → slice_get d.built.methods number ≡ Some levels → (m : Method) → MethodDone here d number m
    → IsAccepted (carrying.top_method (site_at here is here.within (take levels d.built.bindings)) m 0)
method_accepted here d is grows number levels e m one =
    method_later here d.grown.instances is grows here.within (take levels d.built.bindings) m one.weight
    (subst (λ n. IsAccepted (carrying.top_method (site_at here d.grown.instances here.within (take n d.built.bindings)) m one.weight))
    (levels_are d.built.methods number levels e) one.accepted)

top_accepted : (here : Here) (d : Done) → BodyWent (inner here here.within []) (with_instance (instance [] (unbuilt here.within)) nothing_grown) d
    → MethodsDone here d 0 (methods_of (here_module here)) → TopAccepted here d
top_accepted here d body methods =
    let p = placed here here.within [] nothing_grown 0 d refl body in
    let i = instance [] (made.Module d.built) in
    record {
      of = body.of;
      first = ap (λ (l : List Instance). slice_get l 0) p.is;
      tree = subst (λ l. TreeAccepted here l l) (sym p.is) (p.tree (nothing_accepted here));
      methods = λ number levels e m at.
          let start : 0 + number ≡ number = omega arith in
          let one : MethodDone here d number m = subst (λ n. MethodDone here d n m) start (methods number m at) in
          subst (λ l. IsAccepted (carrying.top_method (site_at here l here.within (take levels d.built.bindings)) m 0)) (sym p.is)
          (method_accepted here d (i ∷ p.more) p.later number levels e m one);
    }

from_top_accepted : (bodies : Bodies) → BodiesGo bodies → (here : Here) → Gives (λ r. TopAccepted here r.0) (from_top bodies here)
from_top_accepted bodies go here =
    gives_then _ (go (inner here here.within []) [] (with_instance (instance [] (unbuilt here.within)) nothing_grown)) (λ d body.
    gives_then _ (methods_done here d (methods_of (here_module here)) d.grown.weight 0)
    (λ weight methods. record { gives = top_accepted here d body methods }))

-- ---- the tree

-- carrying out the rules of a tree, and the methods of its top, meets no refusal
pub record IsCarriedOut (h : TreeData) : Type 0 where
  pub built : Built
  pub top : IsTop h.typed h.top h.instances built
  pub rules : (n : ℕ) (b : Built) → IsModuleAt h.instances n b → (place : ℕ) (r : BuiltRule) → slice_get b.rules place ≡ Some r
      → (m : Module) → slice_get h.typed.modules b.«module» ≡ Some m → (source : Rule) → slice_get m.rules r.rule ≡ Some source
      → RuleIsAccepted h.typed h.instances b r source
  pub methods : (number levels : ℕ) → slice_get built.methods number ≡ Some levels → (m : Method)
      → slice_get (trees.methods_of (slice_get h.typed.modules built.«module»)) number ≡ Some m → MethodIsAccepted h.typed h.instances built levels m

tree_carried_out : (t : Typed) (number first : ℕ) (d : Done) (weight : ℕ) → TopAccepted (outside t number first) d
    → IsCarriedOut (tree t number d weight)
tree_carried_out t number first d weight h =
    let here = outside t number first in
    record {
      built = d.built;
      top = record { first = h.first; of = h.of };
      rules = λ n b at place r has m of source there.
          let each = subst (MadeAccepted here (tree t number d weight).instances) at (h.tree n) in
          each_at here (tree t number d weight).instances b.«module» b.rules each place r has m of source there;
      methods = λ k levels e m there.
          subst (λ x. IsAccepted (carrying.top_method (site_at here (tree t number d weight).instances x (take levels d.built.bindings)) m 0))
          (sym h.of)
          (h.methods k levels e m (subst (λ x. slice_get (methods_of (slice_get t.modules x)) k ≡ Some m) h.of there));
    }

carried_gives : (t : Typed) (name : List ℕ) → Gives (λ r. IsCarriedOut (tree t r.0 r.1 r.2)) (carried_out t name)
carried_gives t name =
    gives_then _ (anything (top_from 0 name t.modules)) (λ number u. gives_then _ (anything (first_rule_in t number)) (λ first v.
    gives_then _ (from_top_accepted (body_at most_modules) (bodies_go most_modules) (outside t number first))
    (λ r h. record { gives = tree_carried_out t number first r.0 r.1 h })))

building_gives : (t : Typed) (name : List ℕ) → Gives IsCarriedOut (building t name)
unfolding building
building_gives t name = gives_then _ (carried_gives t name) (λ r h. record { gives = h })

pub trees_carried_out : (t : Typed) (name : List ℕ) (h : TreeData) → building t name ≡ Ok h → IsCarriedOut h
trees_carried_out t name h is = given IsCarriedOut (building t name) h (building_gives t name) is

-- the top of a tree is one

abbrev made_built : Built → Made → Built
made_built b (made.Primitive p k) = b
made_built b (made.Module c) = c

abbrev top_built : Built → Option Instance → Built
top_built b None = b
top_built b (Some i) = made_built b i.made

one_top : (h : TreeData) (b c : Built) → IsTop h.typed h.top h.instances b → IsTop h.typed h.top h.instances c → b ≡ c
one_top h b c x y = ap (top_built b) (sym x.first ∙ y.first)

pub methods_carried_out : (h : TreeData) → IsCarriedOut h → (b : Built) → IsTop h.typed h.top h.instances b → (number levels : ℕ)
    → slice_get b.methods number ≡ Some levels → (m : Method)
    → slice_get (trees.methods_of (slice_get h.typed.modules b.«module»)) number ≡ Some m → MethodIsAccepted h.typed h.instances b levels m
methods_carried_out h out b top =
    subst (λ x. (number levels : ℕ) → slice_get x.methods number ≡ Some levels → (m : Method) → slice_get
    (trees.methods_of (slice_get h.typed.modules x.«module»)) number ≡ Some m → MethodIsAccepted h.typed h.instances x levels m)
    (one_top h out.built b out.top top) out.methods
