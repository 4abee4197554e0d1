-- The top is the first instance of a tree that is built, and every instance of a module agrees with its module.
use Rattle.std.proofs.Common.{◌≡◌, ◌∙◌, ℕ, suc, ◌+◌, Bool, true, false, List, [], ◌∷◌, Some, Ok, refl, sym, ap, subst, arith}
use Rattle.std.specs.Prelude.{slice_get, if◌then◌else◌}
use Rattle.std.specs.Str.{bytes_eq}
use Rattle.bsv_lemmas.proofs.Choices.{same_ok, err_never_ok}
use Rattle.bsv_types.specs.declared.definitions.Param.{Param}
use Rattle.bsv_types.specs.declared.modules.Module.{Module}
use Rattle.bsv_types.specs.declared.typed.Typed.{Typed}
use Rattle.bsv_types.specs.Modules.{param_slots}
use Rattle.bsv_tree.specs.declared.tree.Built.{Built}
use Rattle.bsv_tree.specs.declared.tree.Instance.{Instance}
use Rattle.bsv_tree.specs.declared.tree.Made.TheVariants as made
use Rattle.bsv_tree.specs.tree.Trees.{TreeData, AllFit, IsModuleAt, Agrees, IsTop}
use Rattle.bsv_elab.specs.declared.state.Done.{Done}
use Rattle.bsv_elab.specs.Statics.{put_at, countable}
use Rattle.bsv_elab.specs.Making.{instance, with_instance, unbuilt, inner}
use Rattle.bsv_elab.specs.Elements.{here_module, methods_of}
use Rattle.bsv_elab.specs.Building.{is_top, top_from, first_rule_in, most_modules, outside, nothing_grown, methods_from, from_top, body_at, tree, carried_out, building}
use Rattle.bsv_elab.proofs.FittingTrees.{Keeps, put_keeps, AllAgree, all_agree_kept, agrees_kept, agrees_at}
use Rattle.bsv_elab.proofs.FittingSteps.{went, counted_is}
use Rattle.bsv_elab.proofs.FittingMade.{BodyMade, put_is}
use Rattle.bsv_elab.proofs.FittingBodies.{bodies_right}

-- ---- the module of the top

never : (b : Bool) → (if b then false else false) ≡ true → ⊥
never true e = absurd cc
never false e = absurd cc

no_slots : (name : List ℕ) (m : Module) → is_top name m ≡ true → param_slots m.params ≡ []
no_slots name m h = by m.params refl where
  by : (ps : List Param) → m.params ≡ ps → param_slots ps ≡ []
  by [] is = refl
  by (p ∷ ps) is = let g = subst (λ (qs : List Param). is_top name (record m { params = qs }) ≡ true) is h in absurd (never (bytes_eq m.name name) g)

record TopAt (name : List ℕ) (ms : List Module) (first n : ℕ) : Type 0 where
  place : ℕ
  source : Module
  there : slice_get ms place ≡ Some source
  number : n ≡ first + place
  none : param_slots source.params ≡ []

top_at : (name : List ℕ) (ms : List Module) (first n : ℕ) → top_from first name ms ≡ Ok n → TopAt name ms first n
top_at name [] first n e = absurd (err_never_ok _ n e)
top_at name (m ∷ ms) first n e = here_or_later (is_top name m) refl e (top_at name ms (first + 1) n) where
  here_or_later : (b : Bool) → is_top name m ≡ b → (if b then countable first else top_from (first + 1) name ms) ≡ Ok n → (top_from (first + 1) name ms ≡ Ok n → TopAt name ms (first + 1) n) → TopAt name (m ∷ ms) first n
  here_or_later true is found later =
      let same : first ≡ n = counted_is first n found in
      record { place = 0; source = m; there = refl; number = omega arith; none = no_slots name m is }
  here_or_later false is found later =
      let h = later found in
      let same = h.number in
      record { place = suc h.place; source = h.source; there = h.there; number = omega arith; none = h.none }

-- ---- the tree

module _ (t : Typed) where
  -- the top is there, and all modules agree
  pub record Rooted (h : TreeData) : Type 0 where
    pub built : Built
    pub top : IsTop h.typed h.top h.instances built
    pub all : AllAgree h.typed h.instances h.instances

  tree_rooted : (number : ℕ) (d : Done) (weight : ℕ) → BodyMade t number (with_instance (instance [] (unbuilt number)) nothing_grown) d → Rooted (tree t number d weight)
  tree_rooted number d weight b =
      let u = instance [] (unbuilt number) in
      let i = instance [] (made.Module d.built) in
      let more = b.grew.more in
      let then_is : d.grown.instances ≡ u ∷ more = b.grew.are in
      let now : put_at 0 i d.grown.instances ≡ i ∷ more = ap (put_at 0 i) then_is ∙ put_is [] more u i in
      let keeps : Keeps t d.grown.instances (i ∷ more) =
      subst (λ js. Keeps t js (i ∷ more)) (sym then_is) (put_keeps t [] more u i (record { «module» = number; bindings = []; rules = []; methods = [] }) d.built refl refl b.number_is) in
      let agree : AllAgree t (i ∷ more) (i ∷ more) = (agrees_kept t d.grown.instances (i ∷ more) keeps d.built b.agrees, all_agree_kept t d.grown.instances (i ∷ more) keeps more b.grew.agree) in
      record {
        built = d.built;
        top = record { first = ap (λ (js : List Instance). slice_get js 0) now; of = b.number_is };
        all = subst (λ js. AllAgree t js js) (sym now) agree;
      }

  -- what carrying out the top gives
  from_top_made : (number first : ℕ) (source : Module) (r : Done × ℕ) → slice_get t.modules number ≡ Some source → param_slots source.params ≡ [] → from_top (body_at most_modules) (outside t number first) ≡ Ok r
      → BodyMade t number (with_instance (instance [] (unbuilt number)) nothing_grown) r.0
  from_top_made number first source r there none e =
      let here = outside t number first in
      let start = with_instance (instance [] (unbuilt number)) nothing_grown in
      let d = went (body_at most_modules (inner here number []) [] start) _ r e in
      let w = went (methods_from here d.0 d.0.grown.weight 0 (methods_of (here_module here))) _ r d.2 in
      let fits = subst (λ f. AllFit t start.instances f []) (sym none) tt in
      let b = bodies_right t most_modules first number [] (number ∷ []) source [] start d.0 there fits d.1 in
      subst (λ (q : Done × ℕ). BodyMade t number start q.0) (same_ok (d.0, w.0) r w.2) b

  pub built_rooted : (name : List ℕ) (h : TreeData) → building t name ≡ Ok h → Rooted h
  unfolding building
  built_rooted name h e =
      let r = went (carried_out t name) _ h e in
      let number = went (top_from 0 name t.modules) _ r.0 r.1 in
      let first = went (first_rule_in t number.0) _ r.0 number.2 in
      let d = went (from_top (body_at most_modules) (outside t number.0 first.0)) _ r.0 first.2 in
      let top = top_at name t.modules 0 number.0 number.1 in
      let same : top.place ≡ number.0 = let k = top.number in omega arith in
      let there = subst (λ (n : ℕ). slice_get t.modules n ≡ Some top.source) same top.there in
      let b = from_top_made number.0 first.0 top.source d.0 there top.none d.1 in
      let rooted = tree_rooted number.0 d.0.0 d.0.1 b in
      let at = same_ok (number.0, d.0.0, d.0.1) r.0 d.2 in
      subst Rooted (same_ok (tree t r.0.0 r.0.1 r.0.2) h r.2) (subst (λ (q : ℕ × Done × ℕ). Rooted (tree t q.0 q.1 q.2)) at rooted)

  -- the fields of a tree
  pub top_is : (name : List ℕ) (h : TreeData) → building t name ≡ Ok h → (b : Built) × IsTop h.typed h.top h.instances b
  top_is name h e = let r = built_rooted name h e in (r.built, r.top)

  pub modules_agree : (name : List ℕ) (h : TreeData) → building t name ≡ Ok h → (n : ℕ) (b : Built) → IsModuleAt h.instances n b → Agrees h.typed h.instances b
  modules_agree name h e n b there = agrees_at h.typed h.instances h.instances n b (built_rooted name h e).all there
