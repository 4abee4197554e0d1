-- What is made has the interface that the typing gives it, and the tree has grown by instances that agree.
use Rattle.std.proofs.Common.{◌≡◌, ◌∙◌, ℕ, zero, suc, ◌≤◌, ◌<◌, true, List, [], ◌∷◌, ◌++◌, map, length, set, Option, Some, Ok, refl, sym, ap, subst, arith, append-nil, append_assoc}
use Rattle.std.specs.Prelude.{ℤ, pos, negsuc, nat_le, nat_lt, slice_get}
use Rattle.std.proofs.lemmas.Bool.{ltb-true, leb-true, lt-ltb, and_parts, cond-true}
use Rattle.std.proofs.lemmas.List.{length-append, set_at}
use Rattle.bsv_lemmas.proofs.Choices.{same_ok as ok_is, passed, not_refused}
use Rattle.bsv_types.specs.declared.makers.Argument.{Argument}
use Rattle.bsv_types.specs.declared.makers.GivenMaker.{GivenMaker}
use Rattle.bsv_types.specs.declared.makers.Make.{Make}
use Rattle.bsv_types.specs.declared.makers.Maker.{Maker}
use Rattle.bsv_types.specs.declared.makers.Maker.TheVariants as maker
use Rattle.bsv_types.specs.declared.modules.Module.{Module}
use Rattle.bsv_types.specs.declared.typed.Typed.{Typed}
use Rattle.bsv_types.specs.declared.types.PartTy.{PartTy}
use Rattle.bsv_types.specs.Expressions.{Frame}
use Rattle.bsv_types.specs.Kinds.{Kind as Sort, part, bare, kind, same_kind, same_part}
use Rattle.bsv_types.specs.Methods.{made_part, maker_params, param_kinds}
use Rattle.bsv_types.specs.Modules as rules
use Rattle.bsv_types.specs.Modules.{header, arguments_right, given_makes, module_makes, makes, param_slots}
use Rattle.bsv_types.specs.Shapes.{is_instance}
use Rattle.bsv_types.proofs.Same.{same_is}
use Rattle.bsv_design.specs.declared.kind.Kind.{Kind}
use Rattle.bsv_tree.specs.declared.statics.Binding.{Binding}
use Rattle.bsv_tree.specs.declared.statics.Static.{Static}
use Rattle.bsv_tree.specs.declared.tree.Built.{Built}
use Rattle.bsv_tree.specs.declared.tree.Instance.{Instance}
use Rattle.bsv_tree.specs.declared.tree.Made.TheVariants as made
use Rattle.bsv_tree.specs.tree.Contexts.{made_of}
use Rattle.bsv_design.specs.design.Paths.{with_dot}
use Rattle.bsv_tree.specs.tree.Trees.{shapes, world, interface_of, Provides, Stands, AllFit, Agrees}
use Rattle.bsv_elab.specs.declared.refused.Refused.{Refused}
use Rattle.bsv_elab.specs.declared.state.Done.{Done}
use Rattle.bsv_elab.specs.declared.state.Grown.{Grown}
use Rattle.bsv_elab.specs.declared.state.Marks.{Marks}
use Rattle.bsv_elab.specs.declared.state.State.{State}
use Rattle.bsv_elab.specs.Names.{Named, new_name}
use Rattle.bsv_elab.specs.Statics.{Here, static_fault, put_at}
use Rattle.bsv_elab.specs.MadeKinds.{kind_of}
use Rattle.bsv_elab.specs.Making.{Bodies, instance, next_number, with_instance, with_primitive, named_instance, depth_of, at_least_one, start_of, most_depth, within_limits, primitive, is_around, unbuilt, parameters, params_of, inner, behind, child, made_by, arguments, make}
use Rattle.bsv_elab.proofs.FittingTrees.{Keeps, front_keeps, put_keeps, all_agree_kept, all_fit_kept, rules_kept, agrees_kept, Grew, grew_keeps}
use Rattle.bsv_elab.proofs.FittingScopes.{wide}
use Rattle.bsv_elab.proofs.FittingSteps.{went, counted_is, Same}
use Rattle.bsv_elab.proofs.FittingStates.{Fit, Moved, fit_weighed, from_weighed}
use Rattle.bsv_elab.proofs.FittingKinds.{given_provides}
use Rattle.bsv_elab.proofs.FittingArguments.{AllHold, params_fit, arguments_fit}

-- where the body of a module is carried out
abbrev pub home : Typed → ℕ → List ℕ → List ℕ → ℕ → Here
home t number path around first = record {
  shapes = shapes t;
  functions = t.functions;
  modules = t.modules;
  within = number;
  path = path;
  around = around;
  first = first;
}

-- ---- limits

at_least_is : (r : Refused) (z : ℤ) (d : ℕ) → at_least_one r z ≡ Ok d → 1 ≤ d
at_least_is r (pos n) d e = let h = passed (nat_lt 0 n) (Ok n) r d e in let lt = ltb-true 0 n h.0 in let same : n ≡ d = ok_is n d h.1 in omega arith
at_least_is r (negsuc n) d e = absurd cc

not_deep : (d : ℕ) → nat_le d most_depth ≡ true → d ≤ 64
unfolding most_depth
not_deep d e = leb-true d 64 e

record Within (depth : ℕ) (g : Grown) (number : ℕ) : Type 0 where
  shallow : depth ≤ 64
  last : length g.instances ≡ number

within_is : (depth : ℕ) (g : Grown) (number : ℕ) → within_limits depth g ≡ Ok number → Within depth g number
within_is depth g number e =
    let a = passed (nat_le depth most_depth) _ _ number e in
    let b = passed (nat_lt g.primitives _) _ _ number a.1 in
    record { shallow = not_deep depth a.0; last = counted_is (length g.instances) number b.1 }

-- ---- the tree

last_made : (is more : List Instance) (i : Instance) → made_of (slice_get (is ++ i ∷ more) (length is)) ≡ Some i.made
last_made [] more i = refl
last_made (x ∷ is) more i = last_made is more i

pub put_is : (is more : List Instance) (u i : Instance) → put_at (length is) i (is ++ u ∷ more) ≡ is ++ i ∷ more
unfolding put_at
put_is is more u i =
    let below : length is < length (is ++ u ∷ more) = omega (arith, length-append is (u ∷ more)) in
    cond-true (nat_lt (length is) (length (is ++ u ∷ more))) (set (is ++ u ∷ more) (length is) i) (is ++ u ∷ more) (lt-ltb (length is) (length (is ++ u ∷ more)) below)
    ∙ set_at is u more i (length is) refl

-- other names are taken
abbrev with_names : Named → State → State
with_names names s = record { grown = s.grown; scope = record s.scope { instances = names } }

named_same : (here : Here) (name : List ℕ) (s : State) (n : List ℕ × State) → named_instance here name s ≡ Ok n → (names : Named) × (n.1 ≡ with_names names s)
unfolding named_instance
named_same here name s n e =
    let h = went (new_name here.path name s.scope.instances) _ n e in
    (h.0.1, sym (ap (λ (q : List ℕ × State). q.1) (ok_is (with_dot here.path h.0.0, with_names h.0.1 s) n h.2)))

-- ---- modules that are made

record HeaderMakes (t : Typed) (f : Frame) (ms : List Module) (n : ℕ) (xs : List Argument) (k : Sort) : Type 0 where
  source : Module
  there : slice_get ms n ≡ Some source
  same : kind source.interface ≡ k
  handed : arguments_right (world t) f xs (param_kinds source.params) ≡ true

header_makes : (t : Typed) (f : Frame) (ms : List Module) (n : ℕ) (xs : List Argument) (k : Sort) → module_makes (world t) f (slice_get (map header ms) n) xs k ≡ true → HeaderMakes t f ms n xs k
header_makes t f [] n xs k e = absurd cc
header_makes t f (m ∷ ms) zero xs k e =
    let h = and_parts (same_kind (kind m.interface) k) (arguments_right (world t) f xs (param_kinds m.params)) e in
    record { source = m; there = refl; same = same_is (kind m.interface) k h.0; handed = h.1 }
header_makes t f (m ∷ ms) (suc n) xs k e = let h = header_makes t f ms n xs k e in record { source = h.source; there = h.there; same = h.same; handed = h.handed }

given_handed : (t : Typed) (f : Frame) (g : GivenMaker) (xs : List Argument) (k : Sort) → given_makes (world t) f g xs k ≡ true → (ks : List Sort) × (arguments_right (world t) f xs ks ≡ true)
given_handed t f g xs (part p j) e = (maker_params g j, (and_parts (same_part p (made_part g)) (arguments_right (world t) f xs (maker_params g j)) e).1)
given_handed t f g xs (bare p) e = ([], (and_parts (same_part p (made_part g)) (arguments_right (world t) f xs []) e).1)
given_handed t f g xs _ e = absurd cc

module_provides : (t : Typed) (n : ℕ) (source : Module) (k : Sort) (b : Built) → slice_get t.modules n ≡ Some source → kind source.interface ≡ k → b.«module» ≡ n → Provides t k (made.Module b)
module_provides t n source k b there same number = ap (λ (x : ℕ). interface_of (slice_get t.modules x)) number ∙ ap interface_of there ∙ ap (λ (x : Sort). Some x) same

module _ (t : Typed) where
  -- what carrying out the body of a module gives
  pub record BodyMade (number : ℕ) (g : Grown) (d : Done) : Type 0 where
    pub number_is : d.built.«module» ≡ number
    pub grew : Grew t g.instances d.grown.instances
    pub agrees : Agrees t d.grown.instances d.built

  abbrev pub BodiesRight : ℕ → Bodies → Type 0
  BodiesRight first bodies = (number : ℕ) (path around : List ℕ) (source : Module) (bs : List Binding) (g : Grown) (d : Done) → slice_get t.modules number ≡ Some source
      → AllFit t g.instances (param_slots source.params) bs → bodies (home t number path around first) bs g ≡ Ok d → BodyMade number g d

  module _ (m : Module) (number : ℕ) (path around : List ℕ) (first : ℕ) (f : Frame) where
    abbrev here : Here
    here = home t number path around first

    -- a new instance of this type has the number
    pub record Makes (s : State) (k : Sort) (q : ℕ × State) : Type 0 where
      pub moved : Moved t m f s f q.1 []
      pub stands : Stands t q.1.grown.instances k q.0

    -- instances come after, and names
    grown_moved : (s : State) (names : Named) (marks : Marks) (g : Grown) → Fit t m f s → Grew t s.grown.instances g.instances
        → Moved t m f s f (record { grown = g; scope = record s.scope { instances = names; marks = marks } }) []
    grown_moved s names marks g h grew =
        let keeps = grew_keeps t s.grown.instances g.instances grew in
        record {
          grew = grew;
          fit = record {
            fits = all_fit_kept t s.grown.instances g.instances keeps f s.scope.bindings h.fits;
            widths = h.widths;
            rules = rules_kept t s.grown.instances g.instances keeps m s.scope.rules h.rules;
          };
          more = [];
          longer = sym (append-nil f);
          quiet = λ e. refl;
          as_many = refl;
        }

    primitive_at : (s : State) (k : Sort) (names : Named) (place : List ℕ) (p : PartTy) (w : Kind) → Fit t m f s → Provides t k (made.Primitive p w)
        → Makes s k (length s.grown.instances, record { grown = with_primitive (instance place (made.Primitive p w)) s.grown; scope = (with_names names s).scope })
    primitive_at s k names place p w h provides = record {
      moved = grown_moved s names s.scope.marks (with_primitive (instance place (made.Primitive p w)) s.grown) h (record { more = instance place (made.Primitive p w) ∷ []; are = refl; agree = (tt, tt) });
      stands = record { what = made.Primitive p w; at = last_made s.grown.instances [] (instance place (made.Primitive p w)); provides = provides };
    }

    primitive_makes : (s : State) (bits : ℕ) (name : List ℕ) (g : GivenMaker) (ys : List Static) (xs : List Argument) (k : Sort) (q : ℕ × State) → Fit t m f s → is_instance (shapes t) k ≡ true
        → given_makes (world t) f g xs k ≡ true → bits ≡ wide t k → primitive here bits name g ys s ≡ Ok q → Makes s k q
    unfolding primitive
    primitive_makes s bits name g ys xs k q h made_there typed is_wide e =
        let d = went (at_least_one (static_fault here) (depth_of g ys)) _ q e in
        let n = went (named_instance here name s) _ q d.2 in
        let l = went (within_limits d.0 n.0.1.grown) _ q n.2 in
        let names = named_same here name s n.0 n.1 in
        let within = within_is d.0 n.0.1.grown l.0 l.1 in
        let what = made.Primitive (made_part g) (kind_of g bits d.0 (start_of ys)) in
        let provides = given_provides t f g xs k bits d.0 (start_of ys) made_there typed is_wide (at_least_is (static_fault here) (depth_of g ys) d.0 d.1) within.shallow in
        let last : length s.grown.instances ≡ l.0 = subst (λ (z : State). length z.grown.instances ≡ l.0) names.1 within.last in
        let at = primitive_at s k names.0 n.0.0 (made_part g) (kind_of g bits d.0 (start_of ys)) h provides in
        let numbered = subst (λ (i : ℕ). Makes s k (i, record { grown = with_primitive (instance n.0.0 what) s.grown; scope = (with_names names.0 s).scope })) last at in
        subst (Makes s k) (ok_is (l.0, record { grown = with_primitive (instance n.0.0 what) n.0.1.grown; scope = n.0.1.scope }) q l.2)
        (subst (λ (z : State). Makes s k (l.0, record { grown = with_primitive (instance n.0.0 what) z.grown; scope = z.scope })) (sym names.1) numbered)

    child_at : (s : State) (k : Sort) (names : Named) (place : List ℕ) (c : ℕ) (d : Done) → Fit t m f s → Provides t k (made.Module d.built) → BodyMade c (with_instance (instance place (unbuilt c)) s.grown) d
        → Makes s k (length s.grown.instances, behind (length s.grown.instances) (instance place (made.Module d.built)) d.grown d.marks (with_names names s).scope)
    child_at s k names place c d h provides b =
        let is = s.grown.instances in
        let u = instance place (unbuilt c) in
        let i = instance place (made.Module d.built) in
        let more = b.grew.more in
        let then_is : d.grown.instances ≡ is ++ u ∷ more = b.grew.are ∙ append_assoc is (u ∷ []) more in
        let now : put_at (length is) i d.grown.instances ≡ is ++ i ∷ more = ap (put_at (length is) i) then_is ∙ put_is is more u i in
        let keeps : Keeps t d.grown.instances (is ++ i ∷ more) =
        subst (λ js. Keeps t js (is ++ i ∷ more)) (sym then_is) (put_keeps t is more u i (record { «module» = c; bindings = []; rules = []; methods = [] }) d.built refl refl b.number_is) in
        let grew : Grew t is (is ++ i ∷ more) = record {
          more = i ∷ more;
          are = refl;
          agree = (agrees_kept t d.grown.instances (is ++ i ∷ more) keeps d.built b.agrees, all_agree_kept t d.grown.instances (is ++ i ∷ more) keeps more b.grew.agree);
        } in
        let after : Grown = record d.grown { instances = put_at (length is) i d.grown.instances } in
        record {
          moved = grown_moved s names _ after h (subst (Grew t is) (sym now) grew);
          stands = record { what = made.Module d.built; at = ap (λ (js : List Instance). made_of (slice_get js (length is))) now ∙ last_made is more i; provides = provides };
        }

    module _ (bodies : Bodies) (right : BodiesRight first bodies) where
      child_makes : (s : State) (name : List ℕ) (c : ℕ) (ys : List Static) (k : Sort) (source : Module) (q : ℕ × State) → Fit t m f s → slice_get t.modules c ≡ Some source → kind source.interface ≡ k
          → AllHold t s.grown.instances (param_kinds source.params) ys → child bodies here name c ys s ≡ Ok q → Makes s k q
      unfolding child
      child_makes s name c ys k source q h there same hold e =
          let a = not_refused (is_around c around) _ _ q e in
          let n = went (named_instance here name s) _ q a.1 in
          let l = went (next_number n.0.1.grown) _ q n.2 in
          let d = went (bodies (inner here c n.0.0) (parameters (params_of (slice_get t.modules c)) ys) (with_instance (instance n.0.0 (unbuilt c)) n.0.1.grown)) _ q l.2 in
          let names = named_same here name s n.0 n.1 in
          let last : length s.grown.instances ≡ l.0 = subst (λ (z : State). length z.grown.instances ≡ l.0) names.1 (counted_is (length n.0.1.grown.instances) l.0 l.1) in
          let start = with_instance (instance n.0.0 (unbuilt c)) s.grown in
          let fits = all_fit_kept t s.grown.instances start.instances (front_keeps t s.grown.instances (instance n.0.0 (unbuilt c) ∷ [])) (param_slots source.params) (parameters source.params ys)
          (params_fit t s.grown.instances source.params ys hold) in
          let bound = subst (λ (o : Option Module). AllFit t start.instances (param_slots source.params) (parameters (params_of o) ys)) (sym there) fits in
          let ran = subst (λ (z : State). bodies (inner here c n.0.0) (parameters (params_of (slice_get t.modules c)) ys) (with_instance (instance n.0.0 (unbuilt c)) z.grown) ≡ Ok d.0) names.1 d.1 in
          let b = right c n.0.0 (around ++ c ∷ []) source (parameters (params_of (slice_get t.modules c)) ys) start d.0 there bound ran in
          let at = child_at s k names.0 n.0.0 c d.0 h (module_provides t c source k d.0.built there same b.number_is) b in
          let numbered = subst (λ (i : ℕ). Makes s k (i, behind i (instance n.0.0 (made.Module d.0.built)) d.0.grown d.0.marks (with_names names.0 s).scope)) last at in
          subst (Makes s k) (ok_is (l.0, behind l.0 (instance n.0.0 (made.Module d.0.built)) d.0.grown d.0.marks n.0.1.scope) q d.2)
          (subst (λ (z : State). Makes s k (l.0, behind l.0 (instance n.0.0 (made.Module d.0.built)) d.0.grown d.0.marks z.scope)) (sym names.1) numbered)

      abbrev site : rules.ModuleContext
      site = rules.site_of (world t) (map header t.modules) m

      -- the weight alone changed before
      weighed_makes : (s z : State) (k : Sort) (q : ℕ × State) → Same s z → Fit t m f s → (Fit t m f z → Makes z k q) → Makes s k q
      weighed_makes s z k q same h next =
          let a = next (subst (Fit t m f) (sym same.1) (fit_weighed t m same.0 f s h)) in
          record { moved = from_weighed t m same.0 f f s q.1 [] (subst (λ (y : State). Moved t m f y f q.1 []) same.1 a.moved); stands = a.stands }

      by_maker : (s : State) (bits : ℕ) (name : List ℕ) (x : Maker) (xs : List Argument) (k : Sort) (r : List Static × State) (q : ℕ × State) → Fit t m f s → is_instance (shapes t) k ≡ true
          → makes site f (record { maker = x; arguments = xs }) k ≡ true → bits ≡ wide t k → arguments here xs s ≡ Ok r → made_by bodies here bits name x r.0 r.1 ≡ Ok q → Makes s k q
      by_maker s bits name (maker.Given g) xs k r q h made_there typed is_wide handed e =
          let ks = given_handed t f g xs k typed in
          let a = arguments_fit t here f s h.fits xs ks.0 r ks.1 handed in
          weighed_makes s r.1 k q a.1 h (λ z. primitive_makes r.1 bits name g r.0 xs k q z made_there typed is_wide e)
      by_maker s bits name (maker.Module c) xs k r q h made_there typed is_wide handed e =
          let g = header_makes t f t.modules c xs k typed in
          let a = arguments_fit t here f s h.fits xs (param_kinds g.source.params) r g.handed handed in
          let hold = subst (λ (z : State). AllHold t z.grown.instances (param_kinds g.source.params) r.0) (sym a.1.1) a.0 in
          weighed_makes s r.1 k q a.1 h (λ z. child_makes r.1 name c r.0 k g.source q z g.there g.same hold e)

      pub make_makes : (s : State) (bits : ℕ) (name : List ℕ) (x : Make) (k : Sort) (q : ℕ × State) → Fit t m f s → is_instance (shapes t) k ≡ true → makes site f x k ≡ true → bits ≡ wide t k
          → make bodies here bits name x s ≡ Ok q → Makes s k q
      unfolding make
      make_makes s bits name x k q h made_there typed is_wide e =
          let r = went (arguments here x.arguments s) _ q e in
          by_maker s bits name x.maker x.arguments k r.0 q h made_there typed is_wide r.1 r.2
