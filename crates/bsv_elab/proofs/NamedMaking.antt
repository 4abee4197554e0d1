-- An instance that is made has a new name in its body, and so is inside what its body makes.
use Rattle.std.proofs.Common.{◌≡◌, ◌∙◌, ℕ, ◌+◌, true, false, List, [], ◌∷◌, ◌++◌, set, length, Option, Some, None, Ok, refl, sym, ap, subst, arith, if◌then◌else◌}
use Rattle.std.specs.Prelude.{nat_lt, slice_get}
use Rattle.std.specs.List.{list_all}
use Rattle.std.proofs.lemmas.Bool.{lt-ltb, cond-true, and_parts, and_from}
use Rattle.std.proofs.lemmas.List.{append_assoc, append-nil, set_at, length-append}
use Rattle.bsv_lemmas.proofs.Choices.{same_ok, passed, not_refused}
use Rattle.bsv_ast.specs.Names.{is_lower}
use Rattle.bsv_types.specs.declared.definitions.Param.{Param}
use Rattle.bsv_types.specs.declared.makers.GivenMaker.{GivenMaker}
use Rattle.bsv_types.specs.declared.makers.Make.{Make}
use Rattle.bsv_types.specs.declared.makers.Maker.{Maker}
use Rattle.bsv_types.specs.declared.makers.Maker.TheVariants as maker
use Rattle.bsv_types.specs.declared.modules.Module.{Module}
use Rattle.bsv_types.specs.Methods.{made_part}
use Rattle.bsv_types.specs.Modules.{param_names}
use Rattle.bsv_tree.specs.declared.statics.Binding.{Binding}
use Rattle.bsv_tree.specs.declared.statics.Static.{Static}
use Rattle.bsv_tree.specs.declared.tree.Built.{Built}
use Rattle.bsv_tree.specs.declared.tree.Instance.{Instance}
use Rattle.bsv_tree.specs.declared.tree.Made.{Made}
use Rattle.bsv_tree.specs.declared.tree.Made.TheVariants as made
use Rattle.bsv_tree.specs.declared.values.Fault.TheVariants as fault
use Rattle.bsv_design.specs.design.Paths.{with_dot}
use Rattle.bsv_design.specs.design.Paths.{joined}
use Rattle.bsv_tree.specs.tree.Trees.{rule_count}
use Rattle.bsv_design.proofs.Dotted.{AreLower, lower_both, path_is}
use Rattle.bsv_elab.specs.declared.refused.Refused.TheVariants as refused
use Rattle.bsv_elab.specs.declared.state.Done.{Done}
use Rattle.bsv_elab.specs.declared.state.Grown.{Grown}
use Rattle.bsv_elab.specs.declared.state.State.{State}
use Rattle.bsv_elab.specs.Names.{Named, new_name}
use Rattle.bsv_elab.specs.Statics.{Here, static_fault, countable, put_at}
use Rattle.bsv_elab.specs.MadeKinds.{kind_of}
use Rattle.bsv_elab.specs.Attributes.{no_marks}
use Rattle.bsv_elab.specs.Making.{instance, next_number, with_instance, with_primitive, named_instance, depth_of, at_least_one, start_of, within_limits, primitive, Bodies, is_around, unbuilt, parameters, params_of, inner, behind, child, made_by, make, arguments}
use Rattle.bsv_elab.proofs.NamedLists.{longer_none}
use Rattle.bsv_elab.proofs.NamedTaken.{takes_longer, takes_taken, NewName, new_name_is}
use Rattle.bsv_elab.proofs.NamedGroups.{BuiltNamed, Group, group_one}
use Rattle.bsv_elab.proofs.NamedNests.{group_nest}
use Rattle.bsv_elab.proofs.NamedRules.{rules_none}
use Rattle.bsv_elab.proofs.PlacedCounts.{occurs, occurs_in, fills_none, fills_same}
use Rattle.bsv_elab.proofs.NamedMakes.{Kept, kept, Lows, MarksWithin, marks_more, marks_both, Makes}
use Rattle.bsv_elab.proofs.NamedStill.{arguments_still}
use Rattle.bsv_elab.proofs.FittingSteps.{went}

-- ---- bodies

-- before anything is made in a body
abbrev pub beginning : Grown → Kept
beginning g = record { instances = g.instances; count = g.rules; names = []; elements = []; rules = []; marks = no_marks }

-- what a body has made
pub record BodyMade (ms : List Module) (here : Here) (base : List (List ℕ)) (g : Grown) (d : Done) : Type 0 where
  pub last : Kept
  pub makes : Makes ms here base (beginning g) last
  pub instances : d.grown.instances ≡ last.instances
  pub count : d.grown.rules ≡ last.count
  pub rules : d.built.rules ≡ last.rules
  pub number : d.built.«module» ≡ here.within
  pub marks : MarksWithin here.first (here.first + last.count) d.marks
  pub named : BuiltNamed ms d.built

abbrev pub GoodBodies : List Module → Bodies → Type 0
GoodBodies ms bodies =
    (here : Here) (base : List (List ℕ)) (bs : List Binding) (g : Grown) (d : Done) → here.modules ≡ ms → here.path ≡ joined base → AreLower base
    → Lows bs → bodies here bs g ≡ Ok d → BodyMade ms here base g d

-- the parameters of modules have Lower names
abbrev pub LowParameters : List Module → Type 0
LowParameters ms = (k : ℕ) (m : Module) → slice_get ms k ≡ Some m → list_all is_lower (param_names m.params) ≡ true

parameters_low : (ps : List Param) (xs : List Static) → list_all is_lower (param_names ps) ≡ true → Lows (parameters ps xs)
parameters_low [] xs h = refl
parameters_low (p ∷ ps) [] h = refl
parameters_low (p ∷ ps) (x ∷ xs) h =
    let q = and_parts (is_lower p.name) (list_all is_lower (param_names ps)) h in
    and_from (is_lower p.name) (list_all (λ (b : Binding). is_lower b.name) (parameters ps xs)) q.0 (parameters_low ps xs q.1)

parameters_of_low : (ms : List Module) (k : ℕ) (xs : List Static) → LowParameters ms → Lows (parameters (params_of (slice_get ms k)) xs)
parameters_of_low ms k xs low = by (slice_get ms k) refl where
  by : (o : Option Module) → slice_get ms k ≡ o → Lows (parameters (params_of o) xs)
  by None is = refl
  by (Some m) is = parameters_low m.params xs (low k m is)

-- ---- a name of an instance

abbrev with_names : Named → State → State
with_names names s = record { grown = s.grown; scope = record s.scope { instances = names } }

abbrev NameFound : Here → List ℕ → State → List ℕ × State → Type 0
NameFound here name s r = (q : List ℕ × Named) × NewName name s.scope.instances q × ((with_dot here.path q.0, with_names q.1 s) ≡ r)

named_instance_is : (here : Here) (name : List ℕ) (s : State) (r : List ℕ × State) → named_instance here name s ≡ Ok r → NameFound here name s r
unfolding named_instance
named_instance_is here name s r e =
    let q = went (new_name here.path name s.scope.instances) _ r e in
    (q.0, new_name_is here.path name s.scope.instances q.0 q.1, same_ok (with_dot here.path q.0.0, with_names q.0.1 s) r q.2)

-- ---- one instance more

module _ (ms : List Module) (here : Here) (base : List (List ℕ)) where
  -- the variables stay what they are
  pub record One (s : State) (r : ℕ × State) : Type 0 where
    pub makes : Makes ms here base (kept s) (kept r.1)
    pub bindings : r.1.scope.bindings ≡ s.scope.bindings

  abbrev primitive_result : ℕ → Made → List ℕ × State → ℕ × State
  primitive_result number m n = (number, record { grown = with_primitive (instance n.0 m) n.1.grown; scope = n.1.scope })

  primitive_one : (s : State) (name : List ℕ) (q : List ℕ × Named) (number : ℕ) (m : Made)
      → here.path ≡ joined base → AreLower base → is_lower name ≡ true
      → ((b : Built) → m ≡ made.Module b → ⊥) → rule_count (instance (with_dot here.path q.0) m ∷ []) ≡ 0
      → ((p : ℕ) → occurs_in p (instance (with_dot here.path q.0) m ∷ []) ≡ 0)
      → NewName name s.scope.instances q → One s (primitive_result number m (with_dot here.path q.0, with_names q.1 s))
  primitive_one s name q number m path lower low part none no_rule h =
      let own : AreLower (base ++ q.0 ∷ []) = lower_both base (q.0 ∷ []) lower (and_from (is_lower q.0) true (h.lower low) refl) in
      let i = instance (with_dot here.path q.0) m in
      record {
        makes = record {
          more = i ∷ [];
          instances_are = refl;
          names = takes_longer q.0 s.scope.instances q.1 h.takes;
          group = group_one ms base here.around s.scope.instances.taken q.1.taken i part (record {
            name = q.0;
            rest = [];
            path = ap (λ z. with_dot z q.0) path ∙ path_is base q.0 lower;
            lower = own;
            fresh = h.takes.fresh;
            taken = takes_taken q.0 s.scope.instances q.1 h.takes;
          });
          elements = longer_none s.scope.elements.taken;
          rules = [];
          rules_are = sym (append-nil s.scope.rules);
          named = rules_none s.scope.elements.taken s.scope.elements.taken;
          many = omega (arith, none);
          positions = fills_none (here.first + s.grown.rules) (λ p. occurs p [] + occurs_in p (i ∷ [])) (λ p. omega (arith, no_rule p));
          marks = λ k. k;
        };
        bindings = refl;
      }

  pub primitive_made : (bits : ℕ) (name : List ℕ) (g : GivenMaker) (xs : List Static) (s : State) (r : ℕ × State) → here.path ≡ joined base
      → AreLower base → is_lower name ≡ true → primitive here bits name g xs s ≡ Ok r → One s r
  unfolding primitive
  primitive_made bits name g xs s r path lower low e =
      let d = went (at_least_one (static_fault here) (depth_of g xs)) _ r e in
      let n = went (named_instance here name s) _ r d.2 in
      let k = went (within_limits d.0 n.0.1.grown) _ r n.2 in
      let found = named_instance_is here name s n.0 n.1 in
      let m = made.Primitive (made_part g) (kind_of g bits d.0 (start_of xs)) in
      let one = primitive_one s name found.0 k.0 m path lower low (λ b is. cc) refl (λ p. refl) found.1 in
      subst (One s) {x = primitive_result k.0 m n.0} (same_ok (primitive_result k.0 m n.0) r k.2)
      (subst (λ z. One s (primitive_result k.0 m z)) found.2 one)

-- ---- one of a module

countable_is : (n m : ℕ) → countable n ≡ Ok m → m ≡ n
unfolding countable
countable_is n m e = sym (same_ok n m (passed (nat_lt n 4294967296) (Ok n) (refused.Carried fault.Weight) m e).1)

pub put_there : (xs ys : List Instance) (i j : Instance) (n : ℕ) → n ≡ length xs → put_at n j ((xs ++ i ∷ []) ++ ys) ≡ xs ++ j ∷ ys
unfolding put_at
put_there xs ys i j n is =
    let line : (xs ++ i ∷ []) ++ ys ≡ xs ++ i ∷ ys = append_assoc xs (i ∷ []) ys in
    let many = length-append xs (i ∷ ys) in
    ap (λ (zs : List Instance). if nat_lt n (length zs) then set zs n j else zs) line
    ∙ cond-true (nat_lt n (length (xs ++ i ∷ ys))) (set (xs ++ i ∷ ys) n j) (xs ++ i ∷ ys) (lt-ltb n (length (xs ++ i ∷ ys)) (omega (arith, many)))
    ∙ set_at xs i ys j n (sym is)

module _ (ms : List Module) (here : Here) (base : List (List ℕ)) where
  abbrev child_result : ℕ → Done → List ℕ × State → ℕ × State
  child_result number d n = (number, behind number (instance n.0 (made.Module d.built)) d.grown d.marks n.1.scope)

  abbrev with_unbuilt : ℕ → List ℕ × State → Grown
  with_unbuilt k n = with_instance (instance n.0 (unbuilt k)) n.1.grown

  child_one : (s : State) (name : List ℕ) (k : ℕ) (q : List ℕ × Named) (number : ℕ) (d : Done)
      → here.path ≡ joined base → AreLower base → is_lower name ≡ true
      → is_around k here.around ≡ false → number ≡ length s.grown.instances → NewName name s.scope.instances q
      → BodyMade ms (inner here k (with_dot here.path q.0)) (base ++ q.0 ∷ []) (with_unbuilt k (with_dot here.path q.0, with_names q.1 s)) d
      → One ms here base s (child_result number d (with_dot here.path q.0, with_names q.1 s))
  child_one s name k q number d path lower low outside at h b =
      let own : AreLower (base ++ q.0 ∷ []) = lower_both base (q.0 ∷ []) lower (and_from (is_lower q.0) true (h.lower low) refl) in
      let w = b.makes in
      let i = instance (with_dot here.path q.0) (made.Module d.built) in
      let rules_are : d.built.rules ≡ w.rules = b.rules ∙ w.rules_are in
      let group = subst (λ (z : ℕ). Group ms (base ++ q.0 ∷ []) (here.around ++ z ∷ []) [] b.last.names w.more) (sym b.number) w.group in
      let many : s.grown.rules + (length d.built.rules + rule_count w.more) ≡ d.grown.rules = omega (arith, w.many, b.count, ap length rules_are) in
      record {
        makes = record {
          more = i ∷ w.more;
          instances_are = ap (λ z. put_at number i z) (b.instances ∙ w.instances_are) ∙ put_there s.grown.instances w.more
              (instance (with_dot here.path q.0) (unbuilt k)) i number at;
          names = takes_longer q.0 s.scope.instances q.1 h.takes;
          group = group_nest ms base here.around s.scope.instances.taken q.1.taken b.last.names q.0 i d.built w.more (record {
            lower = own;
            fresh = h.takes.fresh;
            taken_is = takes_taken q.0 s.scope.instances q.1 h.takes;
            path = ap (λ z. with_dot z q.0) path ∙ path_is base q.0 lower;
            is_built = refl;
            outside = subst (λ z. is_around z here.around ≡ false) (sym b.number) outside;
            named = b.named;
            group = group;
          });
          elements = longer_none s.scope.elements.taken;
          rules = [];
          rules_are = sym (append-nil s.scope.rules);
          named = rules_none s.scope.elements.taken s.scope.elements.taken;
          many = omega (arith, many);
          positions = fills_same (here.first + s.grown.rules) (here.first + b.last.count) (here.first + s.grown.rules) (here.first + d.grown.rules)
              (λ p. occurs p w.rules + occurs_in p w.more) (λ p. occurs p [] + occurs_in p (i ∷ w.more)) refl
              (ap (λ z. here.first + z) (sym b.count)) w.positions
              (λ p. let same = ap (occurs p) rules_are in omega (arith, same));
          marks = λ m. marks_both here.first (here.first + d.grown.rules) s.scope.marks d.marks
              (marks_more here.first (here.first + s.grown.rules) (here.first + d.grown.rules) s.scope.marks (omega (arith, many)) m)
              (subst (λ z. MarksWithin here.first (here.first + z) d.marks) (sym b.count) b.marks);
        };
        bindings = refl;
      }

  pub child_made : (bodies : Bodies) (name : List ℕ) (k : ℕ) (xs : List Static) (s : State) (r : ℕ × State)
      → GoodBodies ms bodies → LowParameters ms → here.modules ≡ ms
      → here.path ≡ joined base → AreLower base → is_lower name ≡ true → child bodies here name k xs s ≡ Ok r → One ms here base s r
  unfolding child
  child_made bodies name k xs s r good params same path lower low e =
      let a = not_refused (is_around k here.around) _ (refused.Recursion k) r e in
      let n = went (named_instance here name s) _ r a.1 in
      let c = went (next_number n.0.1.grown) _ r n.2 in
      let d = went (bodies (inner here k n.0.0) (parameters (params_of (slice_get here.modules k)) xs) (with_unbuilt k n.0))
      (λ z. Ok (child_result c.0 z n.0)) r c.2 in
      let found = named_instance_is here name s n.0 n.1 in
      let q = found.0 in
      let own : AreLower (base ++ q.0 ∷ []) = lower_both base (q.0 ∷ []) lower (and_from (is_lower q.0) true (found.1.lower low) refl) in
      let path_there : with_dot here.path q.0 ≡ joined (base ++ q.0 ∷ []) = ap (λ z. with_dot z q.0) path ∙ path_is base q.0 lower in
      let lows = subst (λ z. Lows (parameters (params_of (slice_get z k)) xs)) (sym same) (parameters_of_low ms k xs params) in
      let back = sym found.2 in
      let ran = subst (λ (z : List ℕ × State). bodies (inner here k z.0) (parameters (params_of (slice_get here.modules k)) xs)
      (with_unbuilt k z) ≡ Ok d.0) {x = n.0} back d.1 in
      let made_there = good (inner here k (with_dot here.path q.0)) (base ++ q.0 ∷ []) (parameters (params_of (slice_get here.modules k)) xs)
      (with_unbuilt k (with_dot here.path q.0, with_names q.1 s)) d.0 same path_there own lows ran in
      let number = countable_is (length n.0.1.grown.instances) c.0 c.1 ∙ ap (λ (z : List ℕ × State). length z.1.grown.instances) back in
      let one = child_one s name k q c.0 d.0 path lower low a.0 number found.1 made_there in
      subst (One ms here base s) {x = child_result c.0 d.0 n.0} (same_ok (child_result c.0 d.0 n.0) r d.2)
      (subst (λ z. One ms here base s (child_result c.0 d.0 z)) found.2 one)

  made_by_made : (bodies : Bodies) (bits : ℕ) (name : List ℕ) (x : Maker) (xs : List Static) (s : State) (r : ℕ × State)
      → GoodBodies ms bodies → LowParameters ms → here.modules ≡ ms
      → here.path ≡ joined base → AreLower base → is_lower name ≡ true → made_by bodies here bits name x xs s ≡ Ok r → One ms here base s r
  made_by_made bodies bits name (maker.Given g) xs s r good params same path lower low e =
      primitive_made ms here base bits name g xs s r path lower low e
  made_by_made bodies bits name (maker.Module k) xs s r good params same path lower low e =
      child_made bodies name k xs s r good params same path lower low e

  -- by any maker
  pub make_made : (bodies : Bodies) (bits : ℕ) (name : List ℕ) (m : Make) (s : State) (r : ℕ × State)
      → GoodBodies ms bodies → LowParameters ms → here.modules ≡ ms
      → here.path ≡ joined base → AreLower base → is_lower name ≡ true → make bodies here bits name m s ≡ Ok r → One ms here base s r
  unfolding make
  make_made bodies bits name m s r good params same path lower low e =
      let a = went (arguments here m.arguments s) _ r e in
      let still = arguments_still here m.arguments s a.0 a.1 in
      let one = made_by_made bodies bits name m.maker a.0.0 a.0.1 r good params same path lower low a.2 in
      record { makes = subst (λ k. Makes ms here base k (kept r.1)) still.same one.makes; bindings = one.bindings ∙ still.bindings }
