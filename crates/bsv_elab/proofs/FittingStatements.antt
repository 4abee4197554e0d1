-- The statements of a module that hold no others keep what is in scope as its types say.
use Rattle.std.proofs.Common.{◌≡◌, ◌∙◌, ℕ, ◌+◌, true, false, ◌&&◌, List, [], ◌∷◌, ◌++◌, map, length, Option, Some, None, Result, Ok, refl, sym, ap, subst, append-nil}
use Rattle.std.specs.Prelude.{ℤ, nat_le, nat_lt, slice_get}
use Rattle.std.proofs.lemmas.Bool.{false≢true, and_parts}
use Rattle.bsv_lemmas.proofs.Choices.{same_ok, passed}
use Rattle.bsv_ast.specs.Names.{is_lower}
use Rattle.bsv_types.specs.declared.expressions.Expr.{Expr}
use Rattle.bsv_types.specs.declared.makers.Make.{Make}
use Rattle.bsv_types.specs.declared.modules.Method.{Method}
use Rattle.bsv_types.specs.declared.modules.Module.{Module}
use Rattle.bsv_types.specs.declared.modules.Rule.{Rule}
use Rattle.bsv_types.specs.declared.typed.Typed.{Typed}
use Rattle.bsv_types.specs.declared.types.Ty.{Ty}
use Rattle.bsv_types.specs.Expressions.{Frame, one, many, one_at, many_at, has_type}
use Rattle.bsv_types.specs.Kinds.{Kind as Sort, integer, kind}
use Rattle.bsv_types.specs.Modules as rules
use Rattle.bsv_types.specs.Modules.{header, makes, place_right, rule_right, method_right}
use Rattle.bsv_types.specs.Shapes.{is_value, is_instance}
use Rattle.bsv_types.specs.Statements.{Run, if_right, assigns}
use Rattle.bsv_tree.specs.declared.statics.Binding.{Binding}
use Rattle.bsv_tree.specs.declared.statics.Static.{Static}
use Rattle.bsv_tree.specs.declared.statics.Static.TheVariants as static
use Rattle.bsv_tree.specs.declared.tree.BuiltRule.{BuiltRule}
use Rattle.bsv_tree.specs.declared.tree.Instance.{Instance}
use Rattle.bsv_tree.specs.declared.values.Constant.{Constant}
use Rattle.bsv_tree.specs.tree.Trees.{shapes, world, Stands, AllMayStand, Fits, RuleAgrees}
use Rattle.bsv_elab.specs.declared.refused.Refused.{Refused}
use Rattle.bsv_elab.specs.declared.state.State.{State}
use Rattle.bsv_elab.specs.Names.{Named, new_name, take_name}
use Rattle.bsv_elab.specs.Statics.{Here, Builds, static_fault, constant_in, number_in, held_as, next_value, binding, bind, assigned, assign, countable}
use Rattle.bsv_elab.specs.Making.{Bodies, width_in, make}
use Rattle.bsv_elab.specs.Elements.{rules_of, methods_of, here_module, with_rule, built_rule, with_elements, named_rule, weight_of, rule_from, rule, with_level, method_from, method}
use Rattle.bsv_elab.specs.Bodies.{length_of, no_places, places, name_of, or_one, index_in, placed, with_place, set_place, one_instance, array, place_from, one_place, declare, set}
use Rattle.bsv_elab.proofs.FittingTrees.{RulesAgree, grew_none}
use Rattle.bsv_elab.proofs.FittingScopes.{plain_fits, held_as_plain, next_plain, none_stand, may_put, fit_at, wide_at, wide_is, put_length}
use Rattle.bsv_elab.proofs.FittingSteps.{went, if_right_is, counted_is, constant_same, number_same}
use Rattle.bsv_elab.proofs.FittingStates.{Fit, Moved, Preserves, still, moved_both, after_weight, bind_moved, put_moved}
use Rattle.bsv_elab.proofs.FittingPlaces.{one_of, many_of}
use Rattle.bsv_elab.proofs.FittingMade.{home, BodiesRight, make_makes}

rules_more : (t : Typed) (is : List Instance) (m : Module) (rs : List BuiltRule) (r : BuiltRule) → RulesAgree t is m rs → RuleAgrees t is m r → RulesAgree t is m (rs ++ r ∷ [])
rules_more t is m [] r h g = (g, tt)
rules_more t is m (q ∷ rs) r h g = (h.0, rules_more t is m rs r h.1 g)

-- the places of an array that is in scope
places_stand : (t : Typed) (is : List Instance) (k : Sort) (name : List ℕ) (x : Static) → Fits t is (many k) x → AllMayStand t is k (places (Some (binding name x)))
places_stand t is k name (static.Number n) h = absurd h
places_stand t is k name (static.Bits w) h = absurd h
places_stand t is k name (static.Truth b) h = absurd h
places_stand t is k name (static.Place n) h = absurd h
places_stand t is k name (static.Places ns) h = h

module _ (t : Typed) (m : Module) where
  -- a state that is reached
  pub lands : (f e g : Frame) (s q r : State) (ns : List ℕ) → Moved t m f s e q ns → e ≡ g → ◌≡◌ {A = Result State Refused} (Ok q) (Ok r) → Moved t m f s g r ns
  lands f e g s q r ns h same there = subst (λ z. Moved t m f s g z ns) (same_ok q r there) (subst (λ z. Moved t m f s z q ns) same h)

  assigned_moved : (f : Frame) (s : State) (level : ℕ) (k : Sort) (c : Constant) (ns : List ℕ) (o : Option Binding) → Fit t m f s → slice_get f level ≡ Some (one k) → is_value (shapes t) k ≡ true
      → Moved t m f s f (assigned level c o s) ns
  assigned_moved f s level k c ns None h there value = still t m f s ns h
  assigned_moved f s level k c ns (Some b) h there value =
      put_moved t m f s level (one k) (binding b.name (next_value b.value c)) ns h there (plain_fits t s.grown.instances k (next_value b.value c) (next_plain b.value c) value)

  pub assign_moved : (f : Frame) (s : State) (level : ℕ) (k : Sort) (c : Constant) (ns : List ℕ) → Fit t m f s → slice_get f level ≡ Some (one k) → is_value (shapes t) k ≡ true
      → Moved t m f s f (assign level c s) ns
  unfolding assign
  assign_moved f s level k c ns h there value = assigned_moved f s level k c ns (slice_get s.scope.bindings level) h there value

  with_place_moved : (f : Frame) (s : State) (level at n : ℕ) (k : Sort) (o : Option Binding) → slice_get s.scope.bindings level ≡ o → Fit t m f s → slice_get f level ≡ Some (many k) → Stands t s.grown.instances k n
      → Moved t m f s f (with_place level at n o s) []
  with_place_moved f s level at n k None is h there stands = still t m f s [] h
  with_place_moved f s level at n k (Some b) is h there stands =
      let before = fit_at t s.grown.instances f s.scope.bindings level (many k) b h.fits there is in
      let all = places_stand t s.grown.instances k b.name b.value before in
      put_moved t m f s level (many k) (binding b.name (placed (places (Some b)) at n)) [] h there (may_put t s.grown.instances k (places (Some b)) at n all stands)

  set_place_moved : (f : Frame) (s : State) (level at n : ℕ) (k : Sort) → Fit t m f s → slice_get f level ≡ Some (many k) → Stands t s.grown.instances k n → Moved t m f s f (set_place level at n s) []
  unfolding set_place
  set_place_moved f s level at n k h there stands = with_place_moved f s level at n k (slice_get s.scope.bindings level) refl h there stands

  pub assign_parts : (f : Frame) (level : ℕ) (e : Expr) → assigns (world t) 0 f level e ≡ true → (k : Sort) × (one_at f level ≡ Some k) × (is_value (shapes t) k ≡ true)
  assign_parts f level e h = by (one_at f level) refl where
    by : (o : Option Sort) → one_at f level ≡ o → (k : Sort) × (one_at f level ≡ Some k) × (is_value (shapes t) k ≡ true)
    by None is = let g = rw is at h in absurd (false≢true (and_parts (nat_le 0 level) false g).1)
    by (Some k) is = let g = rw is at h in (k, is, (and_parts (is_value (shapes t) k) (has_type (world t) f e k) (and_parts (nat_le 0 level) (is_value (shapes t) k && has_type (world t) f e k) g).1).0)

  module _ (number : ℕ) (path around : List ℕ) (first : ℕ) (bodies : Bodies) (right : BodiesRight t first bodies) where
    abbrev here : Here
    here = home t number path around first

    abbrev site : rules.ModuleContext
    site = rules.site_of (world t) (map header t.modules) m

    abbrev Good : Builds → Run → List ℕ → Type 0
    Good = Preserves t m

    -- ---- instances

    pub instance_good : (ty : Ty) (name : List ℕ) (x : Make) → Good (one_instance bodies here (width_in here (kind ty)) name x) (λ f. if_right (is_instance (shapes t) (kind ty) && is_lower name && makes site f x (kind ty)) (f ++ one (kind ty) ∷ [])) []
    unfolding one_instance
    instance_good ty name x s r f g h typed e =
        let q = went (make bodies here (width_in here (kind ty)) name x s) _ r e in
        let c = if_right_is (is_instance (shapes t) (kind ty) && is_lower name && makes site f x (kind ty)) (f ++ one (kind ty) ∷ []) g typed in
        let b = and_parts (is_instance (shapes t) (kind ty) && is_lower name) (makes site f x (kind ty)) c.0 in
        let a = and_parts (is_instance (shapes t) (kind ty)) (is_lower name) b.0 in
        let made = make_makes t m number path around first f bodies right s (width_in here (kind ty)) name x (kind ty) q.0 h a.0 b.1 (wide_is t here (kind ty) refl) q.1 in
        let bound = bind_moved t m f q.0.1 (one (kind ty)) name (static.Place q.0.0) 0 [] made.moved.fit made.stands tt in
        lands f (f ++ one (kind ty) ∷ []) g s (bind name (static.Place q.0.0) 0 q.0.1) r []
        (moved_both t m f f (f ++ one (kind ty) ∷ []) s q.0.1 (bind name (static.Place q.0.0) 0 q.0.1) [] [] made.moved bound) c.1 q.2

    pub array_good : (ty : Ty) (name : List ℕ) (x : Expr) → Good (array bodies here (width_in here (kind ty)) name x) (λ f. if_right (is_instance (shapes t) (kind ty) && is_lower name && has_type (world t) f x integer) (f ++ many (kind ty) ∷ [])) []
    unfolding array
    array_good ty name x s r f g h typed e =
        let q = went (number_in here x s) _ r e in
        let n = went (length_of (static_fault here) q.0.0) _ r q.2 in
        let c = if_right_is (is_instance (shapes t) (kind ty) && is_lower name && has_type (world t) f x integer) (f ++ many (kind ty) ∷ []) g typed in
        let b = and_parts (is_instance (shapes t) (kind ty) && is_lower name) (has_type (world t) f x integer) c.0 in
        let a = and_parts (is_instance (shapes t) (kind ty)) (is_lower name) b.0 in
        after_weight t m f g s q.0.1 r [] (number_same here s x q.0 q.1) h (λ z.
        lands f (f ++ many (kind ty) ∷ []) g q.0.1 (bind name (no_places n.0) (width_in here (kind ty)) q.0.1) r []
        (bind_moved t m f q.0.1 (many (kind ty)) name (no_places n.0) (width_in here (kind ty)) [] z (none_stand t q.0.1.grown.instances (kind ty) n.0) (wide_is t here (kind ty) refl, a.0)) c.1 n.2)

    place_parts : (f : Frame) (level : ℕ) (e : Expr) (x : Make) → place_right site f level e x ≡ true → (k : Sort) × (many_at f level ≡ Some k) × (makes site f x k ≡ true)
    place_parts f level e x h = by (many_at f level) refl where
      by : (o : Option Sort) → many_at f level ≡ o → (k : Sort) × (many_at f level ≡ Some k) × (makes site f x k ≡ true)
      by None is = let g = rw is at h in absurd (false≢true (and_parts (has_type (world t) f e integer) false g).1)
      by (Some k) is = let g = rw is at h in (k, is, (and_parts (has_type (world t) f e integer) (makes site f x k) g).1)

    place_from_moved : (f : Frame) (s : State) (level : ℕ) (i : ℤ) (x : Make) (k : Sort) (r : State) → Fit t m f s → many_at f level ≡ Some k → makes site f x k ≡ true → place_from bodies here level i x s ≡ Ok r → Moved t m f s f r []
    place_from_moved f s level i x k r h there typed e =
        let at = went (index_in (static_fault here) (places (slice_get s.scope.bindings level)) i) _ r e in
        let q = went (make bodies here (or_one (slice_get s.scope.widths level)) (name_of (slice_get s.scope.bindings level)) x s) _ r at.2 in
        let slot = many_of f level k there in
        let w = wide_at t f s.scope.widths level k h.widths slot in
        let made = make_makes t m number path around first f bodies right s (or_one (slice_get s.scope.widths level)) (name_of (slice_get s.scope.bindings level)) x k q.0 h w.1 typed w.0 q.1 in
        let put = set_place_moved f q.0.1 level at.0 q.0.0 k made.moved.fit slot made.stands in
        lands f f f s (set_place level at.0 q.0.0 q.0.1) r [] (moved_both t m f f f s q.0.1 (set_place level at.0 q.0.0 q.0.1) [] [] made.moved put) refl q.2

    pub place_good : (level : ℕ) (i : Expr) (x : Make) → Good (one_place bodies here level i x) (λ f. if_right (place_right site f level i x) f) []
    unfolding one_place
    place_good level i x s r f g h typed e =
        let q = went (number_in here i s) _ r e in
        let c = if_right_is (place_right site f level i x) f g typed in
        let a = place_parts f level i x c.0 in
        subst (λ z. Moved t m f s z r []) c.1
        (after_weight t m f f s q.0.1 r [] (number_same here s i q.0 q.1) h (λ z. place_from_moved f q.0.1 level q.0.0 x a.0 r z a.1 a.2 q.2))

    -- ---- values

    pub declare_good : (ty : Ty) (name : List ℕ) (x : Expr) → Good (declare bodies here (kind ty) name x) (λ f. if_right (is_value (shapes t) (kind ty) && is_lower name && has_type (world t) f x (kind ty)) (f ++ one (kind ty) ∷ [])) []
    declare_good ty name x s r f g h typed e =
        let q = went (constant_in here x s) _ r e in
        let c = if_right_is (is_value (shapes t) (kind ty) && is_lower name && has_type (world t) f x (kind ty)) (f ++ one (kind ty) ∷ []) g typed in
        let b = and_parts (is_value (shapes t) (kind ty) && is_lower name) (has_type (world t) f x (kind ty)) c.0 in
        let value = (and_parts (is_value (shapes t) (kind ty)) (is_lower name) b.0).0 in
        let v = held_as (kind ty) q.0.0 in
        after_weight t m f g s q.0.1 r [] (constant_same here s x q.0 q.1) h (λ z.
        lands f (f ++ one (kind ty) ∷ []) g q.0.1 (bind name v 0 q.0.1) r []
        (bind_moved t m f q.0.1 (one (kind ty)) name v 0 [] z (plain_fits t q.0.1.grown.instances (kind ty) v (held_as_plain (kind ty) q.0.0) value) tt) c.1 q.2)

    pub set_moved : (f : Frame) (s r : State) (level : ℕ) (x : Expr) (ns : List ℕ) → Fit t m f s → assigns (world t) 0 f level x ≡ true → set bodies here level x s ≡ Ok r → Moved t m f s f r ns
    set_moved f s r level x ns h typed e =
        let q = went (constant_in here x s) _ r e in
        let a = assign_parts f level x typed in
        after_weight t m f f s q.0.1 r ns (constant_same here s x q.0 q.1) h (λ z.
        lands f f f q.0.1 (assign level q.0.0 q.0.1) r ns (assign_moved f q.0.1 level a.0 q.0.0 ns z (one_of f level a.0 a.1) a.2) refl q.2)

    pub set_good : (level : ℕ) (x : Expr) → Good (set bodies here level x) (λ f. if_right (assigns (world t) 0 f level x) f) []
    set_good level x s r f g h typed e =
        let c = if_right_is (assigns (world t) 0 f level x) f g typed in
        subst (λ z. Moved t m f s z r []) c.1 (set_moved f s r level x [] h c.0 e)

  -- ---- rules and methods

  module _ (number : ℕ) (path around : List ℕ) (first : ℕ) (of : slice_get t.modules number ≡ Some m) where
    abbrev place : Here
    place = home t number path around first

    rule_moved : (f : Frame) (s : State) (names : Named) (name : List ℕ) (n position weight : ℕ) → Fit t m f s → rule_right (world t) f (slice_get m.rules n) ≡ true
        → Moved t m f s f (with_rule name n position weight (with_elements names s)) []
    rule_moved f s names name n position weight h typed = record {
      grew = grew_none t s.grown.instances;
      fit = record {
        fits = h.fits;
        widths = h.widths;
        rules = rules_more t s.grown.instances m s.scope.rules (built_rule name n position (with_elements names s)) h.rules (record { frame = f; typed = typed; fits = h.fits });
      };
      more = [];
      longer = sym (append-nil f);
      quiet = λ e. refl;
      as_many = refl;
    }

    rule_from_moved : (f : Frame) (s r : State) (n : ℕ) (o : Option Rule) → Fit t m f s → rule_right (world t) f (slice_get m.rules n) ≡ true → rule_from place n o s ≡ Ok r → Moved t m f s f r []
    unfolding named_rule
    rule_from_moved f s r n None h typed e = absurd cc
    rule_from_moved f s r n (Some source) h typed e =
        let q = went (named_rule place source.name s) _ r e in
        let name = went (new_name path source.name s.scope.elements) _ q.0 q.1 in
        let is : (name.0.0, with_elements name.0.1 s) ≡ q.0 = same_ok (name.0.0, with_elements name.0.1 s) q.0 name.2 in
        let c = passed (nat_lt q.0.1.grown.rules _) _ _ r q.2 in
        let w = went (weight_of place source q.0.1) _ r c.1 in
        let there = subst (λ (z : List ℕ × State). ◌≡◌ {A = Result State Refused} (Ok (with_rule z.0 n (first + z.1.grown.rules) w.0 z.1)) (Ok r)) (sym is) w.2 in
        lands f f f s (with_rule name.0.0 n (first + s.grown.rules) w.0 (with_elements name.0.1 s)) r [] (rule_moved f s name.0.1 name.0.0 n (first + s.grown.rules) w.0 h typed) refl there

    pub rule_good : (n : ℕ) → Preserves t m (rule place n) (λ f. if_right (rule_right (world t) f (slice_get m.rules n)) f) []
    unfolding rule
    rule_good n s r f g h typed e =
        let c = if_right_is (rule_right (world t) f (slice_get m.rules n)) f g typed in
        subst (λ z. Moved t m f s z r []) c.1 (rule_from_moved f s r n (slice_get (rules_of (here_module place)) n) h c.0 e)

    -- the state after a method
    pub record MethodMet (s r : State) (n : ℕ) : Type 0 where
      pub names : Named
      pub is : r ≡ with_level n (length s.scope.bindings) (with_elements names s)

    method_from_met : (s r : State) (n : ℕ) (o : Option Method) → method_from place n o s ≡ Ok r → MethodMet s r n
    method_from_met s r n None e = absurd cc
    method_from_met s r n (Some x) e =
        let names = went (take_name path x.name s.scope.elements) _ r e in
        let level = went (countable (length s.scope.bindings)) _ r names.2 in
        let long = counted_is (length s.scope.bindings) level.0 level.1 in
        record { names = names.0; is = sym (same_ok (with_level n level.0 (with_elements names.0 s)) r level.2) ∙ ap (λ (k : ℕ). with_level n k (with_elements names.0 s)) (sym long) }

    pub method_met : (s r : State) (n : ℕ) → method place n s ≡ Ok r → MethodMet s r n
    unfolding method
    method_met s r n e = method_from_met s r n (slice_get (methods_of (here_module place)) n) e

    level_moved : (f : Frame) (s : State) (n level : ℕ) (names : Named) → Fit t m f s → Moved t m f s f (with_level n level (with_elements names s)) (n ∷ [])
    level_moved f s n level names h = record {
      grew = grew_none t s.grown.instances;
      fit = record { fits = h.fits; widths = h.widths; rules = h.rules };
      more = [];
      longer = sym (append-nil f);
      quiet = λ e. absurd cc;
      as_many = put_length n level s.scope.levels;
    }

    pub method_moved : (f : Frame) (s r : State) (n : ℕ) → Fit t m f s → MethodMet s r n → Moved t m f s f r (n ∷ [])
    method_moved f s r n h met = subst (λ z. Moved t m f s f z (n ∷ [])) (sym met.is) (level_moved f s n (length s.scope.bindings) met.names h)

    pub method_good : (n : ℕ) → Preserves t m (method place n) (λ f. if_right (method_right (world t) f (slice_get (rules.site_of (world t) (map header t.modules) m).wanted n) (slice_get m.methods n)) f) (n ∷ [])
    method_good n s r f g h typed e =
        let c = if_right_is (method_right (world t) f (slice_get (rules.site_of (world t) (map header t.modules) m).wanted n) (slice_get m.methods n)) f g typed in
        subst (λ z. Moved t m f s z r (n ∷ [])) c.1 (method_moved f s r n h (method_met s r n e))
