-- What the statements of a body make.
use Rattle.std.proofs.Common.{◌≡◌, ℕ, zero, suc, Bool, true, ℤ, pos, negsuc, List, [], ◌∷◌, Option, Some, None, Ok, Err, refl, sym, subst, arith}
use Rattle.std.specs.Prelude.{nat_lt, slice_get}
use Rattle.std.proofs.lemmas.Bool.{ltb-true}
use Rattle.bsv_lemmas.proofs.Choices.{same_ok, passed}
use Rattle.bsv_ast.specs.Names.{is_lower}
use Rattle.bsv_fail.specs.Given.{◌>>=◌}
use Rattle.bsv_types.specs.declared.expressions.Expr.{Expr}
use Rattle.bsv_types.specs.declared.makers.Make.{Make}
use Rattle.bsv_types.specs.declared.modules.Module.{Module}
use Rattle.bsv_types.specs.declared.statements.Head.{Head}
use Rattle.bsv_types.specs.Kinds.{Kind as Sort}
use Rattle.bsv_tree.specs.declared.statics.Binding.{Binding}
use Rattle.bsv_tree.specs.declared.statics.Static.TheVariants as static
use Rattle.bsv_tree.specs.declared.values.Fault.TheVariants as fault
use Rattle.bsv_design.specs.design.Paths.{joined}
use Rattle.bsv_design.proofs.Dotted.{AreLower}
use Rattle.bsv_elab.specs.declared.refused.Refused.{Refused}
use Rattle.bsv_elab.specs.declared.refused.Refused.TheVariants as refused
use Rattle.bsv_elab.specs.declared.state.State.{State}
use Rattle.bsv_elab.specs.Statics.{Here, Builds, static_fault, constant_in, number_in, truth_in, held, held_as, bind, assign, inside}
use Rattle.bsv_elab.specs.Making.{Bodies, make}
use Rattle.bsv_elab.specs.Bodies.{most_turns, length_of, no_places, places, name_of, or_one, index_in, set_place, run, one_instance, array, place_from, one_place, declare, set, Branched, chain, turn, turns, first_and_turns, looped}
use Rattle.bsv_elab.proofs.NamedLists.{chosen}
use Rattle.bsv_elab.proofs.NamedMakes.{Lows, Ran, Good, ran_none, ran_both}
use Rattle.bsv_elab.proofs.NamedStill.{Still, constant_still, number_still, truth_still, low_at, still_ran, ran_after, bound_ran, assigned_ran, placed_ran, inside_good}
use Rattle.bsv_elab.proofs.NamedMaking.{GoodBodies, LowParameters, One, make_made}
use Rattle.bsv_elab.proofs.FittingSteps.{went}

-- ---- one after the other, arms and loops

module _ (ms : List Module) (bodies : Bodies) (here : Here) (base : List (List ℕ)) where
  abbrev pub EachGood : List Builds → Type 0
  EachGood [] = Unit {0}
  EachGood (a ∷ more) = Good ms here base a × EachGood more

  pub run_good : (xs : List Builds) → EachGood xs → Good ms here base (run bodies here xs)
  unfolding run
  run_good [] each s z lows e = subst (Ran ms here base s) (same_ok s z e) (ran_none ms here base s lows)
  run_good (a ∷ more) each s z lows e =
      let r = went (a s) _ z e in
      let h = each.0 s r.0 lows r.1 in
      ran_both ms here base s r.0 z h (run_good more each.1 r.0 z h.lows r.2)

  pub record GoodArm (b : Branched bodies here) : Type 0 where
    pub asks : (s : State) (r : Bool × State) → b.asks s ≡ Ok r → Still s r.1
    pub arm : Good ms here base b.arm

  abbrev pub EachArm : List (Branched bodies here) → Type 0
  EachArm [] = Unit {0}
  EachArm (b ∷ bs) = GoodArm b × EachArm bs

  abbrev pub LastGood : Option Builds → Type 0
  LastGood None = Unit {0}
  LastGood (Some a) = Good ms here base a

  pub chain_good : (last : Option Builds) (bs : List (Branched bodies here)) → LastGood last → EachArm bs
      → Good ms here base (chain bodies here last bs)
  unfolding chain
  chain_good None [] ends each s z lows e = subst (Ran ms here base s) (same_ok s z e) (ran_none ms here base s lows)
  chain_good (Some a) [] ends each s z lows e = inside_good ms here base a ends s z lows e
  chain_good last (b ∷ bs) ends each s z lows e =
      let t = went (b.asks s) _ z e in
      let first = each.0 in
      let still = first.asks s t.0 t.1 in
      let h = still_ran ms here base s t.0.1 lows still in
      ran_after ms here base s t.0.1 z still (chosen t.0.0 (inside b.arm t.0.1) (chain bodies here last bs t.0.1) z (Ran ms here base t.0.1 z)
      (λ f. inside_good ms here base b.arm first.arm t.0.1 z h.lows f) (λ f. chain_good last bs ends each.1 t.0.1 z h.lows f) t.2)

  pub set_good : (level : ℕ) (x : Expr) → Good ms here base (set bodies here level x)
  set_good level x s z lows e =
      let r = went (constant_in here x s) _ z e in
      let h = still_ran ms here base s r.0.1 lows (constant_still here x s r.0 r.1) in
      subst (Ran ms here base s) (same_ok (assign level r.0.0 r.0.1) z r.2) (assigned_ran ms here base s r.0.1 level r.0.0 h)

  turn_good : (h : Head) (a : Builds) → Good ms here base a → Good ms here base (turn bodies here h a)
  unfolding turn
  turn_good h a good s z lows e =
      let r = went (inside a s) _ z e in
      let first = inside_good ms here base a good s r.0 lows r.1 in
      ran_both ms here base s r.0 z first (set_good h.stepped h.step r.0 z first.lows r.2)

  turns_good : (n : ℕ) (h : Head) (a : Builds) → Good ms here base a → Good ms here base (turns bodies here n h a)
  unfolding turns
  turns_good zero h a good s z lows e =
      let t = went (truth_in here h.condition s) _ z e in
      let still = truth_still here h.condition s t.0 t.1 in
      let first = still_ran ms here base s t.0.1 lows still in
      chosen t.0.0 (Err (refused.Carried (fault.Loop here.within))) (Ok t.0.1) z (Ran ms here base s z)
      (λ f. absurd cc) (λ f. subst (Ran ms here base s) (same_ok t.0.1 z f) first) t.2
  turns_good (suc n) h a good s z lows e =
      let t = went (truth_in here h.condition s) _ z e in
      let still = truth_still here h.condition s t.0 t.1 in
      let first = still_ran ms here base s t.0.1 lows still in
      chosen t.0.0 (turn bodies here h a t.0.1 >>= turns bodies here n h a) (Ok t.0.1) z (Ran ms here base s z)
      (λ f. let r = went (turn bodies here h a t.0.1) (turns bodies here n h a) z f in
      let next = turn_good h a good t.0.1 r.0 first.lows r.1 in
      ran_after ms here base s t.0.1 z still (ran_both ms here base t.0.1 r.0 z next (turns_good n h a good r.0 z next.lows r.2)))
      (λ f. subst (Ran ms here base s) (same_ok t.0.1 z f) first) t.2

  started_good : (h : Head) (a : Builds) → is_lower h.variable ≡ true → Good ms here base a → Good ms here base (first_and_turns bodies here h a)
  started_good h a low good s z lows e =
      let r = went (constant_in here h.first s) _ z e in
      let first = still_ran ms here base s r.0.1 lows (constant_still here h.first s r.0 r.1) in
      let bound = bound_ran ms here base s r.0.1 h.variable (held r.0.0) 0 first low in
      let from = bind h.variable (held r.0.0) 0 r.0.1 in
      ran_both ms here base s from z bound (turns_good most_turns h a good from z bound.lows r.2)

  pub looped_good : (h : Head) (a : Builds) → is_lower h.variable ≡ true → Good ms here base a → Good ms here base (looped bodies here h a)
  unfolding looped
  looped_good h a low good s z lows e = inside_good ms here base (first_and_turns bodies here h a) (started_good h a low good) s z lows e

-- ---- what is made or declared

module _ (ms : List Module) (bodies : Bodies) (here : Here) (base : List (List ℕ)) (good : GoodBodies ms bodies) (params : LowParameters ms)
    (same : here.modules ≡ ms) (path : here.path ≡ joined base) (lower : AreLower base) where
  one_ran : (s : State) (r : ℕ × State) → Lows s.scope.bindings → One ms here base s r → Ran ms here base s r.1
  one_ran s r lows h = record { makes = h.makes; lows = subst Lows (sym h.bindings) lows }

  made_ran : (width : ℕ) (name : List ℕ) (m : Make) (s : State) (r : ℕ × State) → Lows s.scope.bindings → is_lower name ≡ true
      → make bodies here width name m s ≡ Ok r → Ran ms here base s r.1
  made_ran width name m s r lows low e = one_ran s r lows (make_made ms here base bodies width name m s r good params same path lower low e)

  pub instance_good : (width : ℕ) (name : List ℕ) (m : Make) → is_lower name ≡ true → Good ms here base (one_instance bodies here width name m)
  unfolding one_instance
  instance_good width name m low s z lows e =
      let r = went (make bodies here width name m s) _ z e in
      let h = made_ran width name m s r.0 lows low r.1 in
      subst (Ran ms here base s) (same_ok (bind name (static.Place r.0.0) 0 r.0.1) z r.2)
      (bound_ran ms here base s r.0.1 name (static.Place r.0.0) 0 h low)

  pub array_good : (width : ℕ) (name : List ℕ) (x : Expr) → is_lower name ≡ true → Good ms here base (array bodies here width name x)
  unfolding array
  array_good width name x low s z lows e =
      let r = went (number_in here x s) _ z e in
      let n = went (length_of (static_fault here) r.0.0) _ z r.2 in
      let h = still_ran ms here base s r.0.1 lows (number_still here x s r.0 r.1) in
      subst (Ran ms here base s) (same_ok (bind name (no_places n.0) width r.0.1) z n.2)
      (bound_ran ms here base s r.0.1 name (no_places n.0) width h low)

  place_there : (o : Option Binding) (f : Refused) (i : ℤ) (at : ℕ) → index_in f (places o) i ≡ Ok at → (b : Binding) × (o ≡ Some b)
  place_there None f (pos n) at e = let h = passed (nat_lt n 0) (Ok n) f at e in absurd (omega (arith, ltb-true n 0 h.0))
  place_there None f (negsuc n) at e = absurd cc
  place_there (Some b) f i at e = (b, refl)

  place_from_ran : (level : ℕ) (index : ℤ) (m : Make) (s z : State) → Lows s.scope.bindings
      → place_from bodies here level index m s ≡ Ok z → Ran ms here base s z
  place_from_ran level index m s z lows e =
      let at = went (index_in (static_fault here) (places (slice_get s.scope.bindings level)) index) _ z e in
      let r = went (make bodies here (or_one (slice_get s.scope.widths level)) (name_of (slice_get s.scope.bindings level)) m s) _ z at.2 in
      let b = place_there (slice_get s.scope.bindings level) (static_fault here) index at.0 at.1 in
      let low = subst (λ (o : Option Binding). is_lower (name_of o) ≡ true) (sym b.1) (low_at s.scope.bindings level b.0 lows b.1) in
      let h = made_ran (or_one (slice_get s.scope.widths level)) (name_of (slice_get s.scope.bindings level)) m s r.0 lows low r.1 in
      subst (Ran ms here base s) (same_ok (set_place level at.0 r.0.0 r.0.1) z r.2) (placed_ran ms here base s r.0.1 level at.0 r.0.0 h)

  pub place_good : (level : ℕ) (x : Expr) (m : Make) → Good ms here base (one_place bodies here level x m)
  unfolding one_place
  place_good level x m s z lows e =
      let r = went (number_in here x s) _ z e in
      let still = number_still here x s r.0 r.1 in
      let first = still_ran ms here base s r.0.1 lows still in
      ran_after ms here base s r.0.1 z still (place_from_ran level r.0.0 m r.0.1 z first.lows r.2)

  pub declare_good : (k : Sort) (name : List ℕ) (x : Expr) → is_lower name ≡ true → Good ms here base (declare bodies here k name x)
  declare_good k name x low s z lows e =
      let r = went (constant_in here x s) _ z e in
      let h = still_ran ms here base s r.0.1 lows (constant_still here x s r.0 r.1) in
      subst (Ran ms here base s) (same_ok (bind name (held_as k r.0.0) 0 r.0.1) z r.2) (bound_ran ms here base s r.0.1 name (held_as k r.0.0) 0 h low)
