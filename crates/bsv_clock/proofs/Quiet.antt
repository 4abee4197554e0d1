-- Value methods stop nothing, and nothing stops them.
use Rattle.std.proofs.Common.{◌≡◌, ◌∙◌, ℕ, zero, suc, ◌<◌, ◌⊎◌, inl, inr, Bool, true, false, not, ◌&&◌, ◌||◌, List, [], ◌∷◌, map, length, Option, Some, None, refl, sym, ap, ap₂, subst, arith}
use Rattle.std.specs.Prelude.{if◌then◌else◌, slice_get, option_map, nat_lt, ◌==◌}
use Rattle.std.proofs.lemmas.Bool.{and_from, or_left, or_right, both_ways, cases_Bool, false_from_ne_true, true_from_ne_false, eqb-true, lt-ltb, not_from_false}
use Rattle.std.proofs.lemmas.Option.{slice_get-map, slice_get_within}
use Rattle.bsv_prim.specs.Table.{goes_before}
use Rattle.bsv_design.specs.declared.element.Role.{Role}
use Rattle.bsv_design.specs.declared.element.Role.TheVariants as role
use Rattle.bsv_design.specs.declared.kind.Kind.{Kind}
use Rattle.bsv_design.specs.declared.schedule.Schedule.{Schedule}
use Rattle.bsv_design.specs.design.Bodies.{Target}
use Rattle.bsv_design.specs.parts.Kinds.{kind_laws}
use Rattle.bsv_design.specs.scheme.Relations.{goes, for_all, may_precede, may_precede_of, no_answers}
use Rattle.bsv_design.specs.design.Roles.{is_rule, is_value}
use Rattle.bsv_design.specs.scheme.Schemes.{Scheme, Outline, filled, ports_of}
use Rattle.bsv_design.specs.scheme.Traces.{Site, acts, kind_at}
use Rattle.bsv_schedule.specs.relating.Elements.{relating, has_role}
use Rattle.bsv_graph.specs.Orders.{In, IsOrderOf, IsBefore}
use Rattle.bsv_schedule.specs.relating.Relating.{Relating, value_edges, early_edges, feed_edges, is_value_edge, is_one_value, goes_only, value_of}
use Rattle.bsv_schedule.specs.stopping.Stops.{Clash}
use Rattle.bsv_graph.proofs.EdgeLemmas.{where_has}
use Rattle.bsv_graph.proofs.OrderedLemmas.{before_in, place_before, keeps_has, respects_before}
use Rattle.bsv_graph.proofs.WalkLemmas.{edge_left, edge_right}
use Rattle.bsv_guard.specs.Sound.{IsSound}
use Rattle.bsv_guard.proofs.Lists.{item_of}
use Rattle.bsv_schedule.specs.stopping.Firing.{StopsIn}
use Rattle.bsv_clock.specs.Grounds.{IsScheduleOf}
use Rattle.bsv_clock.specs.Settling.{stops_in}
use Rattle.bsv_clock.specs.Values.{IsValueMethod, AreQuiet}
use Rattle.bsv_clock.proofs.Stopping.{execution_order, stops_true}
use Rattle.bsv_design.proofs.Elements.{length-filled}

-- ---- roles

value_within : (S : Scheme) (v : ℕ) → IsValueMethod S v → v < length S.elements
value_within S v h = slice_get_within S.elements v h.0 h.1

pub is_a_value : (S : Scheme) (v : ℕ) → IsValueMethod S v → (relating S).value v ≡ true
unfolding relating
is_a_value S v h = ap (has_role is_value) (slice_get-map (λ (o : Outline). o.role) S.elements v ∙ (ap (option_map (λ (o : Outline). o.role)) h.1 ∙ ap (λ (r : Role). Some r) h.2))

pub value_role : (r : Role) → is_value r ≡ true → r ≡ role.Value
value_role role.Value h = refl
value_role _ h = absurd (let n : ⊥ = cc in n)

pub value_method : (S : Scheme) (v : ℕ) → (relating S).value v ≡ true → IsValueMethod S v
unfolding relating
value_method S v h = of (slice_get S.elements v) refl (sym (ap (has_role is_value) (slice_get-map (λ (o : Outline). o.role) S.elements v)) ∙ h)
  where
    of : (o : Option Outline) → slice_get S.elements v ≡ o → has_role is_value (option_map (λ (o : Outline). o.role) o) ≡ true → IsValueMethod S v
    of None e k = absurd (let n : ⊥ = cc in n)
    of (Some o) e k = (o, e, value_role o.role k)

no_rule : (S : Scheme) (n : ℕ) → (relating S).value n ≡ true → (relating S).rule n ≡ true → ⊥
unfolding relating
no_rule S n h k = of (slice_get (map (λ (o : Outline). o.role) S.elements) n) h k
  where
    of : (o : Option Role) → has_role is_value o ≡ true → has_role is_rule o ≡ true → ⊥
    of (Some role.Rule) u v = let n : ⊥ = cc in n
    of _ u v = let n : ⊥ = cc in n

-- ---- value methods go before each other

all_of : (p : Target → Bool) (ts : List Target) → ((k : ℕ) (t : Target) → slice_get ts k ≡ Some t → p t ≡ true) → for_all p ts ≡ true
all_of p [] h = refl
all_of p (t ∷ ts) h = and_from (p t) (for_all p ts) (h zero t refl) (all_of p ts (λ k u e. h (suc k) u e))

free_of : (o : Option Kind) (m n : ℕ) → acts o m ≡ false → acts o n ≡ false → may_precede_of o m n ≡ true
free_of None m n h k = refl
free_of (Some kind) m n h k = ap goes_before ((kind_laws kind).table.values_free m n h k)

module _ (S : Scheme) (sound : IsSound S) where
  -- a value method uses methods that do not act
  reads : (v : ℕ) → IsValueMethod S v → (k : ℕ) (t : Target) → slice_get (S.uses v) k ≡ Some t → acts (kind_at S.kinds t) t.method ≡ false
  reads v h k t e =
      let ws = filled (ports_of (slice_get S.elements v)) [] in
      let long = length-filled (ports_of (slice_get S.elements v)) [] in
      let site = item_of (λ (x : Site). x.target) (S.trace v no_answers ws).sites k t (ap (λ (ts : List Target). slice_get ts k) (sound.uses v no_answers ws long) ∙ e) in
      subst (λ (u : Target). acts (kind_at S.kinds u) u.method ≡ false) site.gives
      (sym (sound.actions v no_answers ws long k site.item site.is) ∙ sound.values v h.0 h.1 h.2 no_answers ws long k site.item site.is)

  values_go : (v w : ℕ) → IsValueMethod S v → IsValueMethod S w → goes S v w ≡ true
  unfolding goes
  values_go v w h k =
      all_of (λ x. for_all (may_precede S.kinds x) (S.uses w)) (S.uses v)
      (λ i t e. all_of (may_precede S.kinds t) (S.uses w) (λ j u f. one t u (reads v h i t e) (reads w k j u f)))
    where
      one : (t u : Target) → acts (kind_at S.kinds t) t.method ≡ false → acts (kind_at S.kinds u) u.method ≡ false → may_precede S.kinds t u ≡ true
      one t u a b = elim (cases_Bool (t.part == u.part)) [
        | inl e ↦ or_right (not (t.part == u.part)) (may_precede_of (kind_at S.kinds t) t.method u.method)
            (free_of (kind_at S.kinds t) t.method u.method a (ap (λ (p : ℕ). acts (slice_get S.kinds p) u.method) (eqb-true t.part u.part e) ∙ b))
        | inr e ↦ or_left (not (t.part == u.part)) (may_precede_of (kind_at S.kinds t) t.method u.method) (not_from_false (t.part == u.part) e)
      ]

-- ---- value methods do not clash

module _ (S : Scheme) (made : Schedule) (sound : IsSound S) (scheduled : IsScheduleOf S made) where
  abbrev r : Relating
  r = relating S

  within_order : (a : ℕ) → a < r.count → In made.execution a
  unfolding relating
  within_order a l = (execution_order S made scheduled).each a l

  -- of a value method and another element, that go one way alone, the first in that way is executed first
  executed_first : (a b : ℕ) → a < r.count → b < r.count → is_one_value r a b ≡ true → r.goes a b ≡ true → r.goes b a ≡ false → IsBefore made.execution a b
  executed_first a b l m one go back =
      let x = scheduled.executes.order in
      respects_before x.0 made.execution a b x.2.respects (within_order a l) (within_order b m)
      (keeps_has a b x.1
      (edge_right r.ordering (early_edges r r.count) a b
      (edge_left (value_edges r r.count) (feed_edges r) a b (where_has (is_value_edge r r.count) r.count a b l m here))))
    where
      below : (c : Bool) → nat_lt (if c then a else b) r.count ≡ true
      below true = lt-ltb a r.count l
      below false = lt-ltb b r.count m

      only : goes_only r a b ≡ true
      only = and_from (r.goes a b) (not (r.goes b a)) go (not_from_false (r.goes b a) back)

      here : is_value_edge r r.count a b ≡ true
      here = and_from (is_one_value r a b && goes_only r a b) (nat_lt (value_of r a b) r.count) (and_from (is_one_value r a b) (goes_only r a b) one only) (below (r.value a))

  -- one way they go, since else there would be no schedule
  one_way : (a b : ℕ) → a < r.count → b < r.count → r.value a ≡ true → r.value b ≡ false → r.goes a b ≡ false → r.goes b a ≡ false → ⊥
  one_way a b l m is other out back = scheduled.executes.values a l (is, inl (b, m, other, out, back))

  goes_first : (a b : ℕ) → (r.value a || r.value b) ≡ true → IsBefore made.execution a b → r.goes a b ≡ true
  unfolding relating
  goes_first a b some h = true_from_ne_false (r.goes a b) (λ out. of out (r.value a) (r.value b) refl refl)
    where
      o : IsOrderOf (length S.elements) made.execution
      o = execution_order S made scheduled

      l : a < length S.elements
      l = o.below a (before_in made.execution a b h).0

      m : b < length S.elements
      m = o.below b (before_in made.execution a b h).1

      behind : IsBefore made.execution b a → ⊥
      behind k = let p = place_before made.execution a b o.once h in let q = place_before made.execution b a o.once k in omega arith

      back : is_one_value r b a ≡ true → r.goes a b ≡ false → (r.goes b a ≡ false → ⊥) → ⊥
      back one out way = behind (executed_first b a m l one (true_from_ne_false (r.goes b a) way) out)

      of : r.goes a b ≡ false → (x y : Bool) → r.value a ≡ x → r.value b ≡ y → ⊥
      of out true true e f = both_ways (r.goes a b) out (values_go S sound a b (value_method S a e) (value_method S b f))
      of out true false e f = back (ap₂ (λ (y x : Bool). (y && not x) || (not y && x)) f e) out (λ k. one_way a b l m e f out k)
      of out false true e f = back (ap₂ (λ (y x : Bool). (y && not x) || (not y && x)) f e) out (λ k. one_way b a m l f e k out)
      of out false false e f = both_ways (r.value a || r.value b) (ap₂ (λ (x y : Bool). x || y) e f) some

  no_clash : (a b : ℕ) → (r.value a || r.value b) ≡ true → ¬ Clash r made.execution a b
  no_clash a b some (inl h) = both_ways (r.goes a b) h.1 (goes_first a b some h.0)
  no_clash a b some (inr h) = both_ways (r.goes b a) h.1 (goes_first b a (or_turned (r.value a) (r.value b) some) h.0)
    where
      or_turned : (x y : Bool) → (x || y) ≡ true → (y || x) ≡ true
      or_turned true y e = or_right y true refl
      or_turned false y e = or_left y false e

  -- ---- value methods stop nothing

  one_is : (a b : ℕ) → IsValueMethod S a ⊎ IsValueMethod S b → (r.value a || r.value b) ≡ true
  one_is a b (inl h) = or_left (r.value a) (r.value b) (is_a_value S a h)
  one_is a b (inr h) = or_right (r.value a) (r.value b) (is_a_value S b h)

  no_pair : (a b : ℕ) → IsValueMethod S a ⊎ IsValueMethod S b → r.preempts a b ≡ true → ⊥
  no_pair a b (inl v) h = no_rule S a (is_a_value S a v) (scheduled.named a b h).0
  no_pair a b (inr v) h = no_rule S b (is_a_value S b v) (scheduled.named a b h).1

  no_stop : (a b : ℕ) → IsValueMethod S a ⊎ IsValueMethod S b → ¬ StopsIn S made a b
  no_stop a b some (inl h) = no_clash a b (one_is a b some) h.1
  no_stop a b some (inr h) = no_pair a b some h

  pub quiet : AreQuiet S made
  quiet = record {
    stops_none = λ v n h. false_from_ne_true (stops_in made v n) (λ k. no_stop v n (inl h) (stops_true S made scheduled v n k));
    stopped_by_none = λ v n h. false_from_ne_true (stops_in made n v) (λ k. no_stop n v (inr h) (stops_true S made scheduled n v k));
  }
