-- Calls that are in later and later arms are in different arms of one choice, each with each.
use Rattle.std.proofs.Common.{◌≡◌, ◌∙◌, ℕ, zero, suc, ◌<◌, ◌≢◌, Bool, true, false, not, ◌&&◌, ◌||◌, eqb, ltb, List, [], ◌∷◌, length, get_or, map, Some, refl, sym, ap, subst, arith, ◌⊎◌, inl, inr, eqb-true, ltb-true, eq-eqb, ne_eqb, lt-ltb}
use Rattle.std.specs.Prelude.{slice_get}
use Rattle.std.proofs.lemmas.Bool.{cases_order, or_left, and_from, or_right}
use Rattle.std.proofs.lemmas.List.{length-map, get_or-map}
use Rattle.bsv_lemmas.proofs.Truths.{both_left, both_right}
use Rattle.bsv_design.specs.declared.element.Call.{Call}
use Rattle.bsv_design.specs.declared.kind.Kind.{Kind}
use Rattle.bsv_design.specs.declared.node.Branch.{Branch}
use Rattle.bsv_design.specs.design.Branches.{apart, other_arm, other_arm_of}
use Rattle.bsv_design.specs.scheme.Relations.{may_stand}
use Rattle.bsv_guard.specs.Groups.{AreGrouped, StandsIn, group_of, place}
use Rattle.bsv_guard.specs.Pairs.{breaks}
use Rattle.bsv_guard.specs.Spread.{in_later_arm, arms_in, arms_of, spread_after, is_spread, spread_of}
use Rattle.bsv_guard.proofs.Searching.{same_part, stand_otherwise}

-- ---- later arms

record IsLater (a b : Branch) (others bs : List Branch) : Type 0 where
  choice : a.choice ≡ b.choice
  then : (a.arm < b.arm) ⊎ ((a.arm ≡ b.arm) × (in_later_arm others bs ≡ true))

either : (m n : ℕ) (r : Bool) → (ltb m n || (eqb m n && r)) ≡ true → (m < n) ⊎ ((m ≡ n) × (r ≡ true))
either m n r h = of (ltb m n) refl where
  of : (b : Bool) → ltb m n ≡ b → (m < n) ⊎ ((m ≡ n) × (r ≡ true))
  of true e = inl (ltb-true m n e)
  of false e =
      let rest : (eqb m n && r) ≡ true = subst (λ b. (b || (eqb m n && r)) ≡ true) e h in
      inr (eqb-true m n (both_left _ r rest), both_right (eqb m n) r rest)

later_parts : (a b : Branch) (others bs : List Branch) → in_later_arm (a ∷ others) (b ∷ bs) ≡ true → IsLater a b others bs
later_parts a b others bs h = record {
  choice = eqb-true _ _ (both_left (eqb a.choice b.choice) _ h);
  then = either a.arm b.arm (in_later_arm others bs) (both_right (eqb a.choice b.choice) _ h);
}

later_made : (a b : Branch) (others bs : List Branch) → IsLater a b others bs → in_later_arm (a ∷ others) (b ∷ bs) ≡ true
later_made a b others bs h = and_from (eqb a.choice b.choice) _ (eq-eqb _ _ h.choice) (of h.then) where
  of : (a.arm < b.arm) ⊎ ((a.arm ≡ b.arm) × (in_later_arm others bs ≡ true)) → (ltb a.arm b.arm || (eqb a.arm b.arm && in_later_arm others bs)) ≡ true
  of (inl less) = or_left _ _ (lt-ltb _ _ less)
  of (inr (same, rest)) = or_right (ltb a.arm b.arm) _ (and_from (eqb a.arm b.arm) _ (eq-eqb _ _ same) rest)

onward : (a b c : Branch) (xs ys zs : List Branch) → (in_later_arm xs ys ≡ true → in_later_arm ys zs ≡ true → in_later_arm xs zs ≡ true) → IsLater a b xs ys → IsLater b c ys zs → IsLater a c xs zs
onward a b c xs ys zs inner h k = record { choice = h.choice ∙ k.choice; then = of h.then k.then } where
  of : (a.arm < b.arm) ⊎ ((a.arm ≡ b.arm) × (in_later_arm xs ys ≡ true)) → (b.arm < c.arm) ⊎ ((b.arm ≡ c.arm) × (in_later_arm ys zs ≡ true)) → (a.arm < c.arm) ⊎ ((a.arm ≡ c.arm) × (in_later_arm xs zs ≡ true))
  of (inl p) (inl q) = inl (omega arith)
  of (inl p) (inr (q, r)) = inl (omega arith)
  of (inr (p, r)) (inl q) = inl (omega arith)
  of (inr (p, r)) (inr (q, s)) = inr (p ∙ q, inner r s)

later_onward : (xs ys zs : List Branch) → in_later_arm xs ys ≡ true → in_later_arm ys zs ≡ true → in_later_arm xs zs ≡ true
later_onward [] ys zs h k = h
later_onward (a ∷ xs) [] zs h k = absurd cc
later_onward (a ∷ xs) (b ∷ ys) [] h k = absurd cc
later_onward (a ∷ xs) (b ∷ ys) (c ∷ zs) h k =
    later_made a c xs zs (onward a b c xs ys zs (later_onward xs ys zs) (later_parts a b xs ys h) (later_parts b c ys zs k))

-- ---- different arms

more_of : (a b : Branch) (xs ys : List Branch) → (apart xs ys ≡ true → apart xs (b ∷ ys) ≡ true) → (t : Bool) → other_arm_of a ys ≡ t → apart (a ∷ xs) ys ≡ true → apart (a ∷ xs) (b ∷ ys) ≡ true
more_of a b xs ys inner true e h = or_left (other_arm a b || other_arm_of a ys) _ (or_right (other_arm a b) _ e)
more_of a b xs ys inner false e h = or_right (other_arm a b || other_arm_of a ys) _ (inner (subst (λ t. (t || apart xs ys) ≡ true) e h))

apart_more : (xs ys : List Branch) (b : Branch) → apart xs ys ≡ true → apart xs (b ∷ ys) ≡ true
apart_more [] ys b h = h
apart_more (a ∷ xs) ys b h = more_of a b xs ys (apart_more xs ys b) (other_arm_of a ys) refl h

differ : (a b : Branch) → a.choice ≡ b.choice → a.arm ≢ b.arm → other_arm a b ≡ true
differ a b same ne = and_from (eqb a.choice b.choice) _ (eq-eqb _ _ same) (ap not (ne_eqb a.arm b.arm ne))

apart_here : (a b : Branch) (xs ys : List Branch) → other_arm a b ≡ true → apart (a ∷ xs) (b ∷ ys) ≡ true
apart_here a b xs ys h = or_left (other_arm a b || other_arm_of a ys) _ (or_left (other_arm a b) _ h)

apart_after : (a b : Branch) (xs ys : List Branch) → apart xs ys ≡ true → apart (a ∷ xs) (b ∷ ys) ≡ true
apart_after a b xs ys h = or_right (other_arm a b || other_arm_of a ys) _ (apart_more xs ys b h)

both_of : (a b : Branch) (xs ys : List Branch) → (in_later_arm xs ys ≡ true → (apart xs ys ≡ true) × (apart ys xs ≡ true)) → a.choice ≡ b.choice
    → (a.arm < b.arm) ⊎ ((a.arm ≡ b.arm) × (in_later_arm xs ys ≡ true)) → (apart (a ∷ xs) (b ∷ ys) ≡ true) × (apart (b ∷ ys) (a ∷ xs) ≡ true)
both_of a b xs ys inner same (inl less) =
    let there : a.arm ≢ b.arm = omega arith in
    let back : b.arm ≢ a.arm = omega arith in
    (apart_here a b xs ys (differ a b same there), apart_here b a ys xs (differ b a (sym same) back))
both_of a b xs ys inner same (inr (arm, rest)) = let h = inner rest in (apart_after a b xs ys h.0, apart_after b a ys xs h.1)

both_apart : (xs ys : List Branch) → in_later_arm xs ys ≡ true → (apart xs ys ≡ true) × (apart ys xs ≡ true)
both_apart [] ys h = absurd cc
both_apart (a ∷ xs) [] h = absurd cc
both_apart (a ∷ xs) (b ∷ ys) h = let p = later_parts a b xs ys h in both_of a b xs ys (both_apart xs ys) p.choice p.then

-- ---- calls of a group

first_before : (cs : List Call) (i : ℕ) (js : List ℕ) (k : ℕ) → spread_after cs i js ≡ true → k < length js → in_later_arm (arms_of cs i) (arms_of cs (get_or js k 0)) ≡ true
first_before cs i [] k h within = absurd (omega arith)
first_before cs i (j ∷ js) zero h within = both_left _ (spread_after cs j js) h
first_before cs i (j ∷ js) (suc k) h within =
    later_onward (arms_of cs i) (arms_of cs j) (arms_of cs (get_or js k 0)) (both_left _ (spread_after cs j js) h)
    (first_before cs j js k (both_right (in_later_arm (arms_of cs i) (arms_of cs j)) _ h) (omega arith))

rest_spread : (cs : List Call) (j : ℕ) (js : List ℕ) → is_spread cs (j ∷ js) ≡ true → is_spread cs js ≡ true
rest_spread cs j [] h = refl
rest_spread cs j (k ∷ js) h = both_right (in_later_arm (arms_of cs j) (arms_of cs k)) _ h

each_before : (cs : List Call) (js : List ℕ) (k l : ℕ) → is_spread cs js ≡ true → k < l → l < length js → in_later_arm (arms_of cs (get_or js k 0)) (arms_of cs (get_or js l 0)) ≡ true
each_before cs [] k l h less within = absurd (omega arith)
each_before cs (j ∷ js) k zero h less within = absurd (omega arith)
each_before cs (j ∷ js) zero (suc l) h less within = first_before cs j js l h (omega arith)
each_before cs (j ∷ js) (suc k) (suc l) h less within = each_before cs js k l (rest_spread cs j js h) (omega arith) (omega arith)

-- two calls of one group
group_apart : (cs : List Call) (js : List ℕ) (i j : ℕ) (c d : Call) → is_spread cs js ≡ true → StandsIn js i → StandsIn js j → slice_get cs i ≡ Some c → slice_get cs j ≡ Some d → i < j
    → apart c.branches d.branches ≡ true
group_apart cs js i j c d h s t first second less = of (cases_order s.at t.at) where
  arms : (k : ℕ) (x : Call) (u : StandsIn js k) → slice_get cs k ≡ Some x → arms_of cs (get_or js u.at 0) ≡ x.branches
  arms k x u at = ap (arms_of cs) u.is ∙ ap arms_in at

  of : (s.at ≡ t.at) ⊎ ((s.at < t.at) ⊎ (t.at < s.at)) → apart c.branches d.branches ≡ true
  of (inl same) = let e : i ≡ j = sym s.is ∙ (ap (λ k. get_or js k 0) same ∙ t.is) in absurd (omega arith)
  of (inr (inl before)) =
      let l = both_apart (arms_of cs (get_or js s.at 0)) (arms_of cs (get_or js t.at 0)) (each_before cs js s.at t.at h before t.within) in
      subst (λ p. apart p d.branches ≡ true) (arms i c s first) (subst (λ q. apart (arms_of cs (get_or js s.at 0)) q ≡ true) (arms j d t second) l.0)
  of (inr (inr behind)) =
      let l = both_apart (arms_of cs (get_or js t.at 0)) (arms_of cs (get_or js s.at 0)) (each_before cs js t.at s.at h behind s.within) in
      subst (λ p. apart p d.branches ≡ true) (arms i c s first) (subst (λ q. apart (arms_of cs (get_or js s.at 0)) q ≡ true) (arms j d t second) l.1)

not_apart : (ks : List Kind) (c d : Call) → breaks ks c d ≡ true → apart c.branches d.branches ≡ false
not_apart ks c d h = of (apart c.branches d.branches) (both_right (eqb c.part d.part) _ (both_left _ (not (may_stand (slice_get ks c.part) c.method d.method)) h)) where
  of : (b : Bool) → not b ≡ true → b ≡ false
  of true e = absurd cc
  of false e = refl

-- what is told of all groups, of the group of a method
of_group : (cs : List Call) (gs : List (List ℕ)) (ss : List Bool) (part m : ℕ) → ss ≡ map (is_spread cs) gs → 0 < length gs → spread_of ss part m ≡ true → is_spread cs (group_of gs part m) ≡ true
of_group cs gs ss part m are some h =
    let within : place part m (length gs) < length gs = omega arith in
    let long : length ss ≡ length gs = ap length are ∙ length-map gs (is_spread cs) in
    let told : get_or (map (is_spread cs) gs) (place part m (length gs)) false ≡ true =
    subst (λ xs. get_or xs (place part m (length gs)) false ≡ true) are (subst (λ n. get_or ss (place part m n) false ≡ true) long h) in
    sym (get_or-map (is_spread cs) gs (place part m (length gs)) [] false within) ∙ told

-- a call after another one, of a method that is free of it
pub free_of : (ks : List Kind) (cs : List Call) (gs : List (List ℕ)) (ss : List Bool) (i j : ℕ) (c d : Call) (k : Kind) (m : ℕ) → AreGrouped cs gs → ss ≡ map (is_spread cs) gs → 0 < length gs
    → slice_get cs i ≡ Some c → slice_get cs j ≡ Some d → i < j → slice_get ks c.part ≡ Some k → breaks ks c d ≡ true
    → (may_stand (Some k) c.method m || (eqb c.method m && spread_of ss c.part m)) ≡ true → d.method ≡ m → ⊥
free_of ks cs gs ss i j c d k m grouped are some first second less at broken free is = of (may_stand (Some k) c.method m) refl where
  both : (eqb c.method m && spread_of ss c.part m) ≡ true → apart c.branches d.branches ≡ true
  both h =
      let own : c.method ≡ m = eqb-true _ _ (both_left (eqb c.method m) _ h) in
      let spread = of_group cs gs ss c.part m are some (both_right (eqb c.method m) _ h) in
      let here : StandsIn (group_of gs c.part m) i = subst (λ n. StandsIn (group_of gs c.part n) i) own (grouped i c first) in
      let there : StandsIn (group_of gs d.part m) j = subst (λ n. StandsIn (group_of gs d.part n) j) is (grouped j d second) in
      let with_it : StandsIn (group_of gs c.part m) j = subst (λ p. StandsIn (group_of gs p m) j) (sym (same_part ks c d broken)) there in
      group_apart cs (group_of gs c.part m) i j c d spread here with_it first second less

  of : (b : Bool) → may_stand (Some k) c.method m ≡ b → ⊥
  of true e = stand_otherwise ks c d k m at broken e is
  of false e =
      let yes : apart c.branches d.branches ≡ true = both (subst (λ b. (b || (eqb c.method m && spread_of ss c.part m)) ≡ true) e free) in
      let no : apart c.branches d.branches ≡ false = not_apart ks c d broken in
      let impossible : true ≡ false = sym yes ∙ no in
      absurd cc
