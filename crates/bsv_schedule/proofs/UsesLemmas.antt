-- Uses each once say the same as calls: which elements clash, and which feed which.
use Rattle.std.proofs.Common.{◌≡◌, ◌∙◌, ℕ, ◌<◌, ◌⊎◌, inl, inr, Bool, true, false, not, ◌&&◌, ◌||◌, List, [], ◌∷◌, ◌++◌, length, get_or, map, refl, zero, suc, sym, ap, subst, arith, Some, None}
use Rattle.std.proofs.lemmas.Bool.{and_parts, and_from, or_left, or_right}
use Rattle.std.specs.Prelude.{IsTrue, IsFalse, ◌==◌, slice_get, Option}
use Rattle.std.specs.List.{list_all, list_any}
use Rattle.bsv_design.specs.declared.element.Call.{Call}
use Rattle.bsv_design.specs.declared.kind.Kind.{Kind}
use Rattle.bsv_design.specs.design.Bodies.{Target, target}
use Rattle.bsv_design.specs.scheme.Relations.{goes, feeds, for_all, for_some, may_precede, may_precede_of, is_seen, sees_of}
use Rattle.bsv_design.specs.scheme.Schemes.{Scheme}
use Rattle.bsv_design.specs.design.Widths.{call_named}
use Rattle.bsv_schedule.specs.declared.relating.related.Relation.{Relation}
use Rattle.bsv_schedule.specs.declared.relating.related.Relation.TheVariants as relation
use Rattle.bsv_schedule.specs.declared.relating.usage.Use.{Use}
use Rattle.bsv_schedule.specs.relating.Related.{names_method, related, on_one_part}
use Rattle.bsv_schedule.specs.relating.Uses.{target_of, Among, UseSame, Meets, IsNoted, use_named, calls_meet}
use Rattle.bsv_schedule.proofs.Truths.{same_truths}

-- ---- members of lists

pub among_left : {X : Type 0} (xs ys : List X) (x : X) → Among xs x → Among (xs ++ ys) x
among_left [] ys x h = absurd h
among_left (z ∷ xs) ys x (inl h) = inl h
among_left (z ∷ xs) ys x (inr h) = inr (among_left xs ys x h)

pub among_right : {X : Type 0} (xs ys : List X) (x : X) → Among ys x → Among (xs ++ ys) x
among_right [] ys x h = h
among_right (z ∷ xs) ys x h = inr (among_right xs ys x h)

pub among_parts : {X : Type 0} (xs ys : List X) (x : X) → Among (xs ++ ys) x → Among xs x ⊎ Among ys x
among_parts [] ys x h = inr h
among_parts (z ∷ xs) ys x (inl h) = inl (inl h)
among_parts (z ∷ xs) ys x (inr h) = elim (among_parts xs ys x h) [ inl k ↦ inl (inr k) | inr k ↦ inr k ]

pub among_map : {X Y : Type 0} (f : X → Y) (xs : List X) (x : X) → Among xs x → Among (map f xs) (f x)
among_map f [] x h = absurd h
among_map f (z ∷ xs) x (inl h) = inl (ap f h)
among_map f (z ∷ xs) x (inr h) = inr (among_map f xs x h)

pub of_map : {X Y : Type 0} (f : X → Y) (xs : List X) (y : Y) → Among (map f xs) y → (x : X) × Among xs x × (y ≡ f x)
of_map f [] y h = absurd h
of_map f (z ∷ xs) y (inl h) = (z, inl refl, h)
of_map f (z ∷ xs) y (inr h) = let k = of_map f xs y h in (k.0, inr k.1, k.2)

any_step : {X : Type 0} (f : X → Bool) (x : X) (xs : List X) → (IsTrue (list_any f xs) → (y : X) × Among xs y × IsTrue (f y))
    → (b : Bool) → f x ≡ b → IsTrue (b || list_any f xs) → (y : X) × Among (x ∷ xs) y × IsTrue (f y)
any_step f x xs g true e k = (x, inl refl, e)
any_step f x xs g false e k = let p = g k in (p.0, inr p.1, p.2)

pub any_of : {X : Type 0} (f : X → Bool) (xs : List X) → IsTrue (list_any f xs) → (x : X) × Among xs x × IsTrue (f x)
any_of f [] h = cc
any_of f (x ∷ xs) h = any_step f x xs (any_of f xs) (f x) refl h

any_has : {X : Type 0} (f : X → Bool) (xs : List X) (x : X) → Among xs x → IsTrue (f x) → IsTrue (list_any f xs)
any_has f [] x h k = absurd h
any_has f (y ∷ xs) x (inl e) k = or_left (f y) (list_any f xs) (subst (λ z. IsTrue (f z)) e k)
any_has f (y ∷ xs) x (inr h) k = or_right (f y) (list_any f xs) (any_has f xs x h k)

pub all_has : {X : Type 0} (f : X → Bool) (xs : List X) (x : X) → IsTrue (list_all f xs) → Among xs x → IsTrue (f x)
all_has f [] x h k = absurd k
all_has f (y ∷ xs) x h (inl e) = subst (λ z. IsTrue (f z)) (sym e) (and_parts (f y) (list_all f xs) h).0
all_has f (y ∷ xs) x h (inr k) = all_has f xs x (and_parts (f y) (list_all f xs) h).1 k

pub all_from : {X : Type 0} (f : X → Bool) (xs : List X) → ((x : X) → Among xs x → IsTrue (f x)) → IsTrue (list_all f xs)
all_from f [] h = refl
all_from f (y ∷ xs) h = and_from (f y) (list_all f xs) (h y (inl refl)) (all_from f xs (λ x k. h x (inr k)))

-- ---- noted uses

pub noted_again : (us : List Use) (part m : ℕ) → Among (map target_of us) (record { part = part; method = m }) → IsNoted us part m us
noted_again us part m h t = (
  λ k. inr k,
  λ k. elim k [ inl e ↦ subst (Among (map target_of us)) (sym e) h | inr k ↦ k ],
)

map_snoc : (us : List Use) (u : Use) → map target_of (us ++ u ∷ []) ≡ map target_of us ++ target_of u ∷ []
map_snoc [] u = refl
map_snoc (v ∷ us) u = ap (λ z. target_of v ∷ z) (map_snoc us u)

pub noted_new : (us vs : List Use) (part m : ℕ) → vs ≡ us ++ (record { part = part; method = m }) ∷ [] → IsNoted us part m vs
noted_new us vs part m is t =
    let u : Use = record { part = part; method = m } in
    let e : map target_of vs ≡ map target_of us ++ target_of u ∷ [] = ap (map target_of) is ∙ map_snoc us u in (
      λ h. elim (among_parts (map target_of us) (target_of u ∷ []) t (subst (λ ts. Among ts t) e h)) [
        | inl k ↦ inr k
        | inr (inl k) ↦ inl k
        | inr (inr k) ↦ absurd k
      ],
      λ h. subst (λ ts. Among ts t) (sym e) (elim h [
        | inl k ↦ among_right (map target_of us) (target_of u ∷ []) t (inl k)
        | inr k ↦ among_left (map target_of us) (target_of u ∷ []) t k
      ]),
    )

pub noted_same : (us vs : List Use) (cs : List Call) (c : Call) → UseSame (map target_of us) (map target cs) → IsNoted us c.part c.method vs
    → UseSame (map target_of vs) (map target (cs ++ c ∷ []))
noted_same us vs cs c s n t = (
  λ h. subst (λ ts. Among ts t) (sym (calls_snoc cs)) (elim ((n t).0 h) [
    | inl k ↦ among_right (map target cs) (target c ∷ []) t (inl k)
    | inr k ↦ among_left (map target cs) (target c ∷ []) t ((s t).0 k)
  ]),
  λ h. (n t).1 (elim (among_parts (map target cs) (target c ∷ []) t (subst (λ ts. Among ts t) (calls_snoc cs) h)) [
    | inl k ↦ inr ((s t).1 k)
    | inr (inl k) ↦ inl k
    | inr (inr k) ↦ absurd k
  ]),
) where
  calls_snoc : (ds : List Call) → map target (ds ++ c ∷ []) ≡ map target ds ++ target c ∷ []
  calls_snoc [] = refl
  calls_snoc (d ∷ ds) = ap (λ z. target d ∷ z) (calls_snoc ds)

-- what is used is named, as the calls are
pub same_named : (ks : List Kind) (us : List Use) (cs : List Call) → UseSame (map target_of us) (map target cs) → IsTrue (list_all (call_named ks) cs)
    → IsTrue (list_all (use_named ks) us)
same_named ks us cs s h = all_from (use_named ks) us (λ u k.
    let p = of_map target cs (target_of u) ((s (target_of u)).0 (among_map target_of us u k)) in
    let n : IsTrue (call_named ks p.0) = all_has (call_named ks) cs p.0 h p.1 in
    subst (λ t. IsTrue (names_method ks t.part t.method)) (sym p.2) n)

-- ---- uses that meet

module _ (w : Relation) (ks : List Kind) where
  pub calls_meets : (cs ds : List Call) → IsTrue (calls_meet w ks cs ds) → Meets w ks (map target cs) (map target ds)
  calls_meets cs ds h =
      let p = any_of (λ c. list_any (λ d. on_one_part w ks (target c) (target d)) ds) cs h in
      let q = any_of (λ d. on_one_part w ks (target p.0) (target d)) ds p.2 in
      record {
        first = target p.0;
        second = target q.0;
        in_first = among_map target cs p.0 p.1;
        in_second = among_map target ds q.0 q.1;
        meet = q.2;
      }

  pub meets_calls : (cs ds : List Call) → Meets w ks (map target cs) (map target ds) → IsTrue (calls_meet w ks cs ds)
  meets_calls cs ds h =
      let p = of_map target cs h.first h.in_first in
      let q = of_map target ds h.second h.in_second in
      any_has (λ c. list_any (λ d. on_one_part w ks (target c) (target d)) ds) cs p.0 p.1
      (any_has (λ d. on_one_part w ks (target p.0) (target d)) ds q.0 q.1
      (subst (λ t. IsTrue (on_one_part w ks t (target q.0))) p.2 (subst (λ t. IsTrue (on_one_part w ks h.first t)) q.2 h.meet)))

  pub meets_same : (xs ys us vs : List Target) → UseSame xs us → UseSame ys vs → Meets w ks xs ys → Meets w ks us vs
  meets_same xs ys us vs s t h = record {
    first = h.first;
    second = h.second;
    in_first = (s h.first).0 h.in_first;
    in_second = (t h.second).0 h.in_second;
    meet = h.meet;
  }

-- ---- and what the relations say

some_step : (f : Target → Bool) (x : Target) (xs : List Target) → (IsTrue (for_some f xs) → (y : Target) × Among xs y × IsTrue (f y))
    → (b : Bool) → f x ≡ b → IsTrue (b || for_some f xs) → (y : Target) × Among (x ∷ xs) y × IsTrue (f y)
some_step f x xs g true e k = (x, inl refl, e)
some_step f x xs g false e k = let p = g k in (p.0, inr p.1, p.2)

some_of : (f : Target → Bool) (xs : List Target) → IsTrue (for_some f xs) → (x : Target) × Among xs x × IsTrue (f x)
some_of f [] h = cc
some_of f (x ∷ xs) h = some_step f x xs (some_of f xs) (f x) refl h

some_has : (f : Target → Bool) (xs : List Target) (x : Target) → Among xs x → IsTrue (f x) → IsTrue (for_some f xs)
some_has f [] x h k = absurd h
some_has f (y ∷ xs) x (inl e) k = or_left (f y) (for_some f xs) (subst (λ z. IsTrue (f z)) e k)
some_has f (y ∷ xs) x (inr h) k = or_right (f y) (for_some f xs) (some_has f xs x h k)

fails_step : (f : Target → Bool) (x : Target) (xs : List Target) → (IsFalse (for_all f xs) → (y : Target) × Among xs y × IsFalse (f y))
    → (b : Bool) → f x ≡ b → IsFalse (b && for_all f xs) → (y : Target) × Among (x ∷ xs) y × IsFalse (f y)
fails_step f x xs g false e k = (x, inl refl, e)
fails_step f x xs g true e k = let p = g k in (p.0, inr p.1, p.2)

fails_of : (f : Target → Bool) (xs : List Target) → IsFalse (for_all f xs) → (x : Target) × Among xs x × IsFalse (f x)
fails_of f [] h = cc
fails_of f (x ∷ xs) h = fails_step f x xs (fails_of f xs) (f x) refl h

and_left : (a b : Bool) → IsFalse a → IsFalse (a && b)
and_left false b h = refl
and_left true b h = cc

and_right : (a b : Bool) → IsFalse b → IsFalse (a && b)
and_right false b h = refl
and_right true b h = h

fails_has : (f : Target → Bool) (xs : List Target) (x : Target) → Among xs x → IsFalse (f x) → IsFalse (for_all f xs)
fails_has f [] x h k = absurd h
fails_has f (y ∷ xs) x (inl e) k = and_left (f y) (for_all f xs) (subst (λ z. IsFalse (f z)) e k)
fails_has f (y ∷ xs) x (inr h) k = and_right (f y) (for_all f xs) (fails_has f xs x h k)

clash_step : (same : Bool) (k : Option Kind) (m n : ℕ) → (not same || may_precede_of k m n) ≡ not (same && related relation.Clashes k m n)
clash_step false k m n = refl
clash_step true None m n = refl
clash_step true (Some k) m n = double _ where
  double : (b : Bool) → b ≡ not (not b)
  double true = refl
  double false = refl

precede_is : (ks : List Kind) (x y : Target) → may_precede ks x y ≡ not (on_one_part relation.Clashes ks x y)
precede_is ks x y = clash_step (x.part == y.part) (slice_get ks x.part) x.method y.method

not_true : (b : Bool) → IsFalse (not b) → IsTrue b
not_true true h = refl
not_true false h = cc

true_not : (b : Bool) → IsTrue b → IsFalse (not b)
true_not true h = refl
true_not false h = cc

seen_step : (same : Bool) (k : Option Kind) (m n : ℕ) → (same && sees_of k m n) ≡ (same && related relation.Feeds k m n)
seen_step same None m n = refl
seen_step same (Some k) m n = refl

module _ (S : Scheme) (a b : ℕ) where
  goes_meets : IsFalse (goes S a b) → Meets relation.Clashes S.kinds (S.uses a) (S.uses b)
  unfolding goes
  goes_meets h =
      let p = fails_of (λ x. for_all (may_precede S.kinds x) (S.uses b)) (S.uses a) h in
      let q = fails_of (may_precede S.kinds p.0) (S.uses b) p.2 in
      record {
        first = p.0;
        second = q.0;
        in_first = p.1;
        in_second = q.1;
        meet = not_true _ (sym (precede_is S.kinds p.0 q.0) ∙ q.2);
      }

  meets_goes : Meets relation.Clashes S.kinds (S.uses a) (S.uses b) → IsFalse (goes S a b)
  unfolding goes
  meets_goes h =
      fails_has (λ x. for_all (may_precede S.kinds x) (S.uses b)) (S.uses a) h.first h.in_first
      (fails_has (may_precede S.kinds h.first) (S.uses b) h.second h.in_second
      (precede_is S.kinds h.first h.second ∙ true_not _ h.meet))

  feeds_meets : IsTrue (feeds S a b) → Meets relation.Feeds S.kinds (S.uses a) (S.uses b)
  unfolding feeds
  feeds_meets h =
      let p = some_of (λ x. for_some (is_seen S.kinds x) (S.uses b)) (S.uses a) h in
      let q = some_of (is_seen S.kinds p.0) (S.uses b) p.2 in
      record {
        first = p.0;
        second = q.0;
        in_first = p.1;
        in_second = q.1;
        meet = sym (seen_step (p.0.part == q.0.part) (slice_get S.kinds p.0.part) p.0.method q.0.method) ∙ q.2;
      }

  meets_feeds : Meets relation.Feeds S.kinds (S.uses a) (S.uses b) → IsTrue (feeds S a b)
  unfolding feeds
  meets_feeds h =
      some_has (λ x. for_some (is_seen S.kinds x) (S.uses b)) (S.uses a) h.first h.in_first
      (some_has (is_seen S.kinds h.first) (S.uses b) h.second h.in_second
      (seen_step (h.first.part == h.second.part) (slice_get S.kinds h.first.part) h.first.method h.second.method ∙ h.meet))

  -- a test that is true exactly where uses clash
  pub goes_is : (r : Bool) → (IsTrue r → Meets relation.Clashes S.kinds (S.uses a) (S.uses b))
      → (Meets relation.Clashes S.kinds (S.uses a) (S.uses b) → IsTrue r) → not r ≡ goes S a b
  goes_is r f g = by r (goes S a b) (λ h. meets_goes (f h)) (λ h. g (goes_meets h)) where
    by : (r s : Bool) → (IsTrue r → IsFalse s) → (IsFalse s → IsTrue r) → not r ≡ s
    by true true f g = sym (f refl)
    by true false f g = refl
    by false true f g = refl
    by false false f g = sym (g refl)

  pub feeds_is : (r : Bool) → (IsTrue r → Meets relation.Feeds S.kinds (S.uses a) (S.uses b))
      → (Meets relation.Feeds S.kinds (S.uses a) (S.uses b) → IsTrue r) → r ≡ feeds S a b
  feeds_is r f g = same_truths r (feeds S a b) (λ h. meets_feeds (f h)) (λ h. g (feeds_meets h))

-- the same of the calls of two elements
module _ (S : Scheme) (a b : ℕ) (ks : List Kind) (cs ds : List Call) (kinds : S.kinds ≡ ks) (first : map target cs ≡ S.uses a) (second : map target ds ≡ S.uses b) where
  meets_of : (w : Relation) → IsTrue (calls_meet w ks cs ds) → Meets w S.kinds (S.uses a) (S.uses b)
  meets_of w h = subst (λ k. Meets w k (S.uses a) (S.uses b)) (sym kinds) (subst (λ us. Meets w ks us (S.uses b)) first
      (subst (λ vs. Meets w ks (map target cs) vs) second (calls_meets w ks cs ds h)))

  of_meets : (w : Relation) → Meets w S.kinds (S.uses a) (S.uses b) → IsTrue (calls_meet w ks cs ds)
  of_meets w h = meets_calls w ks cs ds (subst (λ vs. Meets w ks (map target cs) vs) (sym second)
      (subst (λ us. Meets w ks us (S.uses b)) (sym first) (subst (λ k. Meets w k (S.uses a) (S.uses b)) kinds h)))

  pub calls_go : not (calls_meet relation.Clashes ks cs ds) ≡ goes S a b
  calls_go = goes_is S a b (calls_meet relation.Clashes ks cs ds) (meets_of relation.Clashes) (of_meets relation.Clashes)

  pub calls_feed : calls_meet relation.Feeds ks cs ds ≡ feeds S a b
  calls_feed = feeds_is S a b (calls_meet relation.Feeds ks cs ds) (meets_of relation.Feeds) (of_meets relation.Feeds)

-- ---- members by their places

pub among_at : {X : Type 0} (xs : List X) (k : ℕ) (x : X) → k < length xs → x ≡ get_or xs k x → Among xs x
among_at [] k x l h = absurd (omega arith)
among_at (y ∷ xs) zero x l h = inl h
among_at (y ∷ xs) (suc k) x l h = inr (among_at xs k x (omega arith) h)

-- a call that names a method stands on a part
pub named_part : (ks : List Kind) (part m : ℕ) → IsTrue (names_method ks part m) → part < length ks
named_part [] part m h = cc
named_part (k ∷ ks) zero m h = omega arith
named_part (k ∷ ks) (suc part) m h = let l : part < length ks = named_part ks part m h in omega arith
