-- What pairs of calls of one element have in common that break the rule, and the first of them.
use Rattle.std.proofs.Common.{◌≡◌, ◌∙◌, ℕ, ◌+◌, ◌<◌, ◌≤◌, true, false, not, ◌&&◌, eqb, List, [], ◌∷◌, length, get_or, Some, refl, sym, ap, subst, arith, ◌⊎◌, inl, inr, IsTrue, zero, suc, eqb-true, ltb-true}
use Rattle.std.specs.Prelude.{slice_get}
use Rattle.std.specs.List.{list_all}
use Rattle.std.proofs.lemmas.Bool.{cases_order, not-true}
use Rattle.std.proofs.lemmas.Option.{same_Some}
use Rattle.bsv_lemmas.proofs.Truths.{both_right, both_left}
use Rattle.bsv_design.specs.declared.element.Call.{Call}
use Rattle.bsv_design.specs.declared.kind.Kind.{Kind}
use Rattle.bsv_design.specs.design.Branches.{apart}
use Rattle.bsv_design.specs.parts.Kinds.{kind_table}
use Rattle.bsv_design.specs.scheme.Relations.{may_stand}
use Rattle.bsv_design.specs.design.Widths.{has_method, call_named}
use Rattle.bsv_guard.specs.Groups.{AreGrouped, StandsIn, group_of}
use Rattle.bsv_guard.specs.Pairs.{breaks, IsPair, AreFree, IsFound, NoneAmong, NoneAfter, IsFirstAfter}

pub named_at : (ks : List Kind) (cs : List Call) (j : ℕ) (c : Call) → IsTrue (list_all (call_named ks) cs) → slice_get cs j ≡ Some c → call_named ks c ≡ true
named_at ks [] j c h e = absurd cc
named_at ks (x ∷ cs) zero c h e = let same : x ≡ c = same_Some x c e in subst (λ d. call_named ks d ≡ true) same (both_left _ _ h)
named_at ks (x ∷ cs) (suc j) c h e = named_at ks cs j c (both_right (call_named ks x) _ h) e

-- ---- two calls that break the rule

pub same_part : (ks : List Kind) (c d : Call) → breaks ks c d ≡ true → c.part ≡ d.part
same_part ks c d h = eqb-true _ _ (both_left (eqb c.part d.part) _ (both_left _ (not (may_stand (slice_get ks c.part) c.method d.method)) h))

may_not_stand : (ks : List Kind) (c d : Call) (k : Kind) → slice_get ks c.part ≡ Some k → breaks ks c d ≡ true → may_stand (Some k) c.method d.method ≡ false
may_not_stand ks c d k at h =
    subst (λ o. may_stand o c.method d.method ≡ false) at
    (not-true _ (both_right ((eqb c.part d.part) && not (apart c.branches d.branches)) _ h))

pub method_within : (ks : List Kind) (c d : Call) (k : Kind) → slice_get ks c.part ≡ Some k → breaks ks c d ≡ true → call_named ks d ≡ true → d.method < (kind_table k).methods
method_within ks c d k at h named =
    let same : slice_get ks d.part ≡ Some k = ap (slice_get ks) (sym (same_part ks c d h)) ∙ at in
    let it : has_method (Some k) d.method ≡ true = subst (λ o. has_method o d.method ≡ true) same named in
    ltb-true _ _ it

-- they call a method that may not be beside the first one's
pub stand_otherwise : (ks : List Kind) (c d : Call) (k : Kind) (m : ℕ) → slice_get ks c.part ≡ Some k → breaks ks c d ≡ true → may_stand (Some k) c.method m ≡ true → d.method ≡ m → ⊥
stand_otherwise ks c d k m at h stand is =
    let not_so : may_stand (Some k) c.method m ≡ false = subst (λ n. may_stand (Some k) c.method n ≡ false) is (may_not_stand ks c d k at h) in
    let differ : true ≡ false = sym stand ∙ not_so in
    absurd cc

-- a call of this method that is in no group of those looked at
pub not_among : (ks : List Kind) (cs : List Call) (gs : List (List ℕ)) (i j : ℕ) (c d : Call) (m : ℕ) → AreGrouped cs gs → NoneAmong ks cs i c (group_of gs c.part m)
    → slice_get cs j ≡ Some d → i < j → breaks ks c d ≡ true → d.method ≡ m → ⊥
not_among ks cs gs i j c d m grouped none at behind broken is =
    none s.at within d (subst (λ k. slice_get cs k ≡ Some d) (sym s_is) at) (subst (λ k. i < k) (sym s_is) behind) broken where
      s : StandsIn (group_of gs d.part d.method) j
      s = grouped j d at

      there : group_of gs d.part d.method ≡ group_of gs c.part m
      there = ap (λ p. group_of gs p d.method) (sym (same_part ks c d broken)) ∙ ap (group_of gs c.part) is

      within : s.at < length (group_of gs c.part m)
      within = subst (λ js. s.at < length js) there s.within

      s_is : get_or (group_of gs c.part m) s.at 0 ≡ j
      s_is = subst (λ js. get_or js s.at 0 ≡ j) there s.is

-- no call after the one call more
pub none_more : (ks : List Kind) (cs : List Call) (n : ℕ) (one : Call) → ((i : ℕ) (c : Call) → i < n → slice_get cs i ≡ Some c → NoneAfter ks cs i c)
    → slice_get cs n ≡ Some one → NoneAfter ks cs n one → (i : ℕ) (c : Call) → i < n + 1 → slice_get cs i ≡ Some c → NoneAfter ks cs i c
none_more ks cs n one before at here i c h is = of (cases_order i n) where
  of : (i ≡ n) ⊎ ((i < n) ⊎ (n < i)) → NoneAfter ks cs i c
  of (inl e) =
      let same : one ≡ c = same_Some one c (sym at ∙ (ap (slice_get cs) (sym e) ∙ is)) in
      subst (λ k. NoneAfter ks cs k c) (sym e) (subst (NoneAfter ks cs n) same here)
  of (inr (inl e)) = before i c e is
  of (inr (inr e)) = absurd (omega arith)

-- ---- all pairs

pub all_free : (ks : List Kind) (cs : List Call) → ((i : ℕ) (c : Call) → slice_get cs i ≡ Some c → NoneAfter ks cs i c) → AreFree ks cs
all_free ks cs h = λ i j c d p. h i c p.first j d p.second p.earlier p.broken

pub found : (ks : List Kind) (cs : List Call) (i : ℕ) (c : Call) (m : ℕ) → ((k : ℕ) (d : Call) → k < i → slice_get cs k ≡ Some d → NoneAfter ks cs k d)
    → slice_get cs i ≡ Some c → IsFirstAfter ks cs i c m → IsFound ks cs c.part c.method m
found ks cs i c m before at f = record {
  earlier = i;
  later = f.later;
  one = c;
  other = f.other;
  pair = record { first = at; second = f.at; earlier = f.behind; broken = f.broken };
  first = λ k l d e p. each k l d e p (cases_order i k);
  part_is = refl;
  first_is = refl;
  second_is = f.method_is;
} where
  each : (k l : ℕ) (d e : Call) → IsPair ks cs k l d e → (i ≡ k) ⊎ ((i < k) ⊎ (k < i)) → (i < k) ⊎ ((i ≡ k) × (f.later ≤ l))
  each k l d e p (inl is) =
      let same : d ≡ c = same_Some d c (sym p.first ∙ (ap (slice_get cs) (sym is) ∙ at)) in
      inr (is, f.first l e p.second (subst (λ n. n < l) (sym is) p.earlier) (subst (λ x. breaks ks x e ≡ true) same p.broken))
  each k l d e p (inr (inl less)) = inl less
  each k l d e p (inr (inr more)) = absurd (before k d more p.first l e p.second p.earlier p.broken)
