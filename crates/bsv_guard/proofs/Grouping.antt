-- A call that is added is in its group, and those that was in one still do.
use Rattle.std.proofs.Common.{◌≡◌, ◌∙◌, ℕ, ◌+◌, ◌<◌, ◌≢◌, List, [], ◌∷◌, ◌++◌, length, get_or, Some, sym, ap, subst, arith, ◌⊎◌, inl, inr}
use Rattle.std.specs.Prelude.{slice_get}
use Rattle.std.proofs.Math.ListN.{length-set, length-append, get_or-append}
use Rattle.std.proofs.Math.Seq.{get_or-append_seam}
use Rattle.std.proofs.lemmas.List.{get_or-set_same, get_or-set_other}
use Rattle.std.proofs.lemmas.Bool.{cases_order}
use Rattle.std.proofs.lemmas.Option.{same_Some}
use Rattle.bsv_design.specs.declared.element.Call.{Call}
use Rattle.bsv_guard.specs.Groups.{place, group_of, StandsIn, added}

still_in : (js : List ℕ) (x j : ℕ) → StandsIn js j → StandsIn (js ++ x ∷ []) j
still_in js x j h = record {
  at = h.at;
  within = let l : length (js ++ x ∷ []) ≡ length js + 1 = length-append js (x ∷ []) in let w : h.at < length js = h.within in omega arith;
  is = get_or-append js (x ∷ []) 0 h.at h.within ∙ h.is;
}

last_in : (js : List ℕ) (x : ℕ) → StandsIn (js ++ x ∷ []) x
last_in js x = record {
  at = length js;
  within = let l : length (js ++ x ∷ []) ≡ length js + 1 = length-append js (x ∷ []) in omega arith;
  is = get_or-append_seam js x [] 0;
}

-- in each group as it is after the change
at_same : (gs : List (List ℕ)) (at n : ℕ) → at < length gs → get_or (added gs at n) at [] ≡ get_or gs at [] ++ n ∷ []
at_same gs at n h = get_or-set_same gs at (get_or gs at [] ++ n ∷ []) [] h

at_other : (gs : List (List ℕ)) (at n k : ℕ) → k ≢ at → get_or (added gs at n) k [] ≡ get_or gs k []
at_other gs at n k h = get_or-set_other gs at k (get_or gs at [] ++ n ∷ []) [] h

still_at : (gs : List (List ℕ)) (at n k j : ℕ) → at < length gs → StandsIn (get_or gs k []) j → StandsIn (get_or (added gs at n) k []) j
still_at gs at n k j within h = of (cases_order k at) where
  of : (k ≡ at) ⊎ ((k < at) ⊎ (at < k)) → StandsIn (get_or (added gs at n) k []) j
  of (inl e) =
      let F : ℕ → Type 0 = λ i. StandsIn (get_or gs i []) j → StandsIn (get_or (added gs at n) i []) j in
      subst F (sym e) (λ s. subst (λ js. StandsIn js j) (sym (at_same gs at n within)) (still_in _ n j s)) h
  of (inr (inl e)) = let ne : k ≢ at = omega arith in subst (λ js. StandsIn js j) (sym (at_other gs at n k ne)) h
  of (inr (inr e)) = let ne : k ≢ at = omega arith in subst (λ js. StandsIn js j) (sym (at_other gs at n k ne)) h

-- ---- one call more

abbrev pub AreIn : List Call → ℕ → List (List ℕ) → Type 0
AreIn cs n gs = (j : ℕ) (c : Call) → j < n → slice_get cs j ≡ Some c → StandsIn (group_of gs c.part c.method) j

pub one_more : (cs : List Call) (n : ℕ) (one : Call) (count : ℕ) (gs hs : List (List ℕ)) → length gs ≡ count → place one.part one.method count < count
    → slice_get cs n ≡ Some one → hs ≡ added gs (place one.part one.method count) n → AreIn cs n gs → record { count : length hs ≡ count; all : AreIn cs (n + 1) hs }
one_more cs n one count gs hs long within here is all = record { count = long'; all = λ j c. each j c } where
  at : ℕ
  at = place one.part one.method count

  long' : length hs ≡ count
  long' = ap length is ∙ (length-set gs at _ ∙ long)

  inside : at < length gs
  inside = subst (λ m. at < m) (sym long) within

  -- in the groups that are counted so
  In : List (List ℕ) → Call → ℕ → Type 0
  In ks c j = StandsIn (get_or ks (place c.part c.method count) []) j

  out : (c : Call) (j : ℕ) → In (added gs at n) c j → StandsIn (group_of hs c.part c.method) j
  out c j s =
      let t : In hs c j = subst (λ ks. In ks c j) (sym is) s in
      subst (λ m. StandsIn (get_or hs (place c.part c.method m) []) j) (sym long') t

  old : (c : Call) (j : ℕ) → StandsIn (group_of gs c.part c.method) j → In gs c j
  old c j s = subst (λ m. StandsIn (get_or gs (place c.part c.method m) []) j) long s

  last : (c : Call) (j : ℕ) → j ≡ n → slice_get cs j ≡ Some c → In (added gs at n) c j
  last c j e s =
      let same : one ≡ c = same_Some one c (sym here ∙ (ap (slice_get cs) (sym e) ∙ s)) in
      let s0 : In (added gs at n) one n = subst (λ js. StandsIn js n) (sym (at_same gs at n inside)) (last_in _ n) in
      subst (λ i. In (added gs at n) c i) (sym e) (subst (λ d. In (added gs at n) d n) same s0)

  each : (j : ℕ) (c : Call) → j < n + 1 → slice_get cs j ≡ Some c → StandsIn (group_of hs c.part c.method) j
  each j c h s = of (cases_order j n) where
    of : (j ≡ n) ⊎ ((j < n) ⊎ (n < j)) → StandsIn (group_of hs c.part c.method) j
    of (inl e) = out c j (last c j e s)
    of (inr (inl e)) = out c j (still_at gs at n _ j inside (old c j (all j c e s)))
    of (inr (inr e)) = absurd (omega arith)
