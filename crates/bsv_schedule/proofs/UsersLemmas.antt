-- What is noted of the users of parts, one more noted, and what a use meets.
use Rattle.std.proofs.Common.{◌≡◌, ◌≢◌, ◌∙◌, ℕ, zero, suc, ◌<◌, ◌⊎◌, inl, inr, List, [], ◌∷◌, ◌++◌, length, map, refl, sym, ap, subst, arith, length-append, Some}
use Rattle.std.proofs.Common.{get_or-set_same, get_or-set_other}
use Rattle.std.proofs.lemmas.Bool.{cases_eq, cases_lt}
use Rattle.std.proofs.lemmas.Option.{same_Some, slice_get_within}
use Rattle.std.specs.Prelude.{slice_get, slice_index_or}
use Rattle.bsv_lemmas.proofs.Places.{at_left, at_middle, item_there, stays_left}
use Rattle.bsv_design.specs.declared.element.Element.{Element}
use Rattle.bsv_design.specs.declared.kind.Kind.{Kind}
use Rattle.bsv_design.specs.design.Bodies.{target}
use Rattle.bsv_schedule.specs.declared.relating.usage.Use.{Use}
use Rattle.bsv_schedule.specs.declared.relating.usage.User.{User}
use Rattle.bsv_schedule.specs.relating.Users.{users_at, added, AreUsesOf, IsNew, KeepsOthers, AreUsers}
use Rattle.bsv_schedule.specs.relating.Uses.{AllNamed, Among, CallsNamed, IsNoted, UseSame, used}
use Rattle.bsv_schedule.proofs.UsesLemmas.{among_left, among_right, among_parts, same_named}

-- one user more
module _ (us new : List (List User)) (part : ℕ) (u : User) (within : part < length us) (is : new ≡ added us part u) where
  here : users_at new part ≡ users_at us part ++ u ∷ []
  here = ap (λ vs. users_at vs part) is ∙ get_or-set_same us part (users_at us part ++ u ∷ []) [] within

  elsewhere : (q : ℕ) → q ≢ part → users_at new q ≡ users_at us q
  elsewhere q other = ap (λ vs. users_at vs q) is ∙ get_or-set_other us part q (users_at us part ++ u ∷ []) [] other

  pub added_is : (q : ℕ) (v : User) → Among (users_at new q) v → ((q ≡ part) × (v ≡ u)) ⊎ Among (users_at us q) v
  added_is q v h = elim (cases_eq q part) [
    | inl e ↦
        let at : Among (users_at us part ++ u ∷ []) v = subst (λ vs. Among vs v) here (subst (λ p. Among (users_at new p) v) e h) in
        elim (among_parts (users_at us part) (u ∷ []) v at) [
          | inl k ↦ inr (subst (λ p. Among (users_at us p) v) (sym e) k)
          | inr (inl k) ↦ inl (e, k)
          | inr (inr k) ↦ absurd k
        ]
    | inr other ↦ inr (subst (λ vs. Among vs v) (elsewhere q other) h)
  ]

  pub added_new : Among (users_at new part) u
  added_new = subst (λ vs. Among vs u) (sym here) (among_right (users_at us part) (u ∷ []) u (inl refl))

  pub added_kept : (q : ℕ) (v : User) → Among (users_at us q) v → Among (users_at new q) v
  added_kept q v h = elim (cases_eq q part) [
    | inl e ↦ subst (λ p. Among (users_at new p) v) (sym e)
        (subst (λ vs. Among vs v) (sym here) (among_left (users_at us part) (u ∷ []) v (subst (λ p. Among (users_at us p) v) e h)))
    | inr other ↦ subst (λ vs. Among vs v) (sym (elsewhere q other)) h
  ]

  pub added_others : (n : ℕ) → u.element ≡ n → KeepsOthers n us new
  added_others n own q v other = (
    λ h. elim (added_is q v h) [
      | inl e ↦ absurd (other (ap (λ (w : User). w.element) e.1 ∙ own))
      | inr k ↦ k
    ],
    added_kept q v,
  )

-- one use more, noted at its part
pub agree_more : (us new : List (List User)) (n part m : ℕ) (old more : List Use) → part < length us
    → new ≡ added us part (record { element = n; method = m }) → AreUsesOf us n old → IsNoted old part m more → AreUsesOf new n more
agree_more us new n part m old more within is agree noted q k =
    let u : User = record { element = n; method = m } in
    let v : User = record { element = n; method = k } in (
      λ h. (noted (record { part = q; method = k })).1 (elim (added_is us new part u within is q v h) [
        | inl e ↦ inl (λ i. record { part = e.0 i; method = (e.1 i).method })
        | inr old ↦ inr ((agree q k).0 old)
      ]),
      λ h. elim ((noted (record { part = q; method = k })).0 h) [
        | inl e ↦
            subst (λ p. Among (users_at new p) v) (sym (ap (λ t. t.part) e))
            (subst (λ x. Among (users_at new part) x) (sym (λ i. record { element = n; method = (e i).method })) (added_new us new part u within is))
        | inr old ↦ added_kept us new part u within is q v ((agree q k).1 old)
      ],
    )

pub others_then : (n : ℕ) (us vs ws : List (List User)) → KeepsOthers n us vs → KeepsOthers n vs ws → KeepsOthers n us ws
others_then n us vs ws first second part u other = (
  λ h. (first part u other).0 ((second part u other).0 h),
  λ h. (second part u other).1 ((first part u other).1 h),
)

pub others_same : (n : ℕ) (us : List (List User)) → KeepsOthers n us us
others_same n us part u other = (λ h. h, λ h. h)

-- a user that is read at a place is one of them
pub user_read : (us : List User) (k n m : ℕ) (d : User) → k < length us → (slice_index_or us k d).element ≡ n → (slice_index_or us k d).method ≡ m
    → Among us (record { element = n; method = m })
user_read [] k n m d below element method = absurd (omega (arith, below))
user_read (u ∷ us) zero n m d below element method = inl (λ i. record { element = sym element i; method = sym method i })
user_read (u ∷ us) (suc k) n m d below element method = inr (user_read us k n m d (omega (arith, below)) element method)

-- nothing is noted of an element that is new, and it uses nothing yet
pub none_of_new : (us : List (List User)) (n : ℕ) → IsNew us n → AreUsesOf us n []
none_of_new us n fresh part m = (λ h. absurd (fresh part m h), λ h. absurd h)

pub none_at_all : (us : List (List User)) → ((part : ℕ) → users_at us part ≡ []) → AreUsers [] us
none_at_all us none part u = (
  λ h. let k : Among [] u = subst (λ vs. Among vs u) (none part) h in absurd k,
  λ h. let k : ⊥ = nothing h.0 h.1 in absurd k,
) where
  nothing : (own : List Use) → slice_get [] u.element ≡ Some own → ⊥
  nothing own is = cc

-- the next element is new
pub next_new : (uses : List (List Use)) (us : List (List User)) (n : ℕ) → length uses ≡ n → AreUsers uses us → IsNew us n
next_new uses us n long are part m h =
    let k = (are part (record { element = n; method = m })).0 h in
    let below : n < length uses = slice_get_within uses n k.0 k.1 in
    omega (arith, below, long)

-- one element more
pub users_more : (uses : List (List Use)) (us new : List (List User)) (n : ℕ) (own : List Use) → length uses ≡ n
    → AreUsers uses us → AreUsesOf new n own → KeepsOthers n us new → AreUsers (uses ++ own ∷ []) new
users_more uses us new n own long are agree others part u = (
  λ h. elim (cases_eq u.element n) [
    | inl e ↦ (own, at_end e, (agree part u.method).0 (subst (Among (users_at new part)) (it e) h))
    | inr other ↦
        let k = (are part u).0 ((others part u other).0 h) in
        (k.0, stays_left uses (own ∷ []) u.element k.0 k.1, k.2)
  ],
  λ h. elim (cases_eq u.element n) [
    | inl e ↦
        let same : h.0 ≡ own = same_Some h.0 own (sym h.1 ∙ at_end e) in
        subst (Among (users_at new part)) (sym (it e)) ((agree part u.method).1 (subst (λ xs. Among (used xs) (record { part = part; method = u.method })) same h.2))
    | inr other ↦
        let within : u.element < length uses = inside other (slice_get_within (uses ++ own ∷ []) u.element h.0 h.1) in
        (others part u other).1 ((are part u).1 (h.0, sym (at_left uses (own ∷ []) u.element within) ∙ h.1, h.2))
  ],
) where
  it : u.element ≡ n → u ≡ record { element = n; method = u.method }
  it e = λ i. record { element = e i; method = u.method }

  at_end : u.element ≡ n → slice_get (uses ++ own ∷ []) u.element ≡ Some own
  at_end e = ap (slice_get (uses ++ own ∷ [])) (e ∙ sym long) ∙ at_middle uses [] own

  inside : u.element ≢ n → u.element < length (uses ++ own ∷ []) → u.element < length uses
  inside other below = elim (cases_lt u.element (length uses)) [
    | inl less ↦ less
    | inr more ↦
        let last : u.element ≡ n = omega (arith, length-append uses (own ∷ [])) in
        absurd (other last)
  ]

-- the uses of one element more
pub same_more : (es : List Element) (uses : List (List Use)) (n : ℕ) (e : Element) (own : List Use) → length uses ≡ n → slice_get es n ≡ Some e
    → UseSame (used own) (map target e.calls)
    → ((m : ℕ) (f : Element) (us : List Use) → slice_get es m ≡ Some f → slice_get uses m ≡ Some us → UseSame (used us) (map target f.calls))
    → (m : ℕ) (f : Element) (us : List Use) → slice_get es m ≡ Some f → slice_get (uses ++ own ∷ []) m ≡ Some us → UseSame (used us) (map target f.calls)
same_more es uses n e own long at same before m f us there is = elim (cases_lt m n) [
  | inl less ↦ before m f us there (sym (at_left uses (own ∷ []) m (omega (arith, less, long))) ∙ is)
  | inr more ↦
      let below : m < length (uses ++ own ∷ []) = slice_get_within (uses ++ own ∷ []) m us is in
      let last : m ≡ n = omega (arith, length-append uses (own ∷ [])) in
      let mine : own ≡ us = same_Some own us (sym (ap (slice_get (uses ++ own ∷ [])) (last ∙ sym long) ∙ at_middle uses [] own) ∙ is) in
      let its : e ≡ f = same_Some e f (sym at ∙ (ap (slice_get es) (sym last) ∙ there)) in
      subst (λ xs. UseSame (used xs) (map target f.calls)) mine (subst (λ (g : Element). UseSame (used own) (map target g.calls)) its same)
]

-- what is noted of each element is named, as its calls are
pub usages_named : (ks : List Kind) (es : List Element) (uses : List (List Use)) → length uses ≡ length es → CallsNamed ks es
    → ((m : ℕ) (f : Element) (us : List Use) → slice_get es m ≡ Some f → slice_get uses m ≡ Some us → UseSame (used us) (map target f.calls))
    → AllNamed ks uses
usages_named ks es uses count named same n own is =
    let e = item_there es n (subst (λ k. n < k) count (slice_get_within uses n own is)) in
    same_named ks own e.0.calls (same n e.0 own e.1 is) (named n e.0 e.1)
