-- The calls that elements make on one part, tagged with the places of their elements in the execution order and with their
-- ranks: to add the calls of an element one by one, in the order of the text, puts them where they take effect.
use Rattle.std.proofs.Common.{◌≡◌, ◌≢◌, ◌∙◌, ℕ, ◌+◌, ◌<◌, ◌≤◌, Bool, true, false, cond, not, List, [], ◌∷◌, ◌++◌, Option, Some, None, refl, sym, ap, ap₂, subst, arith, inl, inr, append-nil, append_assoc}
use Rattle.std.specs.Prelude.{◌==◌, nat_lt, nat_le, if◌then◌else◌}
use Rattle.std.specs.List.{AllByRecursion}
use Rattle.std.proofs.lemmas.Bool.Decides.{nat_tests}
use Rattle.bsv_prim.specs.Table.{Call}
use Rattle.bsv_design.specs.declared.kind.Kind.{Kind}
use Rattle.bsv_design.specs.scheme.Schemes.{Called}
use Rattle.bsv_design.specs.scheme.Serial.{rank, put_by_rank, by_rank}
use Rattle.bsv_graph.specs.Orders.{In, IsOnce, place_of}
use Rattle.bsv_guard.specs.ElementLaws.{call_of}
use Rattle.bsv_guard.specs.Turns.{calls_on}
use Rattle.bsv_clock.specs.Settling.{Doing, deed, deeds}
use Rattle.bsv_clock.proofs.CallLists.{calls_on-append}
use Rattle.bsv_serial.specs.declared.calls_made.MadeCall.{MadeCall}
use Rattle.bsv_serial.specs.CallsMade.{is_later, added, as_call, as_calls}
use Rattle.bsv_serial.specs.Making.{made_at}

-- ---- tags

-- those of the calls that are on the part, tagged with this place
abbrev pub tagged_on : List Kind → ℕ → ℕ → List Called → List MadeCall
tagged_on ks i place [] = []
tagged_on ks i place (c ∷ cs) = cond (c.target.part == i) (made_at ks place c ∷ tagged_on ks i place cs) (tagged_on ks i place cs)

-- those of these elements, which stand from this place on
abbrev pub tagged : List Kind → ℕ → Doing → ℕ → List ℕ → List MadeCall
tagged ks i D place [] = []
tagged ks i D place (n ∷ ns) = tagged_on ks i place (deed (D n)) ++ tagged ks i D (place + 1) ns

-- those of the calls that are on the part, added one after the other
abbrev pub added_on : List Kind → ℕ → ℕ → List Called → List MadeCall → List MadeCall
added_on ks i place [] ms = ms
added_on ks i place (c ∷ cs) ms = added_on ks i place cs (cond (c.target.part == i) (added (made_at ks place c) ms) ms)

-- ---- as calls

as_calls-append : (xs ys : List MadeCall) → as_calls (xs ++ ys) ≡ as_calls xs ++ as_calls ys
as_calls-append [] ys = refl
as_calls-append (x ∷ xs) ys = ap (λ (cs : List Call). as_call x ∷ cs) (as_calls-append xs ys)

pub as_calls_on : (ks : List Kind) (i place : ℕ) (cs : List Called) → as_calls (tagged_on ks i place cs) ≡ calls_on i cs
as_calls_on ks i place [] = refl
as_calls_on ks i place (c ∷ cs) = cases (c.target.part == i) (as_calls_on ks i place cs)
  where
    cases : (b : Bool) → as_calls (tagged_on ks i place cs) ≡ calls_on i cs
        → as_calls (cond b (made_at ks place c ∷ tagged_on ks i place cs) (tagged_on ks i place cs)) ≡ cond b (call_of c ∷ calls_on i cs) (calls_on i cs)
    cases true e = ap (λ (ds : List Call). call_of c ∷ ds) e
    cases false e = e

pub as_calls_tagged : (ks : List Kind) (i : ℕ) (D : Doing) (place : ℕ) (ns : List ℕ) → as_calls (tagged ks i D place ns) ≡ calls_on i (deeds D ns)
unfolding deeds
as_calls_tagged ks i D place [] = refl
as_calls_tagged ks i D place (n ∷ ns) =
    as_calls-append (tagged_on ks i place (deed (D n))) (tagged ks i D (place + 1) ns)
    ∙ ap₂ (λ (xs ys : List Call). xs ++ ys) (as_calls_on ks i place (deed (D n))) (as_calls_tagged ks i D (place + 1) ns)
    ∙ sym (calls_on-append i (deed (D n)) (deeds D ns))

-- ---- after one another

-- each of them takes effect after the call
abbrev AllAfter : MadeCall → List MadeCall → Type 0
AllAfter c ms = AllByRecursion (λ d. is_later d c ≡ true) ms

-- none of them does
abbrev NoneAfter : MadeCall → List MadeCall → Type 0
NoneAfter c ms = AllByRecursion (λ d. is_later d c ≡ false) ms

added_front : (c : MadeCall) (xs ys : List MadeCall) → NoneAfter c xs → added c (xs ++ ys) ≡ xs ++ added c ys
unfolding added
added_front c [] ys h = refl
added_front c (x ∷ xs) ys h =
    ap (λ (b : Bool). if b then c ∷ x ∷ (xs ++ ys) else x ∷ added c (xs ++ ys)) h.0
    ∙ ap (λ (zs : List MadeCall). x ∷ zs) (added_front c xs ys h.1)

added_here : (c : MadeCall) (ys : List MadeCall) → AllAfter c ys → added c ys ≡ c ∷ ys
unfolding added
added_here c [] h = refl
added_here c (y ∷ ys) h = ap (λ (b : Bool). if b then c ∷ y ∷ ys else y ∷ added c ys) h.0

-- in front of calls that all take effect after it
added_within : (c : MadeCall) (xs ys : List MadeCall) → AllAfter c ys → added c (xs ++ ys) ≡ added c xs ++ ys
unfolding added
added_within c [] ys h = added_here c ys h
added_within c (x ∷ xs) ys h = cases (is_later x c) (added_within c xs ys h)
  where
    cases : (b : Bool) → added c (xs ++ ys) ≡ added c xs ++ ys
        → (if b then c ∷ x ∷ (xs ++ ys) else x ∷ added c (xs ++ ys)) ≡ (if b then c ∷ x ∷ xs else x ∷ added c xs) ++ ys
    cases true e = refl
    cases false e = ap (λ (zs : List MadeCall). x ∷ zs) e

-- ---- places

abbrev AllBelow : ℕ → List MadeCall → Type 0
AllBelow place ms = AllByRecursion (λ d. d.place < place) ms

abbrev AllAbove : ℕ → List MadeCall → Type 0
AllAbove place ms = AllByRecursion (λ d. place < d.place) ms

below_not_after : (c : MadeCall) (ms : List MadeCall) → AllBelow c.place ms → NoneAfter c ms
below_not_after c [] h = tt
below_not_after c (d ∷ ms) h = (one d h.0, below_not_after c ms h.1)
  where
    one : (d : MadeCall) → d.place < c.place → is_later d c ≡ false
    one d l = grind (arith, nat_tests)

above_after : (c : MadeCall) (ms : List MadeCall) → AllAbove c.place ms → AllAfter c ms
above_after c [] h = tt
above_after c (d ∷ ms) h = (one d h.0, above_after c ms h.1)
  where
    one : (d : MadeCall) → c.place < d.place → is_later d c ≡ true
    one d l = grind (arith, nat_tests)

placed_on : (ks : List Kind) (P : MadeCall → Type 0) (i place : ℕ) → ((c : Called) → P (made_at ks place c)) → (cs : List Called) → AllByRecursion P (tagged_on ks i place cs)
placed_on ks P i place h [] = tt
placed_on ks P i place h (c ∷ cs) = cases (c.target.part == i) (placed_on ks P i place h cs)
  where
    cases : (b : Bool) → AllByRecursion P (tagged_on ks i place cs) → AllByRecursion P (cond b (made_at ks place c ∷ tagged_on ks i place cs) (tagged_on ks i place cs))
    cases true e = (h c, e)
    cases false e = e

all_both : (P : MadeCall → Type 0) (xs ys : List MadeCall) → AllByRecursion P xs → AllByRecursion P ys → AllByRecursion P (xs ++ ys)
all_both P [] ys h k = k
all_both P (x ∷ xs) ys h k = (h.0, all_both P xs ys h.1 k)

tagged_above : (ks : List Kind) (i : ℕ) (D : Doing) (low start : ℕ) → low < start → (ns : List ℕ) → AllAbove low (tagged ks i D start ns)
tagged_above ks i D low start l [] = tt
tagged_above ks i D low start l (n ∷ ns) =
    all_both (λ d. low < d.place) (tagged_on ks i start (deed (D n))) (tagged ks i D (start + 1) ns)
    (placed_on ks (λ d. low < d.place) i start (λ c. l) (deed (D n)))
    (tagged_above ks i D low (start + 1) (omega (arith, l)) ns)

-- ---- calls of one element among those of others

on_front : (ks : List Kind) (i place : ℕ) (xs : List MadeCall) → AllBelow place xs → (cs : List Called) (ys : List MadeCall) → added_on ks i place cs (xs ++ ys) ≡ xs ++ added_on ks i place cs ys
on_front ks i place xs h [] ys = refl
on_front ks i place xs h (c ∷ cs) ys = cases (c.target.part == i) (on_front ks i place xs h cs)
  where
    cases : (b : Bool) → ((zs : List MadeCall) → added_on ks i place cs (xs ++ zs) ≡ xs ++ added_on ks i place cs zs)
        → added_on ks i place cs (cond b (added (made_at ks place c) (xs ++ ys)) (xs ++ ys)) ≡ xs ++ added_on ks i place cs (cond b (added (made_at ks place c) ys) ys)
    cases true on = ap (added_on ks i place cs) (added_front (made_at ks place c) xs ys (below_not_after (made_at ks place c) xs h)) ∙ on (added (made_at ks place c) ys)
    cases false on = on ys

on_back : (ks : List Kind) (i place : ℕ) (ys : List MadeCall) → AllAbove place ys → (cs : List Called) (xs : List MadeCall) → added_on ks i place cs (xs ++ ys) ≡ added_on ks i place cs xs ++ ys
on_back ks i place ys h [] xs = refl
on_back ks i place ys h (c ∷ cs) xs = cases (c.target.part == i) (on_back ks i place ys h cs)
  where
    cases : (b : Bool) → ((zs : List MadeCall) → added_on ks i place cs (zs ++ ys) ≡ added_on ks i place cs zs ++ ys)
        → added_on ks i place cs (cond b (added (made_at ks place c) (xs ++ ys)) (xs ++ ys)) ≡ added_on ks i place cs (cond b (added (made_at ks place c) xs) xs) ++ ys
    cases true on = ap (added_on ks i place cs) (added_within (made_at ks place c) xs ys (above_after (made_at ks place c) ys h)) ∙ on (added (made_at ks place c) xs)
    cases false on = on xs

-- ---- by rank

module _ (ks : List Kind) where
  -- in front of the first call of a higher rank
  abbrev put_after : Called → List Called → List Called
  put_after c [] = c ∷ []
  put_after c (d ∷ ds) = if nat_lt (rank ks c) (rank ks d) then c ∷ d ∷ ds else d ∷ put_after c ds

  abbrev test_lt : Called → Called → Bool
  test_lt c d = nat_lt (rank ks c) (rank ks d)

  abbrev test_le : Called → Called → Bool
  test_le c d = nat_le (rank ks c) (rank ks d)

  put_cons : (d x : Called) (xs : List Called) (b : Bool) → test_le d x ≡ b → put_by_rank ks d (x ∷ xs) ≡ (if b then d ∷ x ∷ xs else x ∷ put_by_rank ks d xs)
  put_cons d x xs b h = ap (λ (t : Bool). if t then d ∷ x ∷ xs else x ∷ put_by_rank ks d xs) h

  after_cons : (c x : Called) (xs : List Called) (b : Bool) → test_lt c x ≡ b → put_after c (x ∷ xs) ≡ (if b then c ∷ x ∷ xs else x ∷ put_after c xs)
  after_cons c x xs b h = ap (λ (t : Bool). if t then c ∷ x ∷ xs else x ∷ put_after c xs) h

  le_from_lt : (c d : Called) (b : Bool) → test_lt c d ≡ b → test_le d c ≡ not b
  le_from_lt c d true h = grind (arith, nat_tests, h)
  le_from_lt c d false h = grind (arith, nat_tests, h)

  lt_from_lt_le : (c x d : Called) → test_lt c x ≡ true → test_le d x ≡ false → test_le d c ≡ false
  lt_from_lt_le c x d h k = grind (arith, nat_tests, h, k)

  not_lt : (c x d : Called) → test_lt c x ≡ false → test_le d x ≡ true → test_lt c d ≡ false
  not_lt c x d h k = grind (arith, nat_tests, h, k)

  -- to put one in front of its equals and one after its equals may come in either order
  abbrev Swaps : Called → Called → List Called → Type 0
  Swaps d c xs = put_by_rank ks d (put_after c xs) ≡ put_after c (put_by_rank ks d xs)

  swaps_none : (d c : Called) (b : Bool) → test_lt c d ≡ b → Swaps d c []
  swaps_none d c true h = put_cons d c [] false (le_from_lt c d true h) ∙ sym (after_cons c d [] true h)
  swaps_none d c false h = put_cons d c [] true (le_from_lt c d false h) ∙ sym (after_cons c d [] false h)

  swaps_first : (d c x : Called) (xs : List Called) → test_lt c x ≡ true → test_le d x ≡ true → (b : Bool) → test_lt c d ≡ b
      → put_by_rank ks d (c ∷ x ∷ xs) ≡ put_after c (d ∷ x ∷ xs)
  swaps_first d c x xs h k true l =
      put_cons d c (x ∷ xs) false (le_from_lt c d true l) ∙ ap (λ (ys : List Called). c ∷ ys) (put_cons d x xs true k) ∙ sym (after_cons c d (x ∷ xs) true l)
  swaps_first d c x xs h k false l =
      put_cons d c (x ∷ xs) true (le_from_lt c d false l) ∙ sym (after_cons c d (x ∷ xs) false l ∙ ap (λ (ys : List Called). d ∷ ys) (after_cons c x xs true h))

  swaps_some : (d c x : Called) (xs : List Called) → Swaps d c xs → (a : Bool) → test_lt c x ≡ a → (b : Bool) → test_le d x ≡ b → Swaps d c (x ∷ xs)
  swaps_some d c x xs ih true h true k =
      ap (put_by_rank ks d) (after_cons c x xs true h) ∙ swaps_first d c x xs h k (test_lt c d) refl
      ∙ sym (ap (λ (ys : List Called). put_after c ys) (put_cons d x xs true k))
  swaps_some d c x xs ih true h false k =
      ap (put_by_rank ks d) (after_cons c x xs true h) ∙ put_cons d c (x ∷ xs) false (lt_from_lt_le c x d h k)
      ∙ ap (λ (ys : List Called). c ∷ ys) (put_cons d x xs false k)
      ∙ sym (ap (λ (ys : List Called). put_after c ys) (put_cons d x xs false k) ∙ after_cons c x (put_by_rank ks d xs) true h)
  swaps_some d c x xs ih false h true k =
      ap (put_by_rank ks d) (after_cons c x xs false h) ∙ put_cons d x (put_after c xs) true k
      ∙ sym (ap (λ (ys : List Called). put_after c ys) (put_cons d x xs true k) ∙ after_cons c d (x ∷ xs) false (not_lt c x d h k)
      ∙ ap (λ (ys : List Called). d ∷ ys) (after_cons c x xs false h))
  swaps_some d c x xs ih false h false k =
      ap (put_by_rank ks d) (after_cons c x xs false h) ∙ put_cons d x (put_after c xs) false k
      ∙ ap (λ (ys : List Called). x ∷ ys) ih
      ∙ sym (ap (λ (ys : List Called). put_after c ys) (put_cons d x xs false k) ∙ after_cons c x (put_by_rank ks d xs) false h)

  swaps : (d c : Called) (xs : List Called) → Swaps d c xs
  swaps d c [] = swaps_none d c (test_lt c d) refl
  swaps d c (x ∷ xs) = swaps_some d c x xs (swaps d c xs) (test_lt c x) refl (test_le d x) refl

  -- the last call by rank comes after its equals
  last_by_rank : (cs : List Called) (c : Called) → by_rank ks (cs ++ c ∷ []) ≡ put_after c (by_rank ks cs)
  unfolding by_rank
  last_by_rank [] c = refl
  last_by_rank (d ∷ cs) c = ap (put_by_rank ks d) (last_by_rank cs c) ∙ swaps d c (by_rank ks cs)

  -- ---- ranks rise

  abbrev NoLower : ℕ → List Called → Type 0
  NoLower r xs = AllByRecursion (λ d. r ≤ rank ks d) xs

  abbrev Rises : List Called → Type 0
  Rises [] = Unit {0}
  Rises (x ∷ xs) = NoLower (rank ks x) xs × Rises xs

  no_lower : (r s : ℕ) → r ≤ s → (xs : List Called) → NoLower s xs → NoLower r xs
  no_lower r s l [] h = tt
  no_lower r s l (x ∷ xs) h = (omega (arith, l, h.0), no_lower r s l xs h.1)

  put_no_lower : (r : ℕ) (d : Called) (xs : List Called) → r ≤ rank ks d → NoLower r xs → NoLower r (put_by_rank ks d xs)
  put_no_lower r d [] l h = (l, tt)
  put_no_lower r d (x ∷ xs) l h = cases (test_le d x) (put_no_lower r d xs l h.1)
    where
      cases : (b : Bool) → NoLower r (put_by_rank ks d xs) → NoLower r (if b then d ∷ x ∷ xs else x ∷ put_by_rank ks d xs)
      cases true e = (l, h)
      cases false e = (h.0, e)

  put_rises : (d : Called) (xs : List Called) → Rises xs → Rises (put_by_rank ks d xs)
  put_rises d [] h = (tt, tt)
  put_rises d (x ∷ xs) h = cases (test_le d x) refl (put_rises d xs h.1)
    where
      le : test_le d x ≡ true → rank ks d ≤ rank ks x
      le e = grind (arith, nat_tests, e)

      ge : test_le d x ≡ false → rank ks x ≤ rank ks d
      ge e = grind (arith, nat_tests, e)

      cases : (b : Bool) → test_le d x ≡ b → Rises (put_by_rank ks d xs) → Rises (if b then d ∷ x ∷ xs else x ∷ put_by_rank ks d xs)
      cases true e r = ((le e, no_lower (rank ks d) (rank ks x) (le e) xs h.0), h)
      cases false e r = (put_no_lower (rank ks x) d xs (ge e) h.0, r)

  by_rank_rises : (cs : List Called) → Rises (by_rank ks cs)
  unfolding by_rank
  by_rank_rises [] = tt
  by_rank_rises (c ∷ cs) = put_rises c (by_rank ks cs) (by_rank_rises cs)

  -- ---- of those on one part

  module _ (i place : ℕ) where
    abbrev on : List Called → List MadeCall
    on cs = tagged_on ks i place cs

    -- after all those of a higher rank
    on_higher : (c : Called) (xs : List Called) → AllByRecursion (λ d. rank ks c < rank ks d) xs → AllAfter (made_at ks place c) (on xs)
    on_higher c [] h = tt
    on_higher c (d ∷ xs) h = cases (d.target.part == i) (on_higher c xs h.1)
      where
        here : is_later (made_at ks place d) (made_at ks place c) ≡ true
        here = grind (arith, nat_tests, h.0)

        cases : (b : Bool) → AllAfter (made_at ks place c) (on xs) → AllAfter (made_at ks place c) (cond b (made_at ks place d ∷ on xs) (on xs))
        cases true e = (here, e)
        cases false e = e

    higher : (c d : Called) (xs : List Called) → rank ks c < rank ks d → NoLower (rank ks d) xs → AllByRecursion (λ e. rank ks c < rank ks e) xs
    higher c d [] l h = tt
    higher c d (x ∷ xs) l h = (omega (arith, l, h.0), higher c d xs l h.1)

    -- put after its equals, a call of the part is added to those on it
    put_on : (c : Called) → (c.target.part == i) ≡ true → (xs : List Called) → Rises xs → on (put_after c xs) ≡ added (made_at ks place c) (on xs)
    unfolding added
    put_on c p [] r = ap (λ (b : Bool). cond b (made_at ks place c ∷ []) []) p
    put_on c p (d ∷ xs) r = cases (test_lt c d) refl (put_on c p xs r.1)
      where
        lt : test_lt c d ≡ true → rank ks c < rank ks d
        lt e = grind (arith, nat_tests, e)

        level : test_lt c d ≡ false → is_later (made_at ks place d) (made_at ks place c) ≡ false
        level e = grind (arith, nat_tests, e)

        first : test_lt c d ≡ true → AllAfter (made_at ks place c) (on (d ∷ xs))
        first e = on_higher c (d ∷ xs) (lt e, higher c d xs (lt e) r.0)

        kept : test_lt c d ≡ false → (b : Bool) → on (put_after c xs) ≡ added (made_at ks place c) (on xs)
            → cond b (made_at ks place d ∷ on (put_after c xs)) (on (put_after c xs)) ≡ added (made_at ks place c) (cond b (made_at ks place d ∷ on xs) (on xs))
        kept e true ih =
            ap (λ (ys : List MadeCall). made_at ks place d ∷ ys) ih
            ∙ sym (ap (λ (b : Bool). if b then made_at ks place c ∷ made_at ks place d ∷ on xs else made_at ks place d ∷ added (made_at ks place c) (on xs)) (level e))
        kept e false ih = ih

        cases : (b : Bool) → test_lt c d ≡ b → on (put_after c xs) ≡ added (made_at ks place c) (on xs)
            → on (if b then c ∷ d ∷ xs else d ∷ put_after c xs) ≡ added (made_at ks place c) (on (d ∷ xs))
        cases true e ih = ap (λ (b : Bool). cond b (made_at ks place c ∷ on (d ∷ xs)) (on (d ∷ xs))) p ∙ sym (added_here (made_at ks place c) (on (d ∷ xs)) (first e))
        cases false e ih = kept e (d.target.part == i) ih

    put_off : (c : Called) → (c.target.part == i) ≡ false → (xs : List Called) → on (put_after c xs) ≡ on xs
    put_off c p [] = ap (λ (b : Bool). cond b (made_at ks place c ∷ []) []) p
    put_off c p (d ∷ xs) = cases (test_lt c d) (put_off c p xs)
      where
        cases : (b : Bool) → on (put_after c xs) ≡ on xs → on (if b then c ∷ d ∷ xs else d ∷ put_after c xs) ≡ on (d ∷ xs)
        cases true ih = ap (λ (b : Bool). cond b (made_at ks place c ∷ on (d ∷ xs)) (on (d ∷ xs))) p
        cases false ih = ap (λ (ys : List MadeCall). cond (d.target.part == i) (made_at ks place d ∷ ys) ys) ih

    added_one : (before : List Called) (c : Called) → on (by_rank ks (before ++ c ∷ [])) ≡ cond (c.target.part == i) (added (made_at ks place c) (on (by_rank ks before))) (on (by_rank ks before))
    added_one before c = ap (λ (ys : List Called). on ys) (last_by_rank before c) ∙ cases (c.target.part == i) refl
      where
        cases : (b : Bool) → (c.target.part == i) ≡ b → on (put_after c (by_rank ks before)) ≡ cond b (added (made_at ks place c) (on (by_rank ks before))) (on (by_rank ks before))
        cases true e = put_on c e (by_rank ks before) (by_rank_rises before)
        cases false e = put_off c e (by_rank ks before)

    added_more : (cs before : List Called) → added_on ks i place cs (on (by_rank ks before)) ≡ on (by_rank ks (before ++ cs))
    added_more [] before = ap (λ (ys : List Called). on (by_rank ks ys)) (sym (append-nil before))
    added_more (c ∷ cs) before =
        ap (λ (ms : List MadeCall). added_on ks i place cs ms) (sym (added_one before c))
        ∙ added_more cs (before ++ c ∷ [])
        ∙ ap (λ (ys : List Called). on (by_rank ks ys)) (append_assoc before (c ∷ []) cs)

    -- added one by one to none, the calls stand by rank
    pub added_all : (cs : List Called) → added_on ks i place cs [] ≡ on (by_rank ks cs)
    unfolding by_rank
    added_all cs = added_more cs []

-- ---- of one element among all

module _ (ks : List Kind) (i n : ℕ) (cs : List Called) (D E : Doing) (idle : D n ≡ None) (does : E n ≡ Some (by_rank ks cs)) (same : (m : ℕ) → m ≢ n → E m ≡ D m) where
  same_tagged : (place : ℕ) (ns : List ℕ) → (In ns n → ⊥) → tagged ks i D place ns ≡ tagged ks i E place ns
  same_tagged place [] out = refl
  same_tagged place (m ∷ ns) out =
      ap₂ (λ (xs ys : List MadeCall). xs ++ ys)
      (ap (λ (o : Option (List Called)). tagged_on ks i place (deed o)) (sym (same m (λ e. out (inl (sym e))))))
      (same_tagged (place + 1) ns (λ k. out (inr k)))

  here : (place : ℕ) (ns : List ℕ) → (In ns n → ⊥) → added_on ks i place cs (tagged ks i D place (n ∷ ns)) ≡ tagged ks i E place (n ∷ ns)
  here place ns out =
      ap (λ (o : Option (List Called)). added_on ks i place cs (tagged_on ks i place (deed o) ++ tagged ks i D (place + 1) ns)) idle
      ∙ on_back ks i place (tagged ks i D (place + 1) ns) (tagged_above ks i D place (place + 1) (omega arith) ns) cs []
      ∙ ap₂ (λ (xs ys : List MadeCall). xs ++ ys) (added_all ks i place cs) (same_tagged (place + 1) ns out)
      ∙ ap (λ (o : Option (List Called)). tagged_on ks i place (deed o) ++ tagged ks i E (place + 1) ns) (sym does)

  behind : (place m : ℕ) (ns : List ℕ) → m ≢ n → added_on ks i (place + 1 + place_of ns n) cs (tagged ks i D (place + 1) ns) ≡ tagged ks i E (place + 1) ns
      → added_on ks i (place + (1 + place_of ns n)) cs (tagged ks i D place (m ∷ ns)) ≡ tagged ks i E place (m ∷ ns)
  behind place m ns other ih =
      on_front ks i (place + (1 + place_of ns n)) (tagged_on ks i place (deed (D m)))
      (placed_on ks (λ d. d.place < place + (1 + place_of ns n)) i place (λ c. omega arith) (deed (D m))) cs (tagged ks i D (place + 1) ns)
      ∙ ap (λ (ms : List MadeCall). tagged_on ks i place (deed (D m)) ++ ms) (ap (λ (k : ℕ). added_on ks i k cs (tagged ks i D (place + 1) ns)) (moved place (place_of ns n)) ∙ ih)
      ∙ ap (λ (o : Option (List Called)). tagged_on ks i place (deed o) ++ tagged ks i E (place + 1) ns) (sym (same m other))
    where
      moved : (a b : ℕ) → a + (1 + b) ≡ a + 1 + b
      moved a b = omega arith

  pub added_tagged : (place : ℕ) (ns : List ℕ) → IsOnce ns → In ns n → added_on ks i (place + place_of ns n) cs (tagged ks i D place ns) ≡ tagged ks i E place ns
  added_tagged place [] once found = absurd found
  added_tagged place (m ∷ ns) once found = cases (m == n) refl found (added_tagged (place + 1) ns once.1)
    where
      same_number : (m == n) ≡ true → m ≡ n
      same_number e = grind (arith, nat_tests, e)

      other_number : (m == n) ≡ false → m ≢ n
      other_number e = grind (arith, nat_tests, e)

      none : (a : ℕ) → a + 0 ≡ a
      none a = omega arith

      later : m ≢ n → In (m ∷ ns) n → In ns n
      later o (inl e) = absurd (o (sym e))
      later o (inr k) = k

      cases : (b : Bool) → (m == n) ≡ b → In (m ∷ ns) n
          → (In ns n → added_on ks i (place + 1 + place_of ns n) cs (tagged ks i D (place + 1) ns) ≡ tagged ks i E (place + 1) ns)
          → added_on ks i (place + (if b then 0 else 1 + place_of ns n)) cs (tagged ks i D place (m ∷ ns)) ≡ tagged ks i E place (m ∷ ns)
      cases true e k ih =
          let is = same_number e in
          ap (λ (p : ℕ). added_on ks i p cs (tagged ks i D place (m ∷ ns))) (none place)
          ∙ subst (λ (x : ℕ). added_on ks i place cs (tagged ks i D place (x ∷ ns)) ≡ tagged ks i E place (x ∷ ns)) (sym is) (here place ns (subst (λ (x : ℕ). In ns x → ⊥) is once.0))
      cases false e k ih = behind place m ns (other_number e) (ih (later (other_number e) k))
