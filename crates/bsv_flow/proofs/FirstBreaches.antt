-- The first pair of calls that breaks the rule is one, and there is one where the rule is not kept.
use Rattle.std.proofs.Common.{◌≡◌, ℕ, zero, suc, ◌<◌, ◌≤◌, ltb, ◌⊎◌, inl, inr, Bool, true, false, List, [], ◌∷◌, Option, Some, None, refl, ap, subst, sym, ◌∙◌, arith}
use Rattle.std.specs.List.{slice_get}
use Rattle.std.proofs.lemmas.Bool.{cases_Bool, cases_lt, cases_order, cond-false, false≢true, le-ltb}
use Rattle.std.proofs.lemmas.Option.{none-some, same_Some}
use Rattle.bsv_design.specs.scheme.Relations.{IsBreach, IsFirstBreach, KeepsTheRule, break_the_rule, no_answers, sites_of}
use Rattle.bsv_design.specs.scheme.Schemes.{Scheme, filled, ports_of}
use Rattle.bsv_design.specs.scheme.Traces.{Site}
use Rattle.bsv_tree.specs.tree.Elements.{Text, element_count, element_text, text_at}
use Rattle.bsv_tree.specs.tree.Trees.{TreeData}
use Rattle.bsv_tree.specs.meaning.Schemes.{trace_at, tree_scheme}

-- ---- the first breach is one

same_element : (S : Scheme) (m n i j k l : ℕ) (x y u v : Site) → IsFirstBreach S m i j x y → IsFirstBreach S n k l u v → m ≡ n
same_element S m n i j k l x y u v f g = elim (cases_order m n) [
  | inl e ↦ e
  | inr (inl less) ↦ absurd (g.least m less i j x y f.breach)
  | inr (inr more) ↦ absurd (f.least n more k l u v g.breach)
]

one_place : (i j k l : ℕ) → (i < k) ⊎ ((i ≡ k) × (j ≤ l)) → (k < i) ⊎ ((k ≡ i) × (l ≤ j)) → (i ≡ k) × (j ≡ l)
one_place i j k l (inl a) (inl b) = absurd (omega arith)
one_place i j k l (inl a) (inr b) = absurd (omega (arith, b.0))
one_place i j k l (inr a) (inl b) = absurd (omega (arith, a.0))
one_place i j k l (inr a) (inr b) = (a.0, omega (arith, a.1, b.1))

-- of one element and in one place
pub same_places : (S : Scheme) (m n i j k l : ℕ) (x y u v : Site) → IsFirstBreach S m i j x y → IsFirstBreach S n k l u v → (m ≡ n) × (i ≡ k) × (j ≡ l)
same_places S m n i j k l x y u v f g =
    let e = same_element S m n i j k l x y u v f g in
    let there = f.first k l u v (subst (λ a. IsBreach S a k l u v) (sym e) g.breach) in
    let back = g.first i j x y (subst (λ a. IsBreach S a i j x y) e f.breach) in
    let p = one_place i j k l there back in
    (e, p.0, p.1)

same_site : (S : Scheme) (m n i k : ℕ) (x u : Site) → m ≡ n → i ≡ k → slice_get (sites_of S m) i ≡ Some x → slice_get (sites_of S n) k ≡ Some u → x ≡ u
same_site S m n i k x u e p a b =
    same_Some x u (sym a ∙ ap (λ c. slice_get (sites_of S c) i) e ∙ ap (slice_get (sites_of S n)) p ∙ b)

-- of one element and of one pair of calls
pub same_breach : (S : Scheme) (m n i j k l : ℕ) (x y u v : Site) → IsFirstBreach S m i j x y → IsFirstBreach S n k l u v → (m ≡ n) × (x ≡ u) × (y ≡ v)
same_breach S m n i j k l x y u v f g =
    let p = same_places S m n i j k l x y u v f g in
    (p.0, same_site S m n i k x u p.0 p.1 f.breach.first g.breach.first, same_site S m n j l y v p.0 p.2 f.breach.second g.breach.second)

-- ---- the first pair of a list that passes a test

module _ (test : Site → Site → Bool) where
  record IsPair (xs : List Site) (i j : ℕ) (x y : Site) : Type 0 where
    pub first : slice_get xs i ≡ Some x
    pub second : slice_get xs j ≡ Some y
    pub earlier : i < j
    pub passes : test x y ≡ true

  abbrev HasNoPair : List Site → Type 0
  HasNoPair xs = (i j : ℕ) (x y : Site) → IsPair xs i j x y → ⊥

  record FirstPair (xs : List Site) : Type 0 where
    pub earlier : ℕ
    pub later : ℕ
    pub one : Site
    pub other : Site
    pub pair : IsPair xs earlier later one other
    pub first : (k l : ℕ) (u v : Site) → IsPair xs k l u v → (earlier < k) ⊎ ((earlier ≡ k) × (later ≤ l))

  -- no site of the list passes after x
  abbrev HasNone : Site → List Site → Type 0
  HasNone x ys = (l : ℕ) (v : Site) → slice_get ys l ≡ Some v → test x v ≡ true → ⊥

  -- the first site of the list that passes after x
  record FirstAfter (x : Site) (ys : List Site) : Type 0 where
    pub place : ℕ
    pub site : Site
    pub at : slice_get ys place ≡ Some site
    pub passes : test x site ≡ true
    pub first : (l : ℕ) (v : Site) → slice_get ys l ≡ Some v → test x v ≡ true → place ≤ l

  fails : (x y v : Site) → test x y ≡ false → ◌≡◌ {A = Option Site} (Some y) (Some v) → test x v ≡ true → ⊥
  fails x y v no_pass e pass = false≢true (sym no_pass ∙ ap (test x) (same_Some y v e) ∙ pass)

  none_after : (x y : Site) (ys : List Site) → test x y ≡ false → HasNone x ys → HasNone x (y ∷ ys)
  none_after x y ys no_pass none zero v at pass = fails x y v no_pass at pass
  none_after x y ys no_pass none (suc l) v at pass = none l v at pass

  next_least : (x y : Site) (ys : List Site) → test x y ≡ false → (f : FirstAfter x ys) → (l : ℕ) (v : Site) → slice_get (y ∷ ys) l ≡ Some v → test x v ≡ true → suc f.place ≤ l
  next_least x y ys no_pass f zero v at pass = absurd (fails x y v no_pass at pass)
  next_least x y ys no_pass f (suc l) v at pass = omega (arith, f.first l v at pass)

  next_after : (x y : Site) (ys : List Site) → test x y ≡ false → FirstAfter x ys → FirstAfter x (y ∷ ys)
  next_after x y ys no_pass f = record { place = suc f.place; site = f.site; at = f.at; passes = f.passes; first = next_least x y ys no_pass f }

  after : (x : Site) (ys : List Site) → HasNone x ys ⊎ FirstAfter x ys
  after x [] = inl (λ l v at pass. none-some v at)
  after x (y ∷ ys) = elim (cases_Bool (test x y)) [
    | inl pass ↦ inr (record { place = 0; site = y; at = refl; passes = pass; first = λ l v at also. omega arith })
    | inr no_pass ↦ elim (after x ys) [
      | inl none ↦ inl (none_after x y ys no_pass none)
      | inr f ↦ inr (next_after x y ys no_pass f)
    ]
  ]

  -- a pair of the rest
  pair_of_rest : (x : Site) (xs : List Site) (i j : ℕ) (u v : Site) → IsPair (x ∷ xs) (suc i) (suc j) u v → IsPair xs i j u v
  pair_of_rest x xs i j u v p = record { first = p.first; second = p.second; earlier = omega (arith, p.earlier); passes = p.passes }

  passes_at_head : (x u v : Site) → ◌≡◌ {A = Option Site} (Some x) (Some u) → test u v ≡ true → test x v ≡ true
  passes_at_head x u v e pass = ap (λ w. test w v) (same_Some x u e) ∙ pass

  no_pair : (x : Site) (xs : List Site) → HasNone x xs → HasNoPair xs → HasNoPair (x ∷ xs)
  no_pair x xs none kept i zero u v p = omega (arith, p.earlier)
  no_pair x xs none kept zero (suc j) u v p = none j v p.second (passes_at_head x u v p.first p.passes)
  no_pair x xs none kept (suc i) (suc j) u v p = kept i j u v (pair_of_rest x xs i j u v p)

  head_least : (x : Site) (xs : List Site) (f : FirstAfter x xs) → (k l : ℕ) (u v : Site) → IsPair (x ∷ xs) k l u v → (0 < k) ⊎ ((0 ≡ k) × (suc f.place ≤ l))
  head_least x xs f k zero u v p = absurd (omega (arith, p.earlier))
  head_least x xs f zero (suc l) u v p = inr (refl, omega (arith, f.first l v p.second (passes_at_head x u v p.first p.passes)))
  head_least x xs f (suc k) (suc l) u v p = inl (omega arith)

  head_pair : (x : Site) (xs : List Site) → FirstAfter x xs → FirstPair (x ∷ xs)
  head_pair x xs f = record {
    earlier = 0;
    later = suc f.place;
    one = x;
    other = f.site;
    pair = record { first = refl; second = f.at; earlier = omega arith; passes = f.passes };
    first = head_least x xs f;
  }

  shifted : (i j k l : ℕ) → (i < k) ⊎ ((i ≡ k) × (j ≤ l)) → (suc i < suc k) ⊎ ((suc i ≡ suc k) × (suc j ≤ suc l))
  shifted i j k l (inl less) = inl (omega arith)
  shifted i j k l (inr e) = inr (ap suc e.0, omega (arith, e.1))

  rest_least : (x : Site) (xs : List Site) → HasNone x xs → (f : FirstPair xs) → (k l : ℕ) (u v : Site) → IsPair (x ∷ xs) k l u v → (suc f.earlier < k) ⊎ ((suc f.earlier ≡ k) × (suc f.later ≤ l))
  rest_least x xs none f k zero u v p = absurd (omega (arith, p.earlier))
  rest_least x xs none f zero (suc l) u v p = absurd (none l v p.second (passes_at_head x u v p.first p.passes))
  rest_least x xs none f (suc k) (suc l) u v p = shifted f.earlier f.later k l (f.first k l u v (pair_of_rest x xs k l u v p))

  rest_pair : (x : Site) (xs : List Site) → HasNone x xs → FirstPair xs → FirstPair (x ∷ xs)
  rest_pair x xs none f = record {
    earlier = suc f.earlier;
    later = suc f.later;
    one = f.one;
    other = f.other;
    pair = record { first = f.pair.first; second = f.pair.second; earlier = omega (arith, f.pair.earlier); passes = f.pair.passes };
    first = rest_least x xs none f;
  }

  pairs : (xs : List Site) → HasNoPair xs ⊎ FirstPair xs
  pairs [] = inl (λ i j x y p. none-some x p.first)
  pairs (x ∷ xs) = elim (after x xs) [
    | inr f ↦ inr (head_pair x xs f)
    | inl none ↦ elim (pairs xs) [
      | inl kept ↦ inl (no_pair x xs none kept)
      | inr f ↦ inr (rest_pair x xs none f)
    ]
  ]

-- ---- the least element that breaks the rule

-- a first breach, with its element
pub record FirstBreachOf (S : Scheme) : Type 0 where
  pub element : ℕ
  pub earlier : ℕ
  pub later : ℕ
  pub one : Site
  pub other : Site
  pub breach : IsFirstBreach S element earlier later one other

module _ (S : Scheme) where
  pair_of : (n i j : ℕ) (x y : Site) → IsBreach S n i j x y → IsPair (break_the_rule S.kinds) (sites_of S n) i j x y
  pair_of n i j x y b = record { first = b.first; second = b.second; earlier = b.earlier; passes = b.breaks }

  breach_of : (n i j : ℕ) (x y : Site) → IsPair (break_the_rule S.kinds) (sites_of S n) i j x y → IsBreach S n i j x y
  breach_of n i j x y p = record { first = p.first; second = p.second; earlier = p.earlier; breaks = p.passes }

  abbrev KeptBelow : ℕ → Type 0
  KeptBelow n = (m : ℕ) → m < n → KeepsTheRule S m

  first_breach : (n : ℕ) → KeptBelow n → FirstPair (break_the_rule S.kinds) (sites_of S n) → FirstBreachOf S
  first_breach n kept f = record {
    element = n;
    earlier = f.earlier;
    later = f.later;
    one = f.one;
    other = f.other;
    breach = record {
      breach = breach_of n f.earlier f.later f.one f.other f.pair;
      first = λ k l u v b. f.first k l u v (pair_of n k l u v b);
      least = kept;
    };
  }

  kept_next : (n : ℕ) → KeptBelow n → KeepsTheRule S n → KeptBelow (suc n)
  kept_next n kept here m less = elim (cases_lt m n) [
    | inl below ↦ kept m below
    | inr above ↦ let e : n ≡ m = omega arith in subst (λ a. KeepsTheRule S a) e here
  ]

  kept_below : (n : ℕ) → KeptBelow n ⊎ FirstBreachOf S
  kept_below zero = inl (λ m less. absurd (omega arith))
  kept_below (suc n) = elim (kept_below n) [
    | inr f ↦ inr f
    | inl kept ↦ elim (pairs (break_the_rule S.kinds) (sites_of S n)) [
      | inl none ↦ inl (kept_next n kept (λ i j x y b. none i j x y (pair_of n i j x y b)))
      | inr f ↦ inr (first_breach n kept f)
    ]
  ]

  -- an element with no calls keeps the rule
  pub kept_of_none : (n : ℕ) → sites_of S n ≡ [] → KeepsTheRule S n
  kept_of_none n e i j x y b = none-some x (sym (ap (λ (ss : List Site). slice_get ss i) e) ∙ b.first)

  -- where no element from a number on has a call: each element keeps the rule, or there is a first breach
  pub kept_or_breached : (count : ℕ) → ((n : ℕ) → count ≤ n → sites_of S n ≡ []) → ((n : ℕ) → KeepsTheRule S n) ⊎ FirstBreachOf S
  kept_or_breached count none = elim (kept_below count) [
    | inr f ↦ inr f
    | inl kept ↦ inl (λ n. elim (cases_lt n count) [
      | inl below ↦ kept n below
      | inr above ↦ kept_of_none n (none n above)
    ])
  ]

-- ---- of a tree

text_past : (h : TreeData) (n : ℕ) → element_count h ≤ n → element_text h n ≡ None
text_past h n past = cond-false (ltb n (element_count h)) (text_at h n) None (le-ltb n (element_count h) past)

sites_past : (h : TreeData) (n : ℕ) → element_count h ≤ n → sites_of (tree_scheme h) n ≡ []
unfolding tree_scheme
sites_past h n past =
    ap
    (λ (o : Option Text). (trace_at o no_answers (filled (ports_of (slice_get (tree_scheme h).elements n)) [])).sites)
    (text_past h n past)

-- a tree keeps the rule in each element, or has a first breach
pub tree_decides : (h : TreeData) → ((n : ℕ) → KeepsTheRule (tree_scheme h) n) ⊎ FirstBreachOf (tree_scheme h)
tree_decides h = kept_or_breached (tree_scheme h) (element_count h) (sites_past h)
