use Rattle.std.proofs.Common.{◌≡◌, ℕ, ◌<◌, ◌≤◌, add-one, ◌⊎◌, inl, inr, Bool, true, false, List, [], ◌∷◌, ◌++◌, length, get_or, set, take, replicate, refl, zero, suc, sym, subst, arith}
use Rattle.std.proofs.lemmas.Bool.{cases_lt}
use Rattle.std.proofs.lemmas.List.{take_all}
use Rattle.bsv_graph.specs.declared.edge.Edge.{Edge}
use Rattle.bsv_graph.specs.Orders.{In, Respects, IsLeastOrder}
use Rattle.bsv_graph.specs.Reaching.{AreWithin}
use Rattle.bsv_graph.specs.Walks.{HasEdge, Walk, IsAcyclic, Closes, NoneCloses, ClosesFirst, Keeps, done, keep, drop}
use Rattle.bsv_graph.proofs.WalkLemmas.{walk_then, walk_map, none_first, none_more, closes_first}
use Rattle.bsv_graph.proofs.LeastLemmas.{IsNext, IsGreedy, IsFilled, greedy_snoc, filled_none, filled_more, filled_fresh, filled_open, filled_some, filled_order, least_from_greedy}
use Rattle.bsv_graph.proofs.Deciding.{Decided, decide_both, decide_not, decide_walk, decide_closes, decide_in, IsFirstWith, first_with}

-- m is below k and not in the list, and no walk leads to it from another such number
record IsEarliest (es : List Edge) (order : List ℕ) (k m : ℕ) : Type 0 where
  below : m < k
  fresh : ¬ In order m
  first : (a : ℕ) → a < k → ¬ In order a → ¬ Walk es a m

-- no walk leads to c from a number below n that is not in the list
abbrev NoneLeads : List Edge → ℕ → List ℕ → ℕ → Type 0
NoneLeads es n order c = (a : ℕ) → a < n → ¬ In order a → ¬ Walk es a c

-- c is not in the list, and may come next
abbrev MayFollow : List Edge → ℕ → List ℕ → ℕ → Type 0
MayFollow es n order c = ¬ In order c × NoneLeads es n order c

module _ (es : List Edge) (acyclic : IsAcyclic es) (order : List ℕ) where
  -- k takes the place of the earliest so far where it leads to it
  earliest_next : (k m : ℕ) → ¬ In order k → IsEarliest es order k m → Decided (Walk es k m) → (x : ℕ) × IsEarliest es order (suc k) x
  earliest_next k m o u (inl leads) = (
    k,
    record {
      below = omega arith;
      fresh = o;
      first = λ a l f w. elim (cases_lt a k) [
        | inl lt ↦ u.first a lt f (walk_then w leads)
        | inr ge ↦ let e : a ≡ k = omega arith in acyclic k (subst (λ z. Walk es z k) e w)
      ];
    },
  )
  earliest_next k m o u (inr apart) = (
    m,
    record {
      below = omega (arith, u.below);
      fresh = u.fresh;
      first = λ a l f w. elim (cases_lt a k) [
        | inl lt ↦ u.first a lt f w
        | inr ge ↦ let e : a ≡ k = omega arith in apart (subst (λ z. Walk es z m) e w)
      ];
    },
  )

  earliest_more : (k : ℕ) → Decided (In order k) → ((a : ℕ) → a < k → In order a) ⊎ ((m : ℕ) × IsEarliest es order k m)
      → ((a : ℕ) → a < suc k → In order a) ⊎ ((m : ℕ) × IsEarliest es order (suc k) m)
  earliest_more k (inl i) (inl f) = inl (λ a l. elim (cases_lt a k) [
    | inl lt ↦ f a lt
    | inr ge ↦ let e : a ≡ k = omega arith in rw e i
  ])
  earliest_more k (inr o) (inl f) = inr (
    k,
    record {
      below = omega arith;
      fresh = o;
      first = λ a l g w. elim (cases_lt a k) [
        | inl lt ↦ g (f a lt)
        | inr ge ↦ let e : a ≡ k = omega arith in acyclic k (subst (λ z. Walk es z k) e w)
      ];
    },
  )
  earliest_more k (inl i) (inr u) = inr (
    u.0,
    record {
      below = omega (arith, u.1.below);
      fresh = u.1.fresh;
      first = λ a l g w. elim (cases_lt a k) [
        | inl lt ↦ u.1.first a lt g w
        | inr ge ↦ let e : a ≡ k = omega arith in g (rw e i)
      ];
    },
  )
  earliest_more k (inr o) (inr u) = inr (earliest_next k u.0 o u.1 (decide_walk es k u.0))

  earliest : (k : ℕ) → ((a : ℕ) → a < k → In order a) ⊎ ((m : ℕ) × IsEarliest es order k m)
  earliest zero = inl (λ a l. absurd (omega arith))
  earliest (suc k) = earliest_more k (decide_in order k) (earliest k)

  decide_none_leads : (n c : ℕ) → Decided (NoneLeads es n order c)
  decide_none_leads n c = elim (first_with (λ a. ¬ In order a × Walk es a c) (λ a. decide_both (decide_not (decide_in order a)) (decide_walk es a c)) n) [
    | inl f ↦ inl (λ a l h w. f a l (h, w))
    | inr x ↦ inr (λ g. g x.0 x.1.below x.1.holds.0 x.1.holds.1)
  ]

  -- where a number is left, one is next
  some_next : (n a : ℕ) → a < n → ¬ In order a → (x : ℕ) × IsNext es n order x
  some_next n a l h = go (earliest n) (first_with (MayFollow es n order) (λ c. decide_both (decide_not (decide_in order c)) (decide_none_leads n c)) n)
    where
      go : ((b : ℕ) → b < n → In order b) ⊎ ((m : ℕ) × IsEarliest es order n m) → ((b : ℕ) → b < n → ¬ MayFollow es n order b) ⊎ ((x : ℕ) × IsFirstWith (MayFollow es n order) n x)
          → (x : ℕ) × IsNext es n order x
      go (inl f) x = absurd (h (f a l))
      go (inr m) (inl f) = absurd (f m.0 m.1.below (m.1.fresh, m.1.first))
      go (inr m) (inr x) = (
        x.0,
        record {
          below = x.1.below;
          fresh = x.1.holds.0;
          ready = x.1.holds.1;
          least = λ c k f g. elim (cases_lt c x.0) [
            | inl lt ↦ absurd (x.1.lower c lt (f, g))
            | inr ge ↦ ge
          ];
        },
      )

module _ (es : List Edge) (n : ℕ) (within : AreWithin n es) (acyclic : IsAcyclic es) where
  -- the first i numbers of the least order
  least_taken : (i : ℕ) → i ≤ n → (placed : List Bool) × (order : List ℕ) × IsFilled n placed order i × IsGreedy es n [] order
  least_taken zero h = (replicate n false, [], filled_none n (replicate n false) refl, tt)
  least_taken (suc i) h =
      let t = least_taken i (omega arith) in
      let s = filled_some n t.0 t.1 i t.2 (omega arith) in
      let x = some_next es acyclic t.1 n s.0 s.1 (filled_fresh n t.0 t.1 i t.2 s.0 s.2) in
      let o = filled_open n t.0 t.1 i t.2 x.0 x.1.below x.1.fresh in
      (set t.0 x.0 true, t.1 ++ (x.0 ∷ []), rw add-one at (filled_more n t.0 t.1 i x.0 t.2 x.1.below o), greedy_snoc es n [] t.1 x.0 t.3 x.1)

  least_within : (xs : List ℕ) × IsLeastOrder n es xs
  least_within =
      let t = least_taken n (omega arith) in
      (t.1, least_from_greedy es n t.1 within (filled_order n t.0 t.1 n t.2 (omega arith)) t.3)

-- the edges of es between numbers below n are those of fs
record AreInner (n : ℕ) (es fs : List Edge) : Type 0 where
  has : (a b : ℕ) → HasEdge es a b → a < n → b < n → HasEdge fs a b
  from : (a b : ℕ) → HasEdge fs a b → HasEdge es a b
  within : AreWithin n fs

inner_more : (n : ℕ) (e : Edge) (es fs : List Edge) → AreInner n es fs → e.from < n → e.to < n → AreInner n (e ∷ es) (e ∷ fs)
inner_more n e es fs i l m = record {
  has = λ a b h x y. elim h [ inl k ↦ inl k | inr k ↦ inr (i.has a b k x y) ];
  from = λ a b h. elim h [ inl k ↦ inl k | inr k ↦ inr (i.from a b k) ];
  within = λ a b h. elim h [
    | inl k ↦ (subst (λ x. x < n) (sym k.0) l, subst (λ x. x < n) (sym k.1) m)
    | inr k ↦ i.within a b k
  ];
}

inner_less : (n : ℕ) (e : Edge) (es fs : List Edge) → AreInner n es fs → (e.from < n → e.to < n → ⊥) → AreInner n (e ∷ es) fs
inner_less n e es fs i out = record {
  has = λ a b h x y. elim h [
    | inl k ↦ absurd (out (subst (λ z. z < n) k.0 x) (subst (λ z. z < n) k.1 y))
    | inr k ↦ i.has a b k x y
  ];
  from = λ a b h. inr (i.from a b h);
  within = i.within;
}

inner : (n : ℕ) (es : List Edge) → (fs : List Edge) × AreInner n es fs
inner n [] = ([], record { has = λ a b h x y. h; from = λ a b h. h; within = λ a b h. absurd h })
inner n (e ∷ es) =
    let i = inner n es in
    elim (cases_lt e.from n) [
      | inl l ↦ elim (cases_lt e.to n) [
        | inl m ↦ (e ∷ i.0, inner_more n e es i.0 i.1 l m)
        | inr m ↦ (i.0, inner_less n e es i.0 i.1 (λ x y. omega (arith, y, m)))
      ]
      | inr l ↦ (i.0, inner_less n e es i.0 i.1 (λ x y. omega (arith, x, l)))
    ]

respects_less : (es fs : List Edge) (xs : List ℕ) → ((a b : ℕ) → In xs a → In xs b → HasEdge fs a b → HasEdge es a b) → Respects es xs
    → Respects fs xs
respects_less es fs [] f r = tt
respects_less es fs (x ∷ xs) f r =
    (λ y i h. r.0 y i (f y x i (inl refl) h), respects_less es fs xs (λ a b i j h. f a b (inr i) (inr j) h) r.1)

-- edges without a cycle have a least order; those that lead elsewhere than between its numbers don't matter to it
pub least_exists : (es : List Edge) (n : ℕ) → IsAcyclic es → (xs : List ℕ) × IsLeastOrder n es xs
least_exists es n acyclic =
    let i = inner n es in
    let x = least_within i.0 n i.1.within (λ a w. acyclic a (walk_map i.1.from w)) in (
      x.0,
      record {
        order = x.1.order;
        respects = respects_less i.0 es x.0 (λ a b j k h. i.1.has a b h (x.1.order.below a j) (x.1.order.below b k)) x.1.respects;
        least = λ ys o r. x.1.least ys o (respects_less es i.0 ys (λ a b j k h. i.1.from a b h) r);
      },
    )

-- the edges that are kept
pub keeps_exists : (ps es : List Edge) → (fs : List Edge) × Keeps es ps fs
keeps_exists [] es = (es, done)
keeps_exists (p ∷ ps) es = elim (decide_closes es p) [
  | inl c ↦ let k = keeps_exists ps es in (k.0, drop c k.1)
  | inr c ↦ let k = keeps_exists ps (p ∷ es) in (k.0, keep c k.1)
]

-- none of the edges closes a cycle, or there is a first
module _ (es ps : List Edge) (d : Edge) where
  closes_next : (k : ℕ) → k < length ps → NoneCloses es (take k ps) → Decided (Closes (take k ps ++ es) (get_or ps k d))
      → NoneCloses es (take (suc k) ps) ⊎ ((j : ℕ) × ClosesFirst es ps j × (j < length ps))
  closes_next k l f (inl c) = inr (k, closes_first es ps k d l f c, l)
  closes_next k l f (inr c) = inl (rw add-one at (none_more es ps k d l f c))

  closes_upto : (k : ℕ) → k ≤ length ps → NoneCloses es (take k ps) ⊎ ((j : ℕ) × ClosesFirst es ps j × (j < length ps))
  closes_upto zero h = inl (none_first es)
  closes_upto (suc k) h = elim (closes_upto k (omega arith)) [
    | inl f ↦ closes_next k (omega arith) f (decide_closes (take k ps ++ es) (get_or ps k d))
    | inr x ↦ inr x
  ]

pub closes_or_none : (es ps : List Edge) → NoneCloses es ps ⊎ ((k : ℕ) × ClosesFirst es ps k × (k < length ps))
closes_or_none es ps = rw (take_all (length ps) ps (omega arith)) at (closes_upto es ps (record { from = 0; to = 0 }) (length ps) (omega arith))
