use Rattle.std.proofs.Common.{◌≡◌, ◌≢◌, ℕ, ◌+◌, ◌<◌, ◌≤◌, ◌⊎◌, inl, inr, Bool, true, false, List, [], ◌∷◌, ◌++◌, length, get_or, set, replicate, refl, zero, suc, sym, ◌∙◌, ap, subst, arith, append_assoc, append-nil, length-set, get_or-set_same, get_or-set_other}
use Rattle.std.proofs.lemmas.Bool.{cases_eq, cases_lt, cases_Bool}
use Rattle.std.proofs.Common.{take, drop}
use Rattle.std.proofs.lemmas.List.{get_or-replicate, length-replicate, take_all, drop_all}
use Rattle.std.specs.Prelude.{IsTrue, All}
use Rattle.bsv_graph.specs.declared.table.Table.{Table}
use Rattle.bsv_graph.specs.declared.edge.Edge.{Edge}
use Rattle.bsv_graph.specs.Table.{at}
use Rattle.bsv_graph.specs.Growing.{IsClosed}
use Rattle.bsv_graph.specs.Reaching.{AreWithin, Marks}
use Rattle.bsv_graph.specs.Ready.{IsStrict, IsReady, IsLeastReady, AreClear}
use Rattle.bsv_graph.specs.Walks.{HasEdge, Walk, step, more}
use Rattle.bsv_graph.specs.Orders.{In, IsOnce, IsOrderOf, Respects, IsUpTo, IsLeastOrder}

pub truth_cases : (b : Bool) → IsTrue b ⊎ ¬ IsTrue b
truth_cases true = inl refl
truth_cases false = inr (λ h. cc)

-- m is open, below k, and no open element below k leads to it
record IsMinimal (t : Table) (bs : List Bool) (k m : ℕ) : Type 0 where
  below : m < k
  is_open : get_or bs m false ≡ false
  first : (a : ℕ) → a < k → get_or bs a false ≡ false → ¬ IsTrue (at t a m)

module _ (t : Table) (bs : List Bool) (strict : IsStrict t) (closed : IsClosed t) where
  -- k takes the place of the least so far where it leads to it
  next_minimal : (k m : ℕ) → suc k ≤ t.side → get_or bs k false ≡ false → IsMinimal t bs k m
      → IsTrue (at t k m) ⊎ ¬ IsTrue (at t k m) → (x : ℕ) × IsMinimal t bs (suc k) x
  next_minimal k m h o u (inl leads) = (
    k,
    record {
      below = omega arith;
      is_open = o;
      first = λ a l p q. elim (cases_lt a k) [
        | inl lt ↦ u.first a lt p (closed a k m (omega arith) (omega arith) (omega (arith, u.below)) q leads)
        | inr ge ↦ let e : a ≡ k = omega arith in strict k (omega arith) (rw e at q)
      ];
    },
  )
  next_minimal k m h o u (inr apart) = (
    m,
    record {
      below = omega (arith, u.below);
      is_open = u.is_open;
      first = λ a l p q. elim (cases_lt a k) [
        | inl lt ↦ u.first a lt p q
        | inr ge ↦ let e : a ≡ k = omega arith in apart (rw e at q)
      ];
    },
  )

  minimal : (k : ℕ) → k ≤ t.side → ((a : ℕ) → a < k → get_or bs a false ≡ true) ⊎ ((m : ℕ) × IsMinimal t bs k m)
  minimal zero h = inl (λ a l. absurd (omega arith))
  minimal (suc k) h = go (cases_Bool (get_or bs k false)) (minimal k (omega arith))
    where
      go : (get_or bs k false ≡ true) ⊎ (get_or bs k false ≡ false)
          → ((a : ℕ) → a < k → get_or bs a false ≡ true) ⊎ ((m : ℕ) × IsMinimal t bs k m)
          → ((a : ℕ) → a < suc k → get_or bs a false ≡ true) ⊎ ((m : ℕ) × IsMinimal t bs (suc k) m)
      go (inl o) (inl f) = inl (λ a l. elim (cases_lt a k) [
        | inl lt ↦ f a lt
        | inr ge ↦ let e : a ≡ k = omega arith in rw e o
      ])
      go (inr o) (inl f) = inr (
        k,
        record {
          below = omega arith;
          is_open = o;
          first = λ a l p q. elim (cases_lt a k) [
            | inl lt ↦ let u : get_or bs a false ≡ true = f a lt in cc
            | inr ge ↦ let e : a ≡ k = omega arith in strict k (omega arith) (rw e at q)
          ];
        },
      )
      go (inl o) (inr u) = inr (
        u.0,
        record {
          below = omega (arith, u.1.below);
          is_open = u.1.is_open;
          first = λ a l p q. elim (cases_lt a k) [
            | inl lt ↦ u.1.first a lt p q
            | inr ge ↦ let e : get_or bs a false ≡ true = (let f : a ≡ k = omega arith in rw f o) in cc
          ];
        },
      )
      go (inr o) (inr u) = inr (next_minimal k u.0 h o u.1 (truth_cases (at t k u.0)))

  -- where an element is open, one is ready
  pub some_ready : (a : ℕ) → a < t.side → get_or bs a false ≡ false → (m : ℕ) × (m < t.side) × IsReady t bs m
  some_ready a l o = elim (minimal t.side (omega arith)) [
    | inl f ↦ let e : get_or bs a false ≡ true = f a l in cc
    | inr u ↦ (u.0, u.1.below, record { open_still = u.1.is_open; first = u.1.first })
  ]

-- membership
pub in_left : (xs ys : List ℕ) (a : ℕ) → In xs a → In (xs ++ ys) a
in_left [] ys a h = absurd h
in_left (x ∷ xs) ys a (inl h) = inl h
in_left (x ∷ xs) ys a (inr h) = inr (in_left xs ys a h)

pub in_right : (xs ys : List ℕ) (a : ℕ) → In ys a → In (xs ++ ys) a
in_right [] ys a h = h
in_right (x ∷ xs) ys a h = inr (in_right xs ys a h)

pub in_parts : (xs ys : List ℕ) (a : ℕ) → In (xs ++ ys) a → In xs a ⊎ In ys a
in_parts [] ys a h = inr h
in_parts (x ∷ xs) ys a (inl h) = inl (inl h)
in_parts (x ∷ xs) ys a (inr h) = elim (in_parts xs ys a h) [ inl k ↦ inl (inr k) | inr k ↦ inr k ]

-- what is in front does not come again
pub once_apart : (xs ys : List ℕ) (a : ℕ) → IsOnce (xs ++ ys) → In xs a → In ys a → ⊥
once_apart [] ys a o h k = h
once_apart (x ∷ xs) ys a o (inl h) k = o.0 (in_right xs ys x (subst (λ z. In ys z) h k))
once_apart (x ∷ xs) ys a o (inr h) k = once_apart xs ys a o.1 h k

pub once_snoc : (xs : List ℕ) (a : ℕ) → IsOnce xs → ¬ In xs a → IsOnce (xs ++ (a ∷ []))
once_snoc [] a o n = (λ h. h, tt)
once_snoc (x ∷ xs) a o n = (
  λ h. elim (in_parts xs (a ∷ []) x h) [ inl k ↦ o.0 k | inr (inl k) ↦ n (inl (sym k)) | inr (inr k) ↦ k ],
  once_snoc xs a o.1 (λ h. n (inr h)),
)

-- no edge leads back from after
pub respects_apart : (es : List Edge) (xs ys : List ℕ) (p a : ℕ) → Respects es (xs ++ ys) → In xs p → In ys a → ¬ HasEdge es a p
respects_apart es [] ys p a r h k e = h
respects_apart es (x ∷ xs) ys p a r (inl h) k e = r.0 a (inr (in_right xs ys a k)) (subst (λ z. HasEdge es a z) h e)
respects_apart es (x ∷ xs) ys p a r (inr h) k e = respects_apart es xs ys p a r.1 h k e

pub respects_after : (es : List Edge) (xs ys : List ℕ) → Respects es (xs ++ ys) → Respects es ys
respects_after es [] ys r = r
respects_after es (x ∷ xs) ys r = respects_after es xs ys r.1

-- the least element that has no walk from another that is not in the list
pub record IsNext (es : List Edge) (n : ℕ) (before : List ℕ) (x : ℕ) : Type 0 where
  pub below : x < n
  pub fresh : ¬ In before x
  pub ready : (a : ℕ) → a < n → ¬ In before a → ¬ Walk es a x
  pub least : (c : ℕ) → c < n → ¬ In before c → ((a : ℕ) → a < n → ¬ In before a → ¬ Walk es a c) → x ≤ c

-- each of the list is the next after those in front
abbrev pub IsGreedy : List Edge → ℕ → List ℕ → List ℕ → Type 0
IsGreedy es n before [] = Unit {0}
IsGreedy es n before (x ∷ xs) = IsNext es n before x × IsGreedy es n (before ++ (x ∷ [])) xs

pub greedy_snoc : (es : List Edge) (n : ℕ) (before xs : List ℕ) (z : ℕ) → IsGreedy es n before xs → IsNext es n (before ++ xs) z
    → IsGreedy es n before (xs ++ (z ∷ []))
greedy_snoc es n before [] z g h = (rw append-nil at h, tt)
greedy_snoc es n before (x ∷ xs) z g h = (g.0, greedy_snoc es n (before ++ (x ∷ [])) xs z g.1 (rw append_assoc h))

-- a walk from what is left does not lead to the first of it
module _ (es : List Edge) (n : ℕ) (within : AreWithin n es) (before : List ℕ) (y : ℕ) (ys : List ℕ)
    (o : IsOrderOf n (before ++ (y ∷ ys))) (r : Respects es (before ++ (y ∷ ys))) where
  left_of : (a : ℕ) → a < n → ¬ In before a → In (y ∷ ys) a
  left_of a l f = elim (in_parts before (y ∷ ys) a (o.each a l)) [ inl h ↦ absurd (f h) | inr h ↦ h ]

  stays : (a c : ℕ) → In (y ∷ ys) a → HasEdge es a c → In (y ∷ ys) c
  stays a c h e = left_of c (within a c e).1 (λ k. respects_apart es before (y ∷ ys) c a r k h e)

  no_walk : (a b : ℕ) → b ≡ y → In (y ∷ ys) a → ¬ Walk es a b
  no_walk a b e h (step k) = (respects_after es before (y ∷ ys) r).0 a h (subst (λ z. HasEdge es a z) e k)
  no_walk a b e h (more k w) = no_walk _ b e (stays a _ h k) w

pub greedy_least : (es : List Edge) (n : ℕ) → AreWithin n es → (before xs ys : List ℕ) → IsGreedy es n before xs
    → IsOrderOf n (before ++ ys) → Respects es (before ++ ys) → IsUpTo xs ys
greedy_least es n w before [] ys g o r = tt
greedy_least es n w before (x ∷ xs) [] g o r = g.0.fresh (rw append-nil at (o.each x g.0.below))
greedy_least es n w before (x ∷ xs) (y ∷ ys) g o r = elim (cases_lt x y) [
  | inl lt ↦ inl lt
  | inr ge ↦ let e : x ≡ y = omega (arith, at_most) in
      inr (e, greedy_least es n w (before ++ (x ∷ [])) xs ys g.1 (rw (append_assoc, e) o) (rw (append_assoc, e) r))
]
  where
    y_in : In (y ∷ ys) y
    y_in = inl refl

    at_most : x ≤ y
    at_most = g.0.least y (o.below y (in_right before (y ∷ ys) y y_in)) (λ h. once_apart before (y ∷ ys) y o.once h y_in)
        (λ a l f v. no_walk es n w before y ys o r a y refl (left_of es n w before y ys o r a l f) v)

pub greedy_respects : (es : List Edge) (n : ℕ) (before xs : List ℕ) → IsGreedy es n before xs → IsOrderOf n (before ++ xs) → Respects es xs
greedy_respects es n before [] g o = tt
greedy_respects es n before (x ∷ xs) g o = (
  λ y h e. g.0.ready y (o.below y (in_right before (x ∷ xs) y h)) (λ k. once_apart before (x ∷ xs) y o.once k h) (step e),
  greedy_respects es n (before ++ (x ∷ [])) xs g.1 (rw append_assoc o),
)

-- how many are open
pub open_count : List Bool → ℕ
open_count [] = 0
open_count (true ∷ bs) = open_count bs
open_count (false ∷ bs) = suc (open_count bs)

count_set : (bs : List Bool) (i : ℕ) → i < length bs → get_or bs i false ≡ false → suc (open_count (set bs i true)) ≡ open_count bs
unfolding open_count
count_set [] i h e = absurd (omega arith)
count_set (true ∷ bs) zero h e = cc
count_set (false ∷ bs) zero h e = refl
count_set (true ∷ bs) (suc i) h e = count_set bs i (omega (arith, h)) e
count_set (false ∷ bs) (suc i) h e = ap suc (count_set bs i (omega (arith, h)) e)

count_replicate : (n : ℕ) → open_count (replicate n false) ≡ n
unfolding open_count
count_replicate zero = refl
count_replicate (suc n) = ap suc (count_replicate n)

count_some : (bs : List Bool) → 0 < open_count bs → (a : ℕ) × (a < length bs) × (get_or bs a false ≡ false)
unfolding open_count
count_some [] h = absurd (omega arith)
count_some (true ∷ bs) h = let r = count_some bs h in (suc r.0, omega (arith, r.1), r.2)
count_some (false ∷ bs) h = (0, omega arith, refl)

count_none : (bs : List Bool) (a : ℕ) → open_count bs ≡ 0 → a < length bs → get_or bs a false ≡ true
unfolding open_count
count_none [] a e h = absurd (omega arith)
count_none (true ∷ bs) zero e h = refl
count_none (true ∷ bs) (suc a) e h = count_none bs a e (omega (arith, h))
count_none (false ∷ bs) a e h = absurd (omega (arith, e))

-- the marks say which numbers are in the list, of which there are i
pub record IsFilled (n : ℕ) (placed : List Bool) (order : List ℕ) (i : ℕ) : Type 0 where
  pub size : length placed ≡ n
  pub count : open_count placed + i ≡ n
  pub marked : (a : ℕ) → a < n → get_or placed a false ≡ true → In order a
  pub listed : (a : ℕ) → In order a → (a < n) × (get_or placed a false ≡ true)
  pub once : IsOnce order

pub filled_none : (n : ℕ) (placed : List Bool) → placed ≡ replicate n false → IsFilled n placed [] 0
filled_none n placed e = rw e (record {
  size = simp length-replicate;
  count = omega (arith, count_replicate n);
  marked = λ a l h. let k : get_or (replicate n false) a false ≡ false = get_or-replicate n a false false l in cc;
  listed = λ a h. absurd h;
  once = tt;
})

pub filled_fresh : (n : ℕ) (placed : List Bool) (order : List ℕ) (i : ℕ) → IsFilled n placed order i → (a : ℕ) → get_or placed a false ≡ false → ¬ In order a
filled_fresh n placed order i f a e h = let k : get_or placed a false ≡ true = (f.listed a h).1 in cc

pub filled_open : (n : ℕ) (placed : List Bool) (order : List ℕ) (i : ℕ) → IsFilled n placed order i → (a : ℕ) → a < n → ¬ In order a → get_or placed a false ≡ false
filled_open n placed order i f a l h = elim (cases_Bool (get_or placed a false)) [ inl e ↦ absurd (h (f.marked a l e)) | inr e ↦ e ]

pub filled_more : (n : ℕ) (placed : List Bool) (order : List ℕ) (i x : ℕ) → IsFilled n placed order i → x < n → get_or placed x false ≡ false
    → IsFilled n (set placed x true) (order ++ (x ∷ [])) (i + 1)
filled_more n placed order i x f l e = record {
  size = length-set placed x true ∙ f.size;
  count = omega (arith, f.count, count_set placed x inside e);
  marked = λ a u h. elim (cases_eq a x) [
    | inl k ↦ in_right order (x ∷ []) a (inl k)
    | inr k ↦ in_left order (x ∷ []) a (f.marked a u (sym (get_or-set_other placed x a true false k) ∙ h))
  ];
  listed = λ a h. elim (in_parts order (x ∷ []) a h) [
    | inl k ↦ listed' a (cases_eq a x) k
    | inr (inl k) ↦ (rw k l, rw k (get_or-set_same placed x true false inside))
    | inr (inr k) ↦ absurd k
  ];
  once = once_snoc order x f.once (filled_fresh n placed order i f x e);
}
  where
    inside : x < length placed
    inside = omega (arith, f.size)

    listed' : (a : ℕ) → (a ≡ x) ⊎ (a ≢ x) → In order a → (a < n) × (get_or (set placed x true) a false ≡ true)
    listed' a (inl k) h = (rw k l, rw k (get_or-set_same placed x true false inside))
    listed' a (inr k) h = ((f.listed a h).0, get_or-set_other placed x a true false k ∙ (f.listed a h).1)

pub filled_some : (n : ℕ) (placed : List Bool) (order : List ℕ) (i : ℕ) → IsFilled n placed order i → i < n
    → (a : ℕ) × (a < n) × (get_or placed a false ≡ false)
filled_some n placed order i f h = let r = count_some placed (omega (arith, f.count)) in (r.0, omega (arith, r.1, f.size), r.2)

pub filled_order : (n : ℕ) (placed : List Bool) (order : List ℕ) (i : ℕ) → IsFilled n placed order i → n ≤ i → IsOrderOf n order
filled_order n placed order i f h = record {
  each = λ a l. f.marked a l (count_none placed a (omega (arith, f.count)) (omega (arith, f.size)));
  below = λ a k. (f.listed a k).0;
  once = f.once;
}

-- the least ready element is the next
pub next_from_ready : (es : List Edge) (t : Table) (placed : List Bool) (order : List ℕ) (i x : ℕ) → Marks es t → IsFilled t.side placed order i
    → IsLeastReady t placed x → IsNext es t.side order x
next_from_ready es t placed order i x m f r = record {
  below = r.below;
  fresh = filled_fresh t.side placed order i f x r.ready.open_still;
  ready = λ a l h w. r.ready.first a l (filled_open t.side placed order i f a l h) (m.marked a x w);
  least = λ c l h g. r.least c l (record {
    open_still = filled_open t.side placed order i f c l h;
    first = λ a u e w. g a u (filled_fresh t.side placed order i f a e) (m.walk a c u l w);
  });
}

-- the list is the least order
pub least_from_greedy : (es : List Edge) (n : ℕ) (xs : List ℕ) → AreWithin n es → IsOrderOf n xs → IsGreedy es n [] xs → IsLeastOrder n es xs
least_from_greedy es n xs w o g = record {
  order = o;
  respects = greedy_respects es n [] xs g o;
  least = λ ys p r. greedy_least es n w [] xs ys g p r;
}

-- one turn: the least ready element comes next
pub greedy_more : (es : List Edge) (t : Table) (placed : List Bool) (order : List ℕ) (i x : ℕ) → Marks es t → IsFilled t.side placed order i
    → IsLeastReady t placed x → IsGreedy es t.side [] order → IsGreedy es t.side [] (order ++ (x ∷ []))
greedy_more es t placed order i x m f r g = greedy_snoc es t.side [] order x g (next_from_ready es t placed order i x m f r)

-- where nothing is waited for, the cursors are at 0
pub clear_first : (t : Table) (placed : List Bool) (waits : List ℕ) (z : ℕ) → z ≡ 0 → waits ≡ replicate t.side z → AreClear t placed waits
clear_first t placed waits z zeroth e = rw e (record {
  size = length-replicate t.side z;
  within = λ b l. omega (arith, zeroth, get_or-replicate t.side b z 0 l);
  clear = λ b l a h. absurd (omega (arith, h, zeroth, get_or-replicate t.side b z 0 l));
})

-- what is clear stays so where one more is placed
open_before : (placed : List Bool) (x a : ℕ) → x < length placed → get_or (set placed x true) a false ≡ false → get_or placed a false ≡ false
open_before placed x a l h = elim (cases_eq a x) [
  | inl e ↦ let k : get_or (set placed x true) a false ≡ true = rw e (get_or-set_same placed x true false l) in cc
  | inr ne ↦ sym (get_or-set_other placed x a true false ne) ∙ h
]

pub clear_placed : (t : Table) (placed : List Bool) (waits : List ℕ) (x : ℕ) → x < length placed → AreClear t placed waits
    → AreClear t (set placed x true) waits
clear_placed t placed waits x l c = record {
  size = c.size;
  within = c.within;
  clear = λ b k a h o. c.clear b k a h (open_before placed x a l o);
}

-- a whole slice that was lent and comes back
pub lent_back : (n : ℕ) (lent kept : List ℕ) → length lent ≡ n → length kept ≡ n → take n (lent ++ drop (length lent) kept) ≡ lent
lent_back n lent kept p q =
    let e : drop (length lent) kept ≡ [] = drop_all (length lent) kept (omega (arith, p, q)) in
    rw (e, append-nil) (take_all n lent (omega (arith, p)))

-- each number of an order is below n
pub in_read : (xs : List ℕ) (k d : ℕ) → k < length xs → In xs (get_or xs k d)
in_read [] k d h = absurd (omega arith)
in_read (x ∷ xs) zero d h = inl refl
in_read (x ∷ xs) (suc k) d h = inr (in_read xs k d (omega (arith, h)))

pub order_below : (n : ℕ) (xs : List ℕ) → IsOrderOf n xs → All (λ a. a < n) xs
order_below n xs o = λ k d h. o.below _ (in_read xs k d h)
