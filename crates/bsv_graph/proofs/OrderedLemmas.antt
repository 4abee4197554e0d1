-- Least orders are one, and how the numbers of an order stand to each other.
use Rattle.std.proofs.Common.{◌≡◌, ◌≢◌, ℕ, ◌+◌, ◌<◌, ◌⊎◌, inl, inr, List, [], ◌∷◌, ◌++◌, refl, sym, ◌∙◌, subst, arith}
use Rattle.std.proofs.lemmas.Bool.Decides.{nat_tests}
use Rattle.std.specs.Prelude.{if◌then◌else◌, ◌==◌}
use Rattle.bsv_graph.specs.declared.edge.Edge.{Edge}
use Rattle.bsv_graph.specs.Orders.{In, IsOnce, Respects, IsUpTo, IsLeastOrder, IsBefore, place_of}
use Rattle.bsv_graph.specs.Walks.{HasEdge, Keeps, done, keep, drop}
use Rattle.bsv_graph.proofs.LeastLemmas.{in_right}

-- the least list is one
pub upto_both : (xs ys : List ℕ) → IsUpTo xs ys → IsUpTo ys xs → xs ≡ ys
upto_both [] [] h k = refl
upto_both [] (y ∷ ys) h k = absurd k
upto_both (x ∷ xs) [] h k = absurd h
upto_both (x ∷ xs) (y ∷ ys) (inl h) (inl k) = absurd (omega arith)
upto_both (x ∷ xs) (y ∷ ys) (inl h) (inr k) = absurd (omega (arith, k.0))
upto_both (x ∷ xs) (y ∷ ys) (inr h) (inl k) = absurd (omega (arith, h.0))
upto_both (x ∷ xs) (y ∷ ys) (inr h) (inr k) = let e = upto_both xs ys h.1 k.1 in let f = h.0 in cc

pub least_one : (n : ℕ) (es : List Edge) (xs ys : List ℕ) → IsLeastOrder n es xs → IsLeastOrder n es ys → xs ≡ ys
least_one n es xs ys p q = upto_both xs ys (p.least ys q.order q.respects) (q.least xs p.order p.respects)

-- the kept edges are one list
pub keeps_one : {es ps fs gs : List Edge} → Keeps es ps fs → Keeps es ps gs → fs ≡ gs
keeps_one done done = refl
keeps_one (keep n k) (keep m j) = keeps_one k j
keeps_one (keep n k) (drop m j) = absurd (n m)
keeps_one (drop n k) (keep m j) = absurd (m n)
keeps_one (drop n k) (drop m j) = keeps_one k j

-- edges that were there stay
pub keeps_has : {es ps fs : List Edge} (a b : ℕ) → Keeps es ps fs → HasEdge es a b → HasEdge fs a b
keeps_has a b done h = h
keeps_has a b (keep n k) h = keeps_has a b k (inr h)
keeps_has a b (drop c k) h = keeps_has a b k h

-- an edge leads forward
pub respects_split : (es : List Edge) (before behind : List ℕ) (e f : ℕ) → Respects es (before ++ (e ∷ behind)) → In (e ∷ behind) f → ¬ HasEdge es f e
respects_split es [] behind e f r i = r.0 f i
respects_split es (x ∷ before) behind e f r i = respects_split es before behind e f r.1 i

pub respects_before : (es : List Edge) (xs : List ℕ) (a b : ℕ) → Respects es xs → In xs a → In xs b → HasEdge es a b → IsBefore xs a b
respects_before es [] a b r i j h = i
respects_before es (x ∷ xs) a b r i (inl e) h = absurd (r.0 a i (subst (λ z. HasEdge es a z) e h))
respects_before es (x ∷ xs) a b r (inl e) (inr j) h = inl (e, j)
respects_before es (x ∷ xs) a b r (inr i) (inr j) h = inr (respects_before es xs a b r.1 i j h)

-- two elements of a list are in one order or the other
pub either_before : (xs : List ℕ) (a b : ℕ) → In xs a → In xs b → a ≢ b → IsBefore xs a b ⊎ IsBefore xs b a
either_before [] a b i j n = absurd i
either_before (x ∷ xs) a b (inl e) (inl f) n = absurd (n (e ∙ sym f))
either_before (x ∷ xs) a b (inl e) (inr j) n = inl (inl (e, j))
either_before (x ∷ xs) a b (inr i) (inl f) n = inr (inl (f, i))
either_before (x ∷ xs) a b (inr i) (inr j) n = elim (either_before xs a b i j n) [ inl k ↦ inl (inr k) | inr k ↦ inr (inr k) ]

pub split_before : (before behind : List ℕ) (e f : ℕ) → In before f → IsBefore (before ++ (e ∷ behind)) f e
split_before [] behind e f i = absurd i
split_before (x ∷ before) behind e f (inl k) = inl (k, in_right before (e ∷ behind) e (inl refl))
split_before (x ∷ before) behind e f (inr i) = inr (split_before before behind e f i)

pub before_in : (xs : List ℕ) (a b : ℕ) → IsBefore xs a b → In xs a × In xs b
before_in [] a b h = absurd h
before_in (x ∷ xs) a b (inl h) = (inl h.0, inr h.1)
before_in (x ∷ xs) a b (inr h) = let k = before_in xs a b h in (inr k.0, inr k.1)

-- places
pub place_here : (x a : ℕ) (n : ℕ) → a ≡ x → (if x == a then 0 else n) ≡ 0
place_here x a n e = grind (arith, nat_tests)

pub place_there : (x a : ℕ) (n : ℕ) → a ≢ x → (if x == a then 0 else n) ≡ n
place_there x a n e = grind (arith, nat_tests)

pub in_not : (xs : List ℕ) (x a : ℕ) → ¬ In xs x → In xs a → a ≢ x
in_not xs x a n i e = n (subst (λ z. In xs z) e i)

pub place_before : (xs : List ℕ) (a b : ℕ) → IsOnce xs → IsBefore xs a b → place_of xs a < place_of xs b
place_before [] a b o h = absurd h
place_before (x ∷ xs) a b o (inl h) = omega (arith, place_here x a (1 + place_of xs a) h.0, place_there x b (1 + place_of xs b) (in_not xs x b o.0 h.1))
place_before (x ∷ xs) a b o (inr h) =
    let k = before_in xs a b h in
    omega (arith, place_there x a (1 + place_of xs a) (in_not xs x a o.0 k.0), place_there x b (1 + place_of xs b) (in_not xs x b o.0 k.1), place_before xs a b o.1 h)
