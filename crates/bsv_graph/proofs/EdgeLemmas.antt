use Rattle.std.proofs.Common.{◌≡◌, ℕ, ◌<◌, inl, inr, Bool, true, false, List, [], ◌∷◌, length, get_or, map, refl, zero, suc, sym, subst, arith}
use Rattle.std.proofs.lemmas.Bool.{cases_eq}
use Rattle.std.specs.Prelude.{IsTrue, if◌then◌else◌, filter}
use Rattle.std.specs.List.{flat_map}
use Rattle.bsv_graph.specs.declared.edge.Edge.{Edge}
use Rattle.bsv_graph.specs.Edges.{AllBelow, numbers_below, edges_from, edges_where}
use Rattle.bsv_graph.specs.Reaching.{AreWithin}
use Rattle.bsv_graph.specs.Orders.{In}
use Rattle.bsv_graph.specs.Walks.{HasEdge}
use Rattle.bsv_graph.proofs.WalkLemmas.{edge_parts, edge_left, edge_right}
use Rattle.bsv_graph.proofs.LeastLemmas.{in_left, in_right, in_parts}

-- an edge of the list at a place
pub edge_read : (es : List Edge) (k : ℕ) (d : Edge) → k < length es → HasEdge es (get_or es k d).from (get_or es k d).to
edge_read [] k d h = absurd (omega arith)
edge_read (e ∷ es) zero d h = inl (refl, refl)
edge_read (e ∷ es) (suc k) d h = inr (edge_read es k d (omega (arith, h)))

pub all_within : (n : ℕ) (es : List Edge) → AreWithin n es → AllBelow n es
all_within n es w = λ k d h. w _ _ (edge_read es k d h)

pub within_all : (n : ℕ) (es : List Edge) → AllBelow n es → AreWithin n es
within_all n [] g a b h = absurd h
within_all n (e ∷ es) g a b (inl h) = let k = g 0 e (omega arith) in (rw h.0 k.0, rw h.1 k.1)
within_all n (e ∷ es) g a b (inr h) = within_all n es (λ k d l. g (suc k) d (omega arith)) a b h

-- the numbers below n
pub below_in : (n a : ℕ) → a < n → In (numbers_below n) a
below_in zero a h = absurd (omega arith)
below_in (suc k) a h = elim (cases_eq a k) [
  | inl e ↦ in_right (numbers_below k) (k ∷ []) a (inl e)
  | inr ne ↦ in_left (numbers_below k) (k ∷ []) a (below_in k a (omega arith))
]

pub in_below : (n a : ℕ) → In (numbers_below n) a → a < n
in_below zero a h = absurd h
in_below (suc k) a h = elim (in_parts (numbers_below k) (k ∷ []) a h) [
  | inl i ↦ let l : a < k = in_below k a i in omega arith
  | inr (inl e) ↦ omega arith
  | inr (inr i) ↦ absurd i
]

-- the edges from a that pass the test, of those to a list
abbrev pub passing : (ℕ → ℕ → Bool) → ℕ → List ℕ → List Edge
passing test a xs = map (λ b. record { from = a; to = b }) (filter (test a) xs)

module _ (test : ℕ → ℕ → Bool) (a : ℕ) where
  step_has : (t : Bool) (x : ℕ) (xs : List ℕ) (b : ℕ) → (b ≡ x → IsTrue t) → (In xs b → HasEdge (passing test a xs) a b) → In (x ∷ xs) b
      → HasEdge (map (λ c. record { from = a; to = c }) (if t then x ∷ filter (test a) xs else filter (test a) xs)) a b
  step_has true x xs b f g (inl e) = inl (refl, e)
  step_has true x xs b f g (inr i) = inr (g i)
  step_has false x xs b f g (inl e) = let h : IsTrue false = f e in cc
  step_has false x xs b f g (inr i) = g i

  pub passing_has : (xs : List ℕ) (b : ℕ) → In xs b → IsTrue (test a b) → HasEdge (passing test a xs) a b
  passing_has [] b i h = absurd i
  passing_has (x ∷ xs) b i h = step_has (test a x) x xs b (λ e. subst (λ z. IsTrue (test a z)) e h) (λ j. passing_has xs b j h) i

  step_of : (t : Bool) (x : ℕ) (xs : List ℕ) (b c : ℕ) → (test a x ≡ t)
      → (HasEdge (passing test a xs) b c → (b ≡ a) × In xs c × IsTrue (test a c))
      → HasEdge (map (λ d. record { from = a; to = d }) (if t then x ∷ filter (test a) xs else filter (test a) xs)) b c
      → (b ≡ a) × In (x ∷ xs) c × IsTrue (test a c)
  step_of true x xs b c e g (inl h) = (h.0, inl h.1, subst (λ z. IsTrue (test a z)) (sym h.1) e)
  step_of true x xs b c e g (inr h) = let k = g h in (k.0, inr k.1, k.2)
  step_of false x xs b c e g h = let k = g h in (k.0, inr k.1, k.2)

  pub passing_of : (xs : List ℕ) (b c : ℕ) → HasEdge (passing test a xs) b c → (b ≡ a) × In xs c × IsTrue (test a c)
  passing_of [] b c h = absurd h
  passing_of (x ∷ xs) b c h = step_of (test a x) x xs b c refl (passing_of xs b c) h

-- the edges that pass the test are those between numbers below n
module _ (test : ℕ → ℕ → Bool) (n : ℕ) where
  rows_has : (xs : List ℕ) (a b : ℕ) → In xs a → b < n → IsTrue (test a b) → HasEdge (flat_map (edges_from test n) xs) a b
  rows_has [] a b i l h = absurd i
  rows_has (x ∷ xs) a b (inl e) l h = edge_left (edges_from test n x) (flat_map (edges_from test n) xs) a b
      (subst (λ z. HasEdge (edges_from test n z) a b) e (passing_has test a (numbers_below n) b (below_in n b l) h))
  rows_has (x ∷ xs) a b (inr i) l h = edge_right (edges_from test n x) (flat_map (edges_from test n) xs) a b (rows_has xs a b i l h)

  rows_of : (xs : List ℕ) (a b : ℕ) → HasEdge (flat_map (edges_from test n) xs) a b → In xs a × (b < n) × IsTrue (test a b)
  rows_of [] a b h = absurd h
  rows_of (x ∷ xs) a b h = elim (edge_parts (edges_from test n x) (flat_map (edges_from test n) xs) a b h) [
    | inl k ↦ let p = passing_of test x (numbers_below n) a b k in
        (inl p.0, in_below n b p.1, subst (λ z. IsTrue (test z b)) (sym p.0) p.2)
    | inr k ↦ let p = rows_of xs a b k in (inr p.0, p.1, p.2)
  ]

  pub where_has : (a b : ℕ) → a < n → b < n → IsTrue (test a b) → HasEdge (edges_where n test) a b
  where_has a b k l h = rows_has (numbers_below n) a b (below_in n a k) l h

  pub where_of : (a b : ℕ) → HasEdge (edges_where n test) a b → (a < n) × (b < n) × IsTrue (test a b)
  where_of a b h = let p = rows_of (numbers_below n) a b h in (in_below n a p.0, p.1, p.2)

  pub where_graph : AllBelow n (edges_where n test)
  where_graph = all_within n (edges_where n test) (λ a b h. let p = where_of a b h in (p.0, p.1))
