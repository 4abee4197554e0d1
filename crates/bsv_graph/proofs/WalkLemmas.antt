use Rattle.std.proofs.Common.{◌≡◌, ℕ, ◌+◌, ◌<◌, ◌≤◌, add-one, ◌⊎◌, inl, inr, List, [], ◌∷◌, ◌++◌, refl, zero, suc, sym, ◌∙◌, ap, subst, arith}
use Rattle.std.proofs.Common.{length, take, get_or, drop-cons, take-append-drop}
use Rattle.std.proofs.Common.{drop as drop_list}
use Rattle.std.proofs.lemmas.List.{take_more, take_all, length-take-le}
use Rattle.std.specs.Prelude.{IsTrue}
use Rattle.bsv_graph.specs.declared.table.Table.{Table}
use Rattle.bsv_graph.specs.declared.edge.Edge.{Edge}
use Rattle.bsv_graph.specs.Table.{at, Adds}
use Rattle.bsv_graph.specs.Growing.{IsClosed}
use Rattle.bsv_graph.specs.Reaching.{AreWithin, Marks}
use Rattle.bsv_graph.specs.Walks.{HasEdge, Walk, step, more, IsAcyclic, Closes, NoneCloses, ClosesFirst, Keeps, done, keep, drop}

-- one walk after another
pub walk_then : {es : List Edge} {a b c : ℕ} → Walk es a b → Walk es b c → Walk es a c
walk_then (step h) w = more h w
walk_then (more h v) w = more h (walk_then v w)

-- a walk over edges that are in another list too
pub walk_map : {es fs : List Edge} {a b : ℕ} → ((x y : ℕ) → HasEdge es x y → HasEdge fs x y) → Walk es a b → Walk fs a b
walk_map f (step h) = step (f _ _ h)
walk_map f (more h w) = more (f _ _ h) (walk_map f w)

-- x is reached from a, or is a
abbrev pub Upto : List Edge → ℕ → ℕ → Type 0
Upto es a x = (a ≡ x) ⊎ Walk es a x

abbrev pub Since : List Edge → ℕ → ℕ → Type 0
Since es x b = (b ≡ x) ⊎ Walk es x b

upto_more : {es : List Edge} {a c x : ℕ} → HasEdge es a c → Upto es c x → Upto es a x
upto_more {es} {a} h (inl e) = inr (step (subst (λ k. HasEdge es a k) e h))
upto_more h (inr w) = inr (more h w)

since_here : {es : List Edge} {c b x : ℕ} → c ≡ x → Walk es c b → Since es x b
since_here {es} {c} {b} e w = inr (subst (λ k. Walk es k b) e w)

-- a walk that takes the first edge at most needs it once
pub walk_with : {es : List Edge} {e : Edge} {a b : ℕ} → Walk (e ∷ es) a b
    → Walk es a b ⊎ (Upto es a e.from × Since es e.to b)
walk_with (step (inl p)) = inr (inl p.0, inl p.1)
walk_with (step (inr h)) = inl (step h)
walk_with (more (inl p) w) = elim (walk_with w) [
  | inl v ↦ inr (inl p.0, since_here p.1 v)
  | inr q ↦ inr (inl p.0, q.1)
]
walk_with (more (inr h) w) = elim (walk_with w) [
  | inl v ↦ inl (more h v)
  | inr q ↦ inr (upto_more h q.0, q.1)
]

pub walk_weaken : {es : List Edge} {e : Edge} {a b : ℕ} → Walk es a b → Walk (e ∷ es) a b
walk_weaken w = walk_map (λ x y h. inr h) w

the_edge : (es : List Edge) (e : Edge) → Walk (e ∷ es) e.from e.to
the_edge es e = step (inl (refl, refl))

from_upto : (es : List Edge) (e : Edge) (a : ℕ) → Upto es a e.from → Walk (e ∷ es) a e.to
from_upto es e a (inl p) = subst (λ k. Walk (e ∷ es) k e.to) (sym p) (the_edge es e)
from_upto es e a (inr w) = walk_then (walk_weaken w) (the_edge es e)

pub walk_through : (es : List Edge) (e : Edge) (a b : ℕ) → Upto es a e.from → Since es e.to b → Walk (e ∷ es) a b
walk_through es e a b u (inl p) = subst (λ k. Walk (e ∷ es) a k) (sym p) (from_upto es e a u)
walk_through es e a b u (inr w) = walk_then (from_upto es e a u) (walk_weaken w)

-- where a walk begins and ends
pub walk_inside : {n : ℕ} {es : List Edge} {a b : ℕ} → AreWithin n es → Walk es a b → (a < n) × (b < n)
walk_inside f (step h) = f _ _ h
walk_inside f (more h w) = ((f _ _ h).0, (walk_inside f w).1)

-- what the marks of walks have
module _ (es : List Edge) (t : Table) (m : Marks es t) where
  pub marks_closed : IsClosed t
  marks_closed a b c p q r h k = m.marked a c (walk_then (m.walk a b p q h) (m.walk b c q r k))

  upto_marks : (a x : ℕ) → a < t.side → x < t.side → (a ≡ x) ⊎ IsTrue (at t a x) → Upto es a x
  upto_marks a x p q (inl e) = inl e
  upto_marks a x p q (inr h) = inr (m.walk a x p q h)

  since_marks : (x b : ℕ) → x < t.side → b < t.side → (b ≡ x) ⊎ IsTrue (at t x b) → Since es x b
  since_marks x b p q (inl e) = inl e
  since_marks x b p q (inr h) = inr (m.walk x b p q h)

  marks_upto : (a x : ℕ) → Upto es a x → (a ≡ x) ⊎ IsTrue (at t a x)
  marks_upto a x (inl e) = inl e
  marks_upto a x (inr w) = inr (m.marked a x w)

  marks_since : (x b : ℕ) → Since es x b → (b ≡ x) ⊎ IsTrue (at t x b)
  marks_since x b (inl e) = inl e
  marks_since x b (inr w) = inr (m.marked x b w)

  -- the table gained one edge
  pub marks_join : (e : Edge) (u : Table) → e.from < t.side → e.to < t.side
      → Adds t u (λ x y. ((x ≡ e.from) ⊎ IsTrue (at t x e.from)) × ((y ≡ e.to) ⊎ IsTrue (at t e.to y)))
      → Marks (e ∷ es) u
  marks_join e u p q g = record {
    within = within';
    marked = marked';
    walk = λ a b i j h. elim (g.only a b (omega (arith, g.side)) (omega (arith, g.side)) h) [
      | inl x ↦ walk_weaken (m.walk a b (omega (arith, g.side)) (omega (arith, g.side)) x)
      | inr x ↦ walk_through es e a b (upto_marks a e.from (omega (arith, g.side)) p x.0) (since_marks e.to b q (omega (arith, g.side)) x.1)
    ];
  }
    where
      within' : AreWithin u.side (e ∷ es)
      within' a b (inl h) = (rw (g.side, h.0) p, rw (g.side, h.1) q)
      within' a b (inr h) = (rw g.side (m.within a b h).0, rw g.side (m.within a b h).1)

      go : (a b : ℕ) → a < t.side → b < t.side → Walk es a b ⊎ (Upto es a e.from × Since es e.to b) → IsTrue (at u a b)
      go a b i j (inl w) = g.kept a b i j (m.marked a b w)
      go a b i j (inr x) = g.added a b i j (marks_upto a e.from x.0, marks_since e.to b x.1)

      marked' : (a b : ℕ) → Walk (e ∷ es) a b → IsTrue (at u a b)
      marked' a b w = go a b (rw (← g.side) (walk_inside within' w).0) (rw (← g.side) (walk_inside within' w).1) (walk_with w)

  -- an edge whose ends a walk joins adds nothing
  pub marks_implied : (e : Edge) → e.from < t.side → e.to < t.side → IsTrue (at t e.from e.to) → Marks (e ∷ es) t
  marks_implied e p q h = record {
    within = within';
    marked = λ a b w. go a b (walk_with w);
    walk = λ a b i j k. walk_weaken (m.walk a b i j k);
  }
    where
      within' : AreWithin t.side (e ∷ es)
      within' a b (inl k) = (rw k.0 p, rw k.1 q)
      within' a b (inr k) = m.within a b k

      there : Walk es e.from e.to
      there = m.walk e.from e.to p q h

      to_end : (b : ℕ) → Since es e.to b → Walk es e.from b
      to_end b (inl k) = rw k there
      to_end b (inr w) = walk_then there w

      whole : (a b : ℕ) → Upto es a e.from → Walk es e.from b → Walk es a b
      whole a b (inl k) w = rw k w
      whole a b (inr v) w = walk_then v w

      go : (a b : ℕ) → Walk es a b ⊎ (Upto es a e.from × Since es e.to b) → IsTrue (at t a b)
      go a b (inl w) = m.marked a b w
      go a b (inr x) = m.marked a b (whole a b x.0 (to_end b x.1))

-- edges that are the same, in another order
pub marks_same : (es fs : List Edge) (t : Table) → ((x y : ℕ) → HasEdge es x y → HasEdge fs x y)
    → ((x y : ℕ) → HasEdge fs x y → HasEdge es x y) → Marks es t → Marks fs t
marks_same es fs t f g m = record {
  within = λ a b h. m.within a b (g a b h);
  marked = λ a b w. m.marked a b (walk_map g w);
  walk = λ a b p q h. walk_map f (m.walk a b p q h);
}

-- the edges of two lists
pub edge_left : (xs ys : List Edge) (a b : ℕ) → HasEdge xs a b → HasEdge (xs ++ ys) a b
edge_left [] ys a b h = absurd h
edge_left (x ∷ xs) ys a b (inl h) = inl h
edge_left (x ∷ xs) ys a b (inr h) = inr (edge_left xs ys a b h)

pub edge_right : (xs ys : List Edge) (a b : ℕ) → HasEdge ys a b → HasEdge (xs ++ ys) a b
edge_right [] ys a b h = h
edge_right (x ∷ xs) ys a b h = inr (edge_right xs ys a b h)

pub edge_parts : (xs ys : List Edge) (a b : ℕ) → HasEdge (xs ++ ys) a b → HasEdge xs a b ⊎ HasEdge ys a b
edge_parts [] ys a b h = inr h
edge_parts (x ∷ xs) ys a b (inl h) = inl (inl h)
edge_parts (x ∷ xs) ys a b (inr h) = elim (edge_parts xs ys a b h) [ inl k ↦ inl (inr k) | inr k ↦ inr k ]

-- a first edge may be last
pub snoc_there : (xs es : List Edge) (e : Edge) (a b : ℕ) → HasEdge (e ∷ (xs ++ es)) a b → HasEdge ((xs ++ (e ∷ [])) ++ es) a b
snoc_there xs es e a b (inl h) = edge_left (xs ++ (e ∷ [])) es a b (edge_right xs (e ∷ []) a b (inl h))
snoc_there xs es e a b (inr h) = elim (edge_parts xs es a b h) [
  | inl k ↦ edge_left (xs ++ (e ∷ [])) es a b (edge_left xs (e ∷ []) a b k)
  | inr k ↦ edge_right (xs ++ (e ∷ [])) es a b k
]

snoc_back' : (xs es : List Edge) (e : Edge) (a b : ℕ) → HasEdge (xs ++ (e ∷ [])) a b → HasEdge (e ∷ (xs ++ es)) a b
snoc_back' xs es e a b h = elim (edge_parts xs (e ∷ []) a b h) [
  | inl k ↦ inr (edge_left xs es a b k)
  | inr (inl k) ↦ inl k
  | inr (inr k) ↦ absurd k
]

pub snoc_back : (xs es : List Edge) (e : Edge) (a b : ℕ) → HasEdge ((xs ++ (e ∷ [])) ++ es) a b → HasEdge (e ∷ (xs ++ es)) a b
snoc_back xs es e a b h = elim (edge_parts (xs ++ (e ∷ [])) es a b h) [
  | inl k ↦ snoc_back' xs es e a b k
  | inr k ↦ inr (edge_right xs es a b k)
]

pub marks_snoc : (xs es : List Edge) (e : Edge) (t : Table) → Marks (e ∷ (xs ++ es)) t → Marks ((xs ++ (e ∷ [])) ++ es) t
marks_snoc xs es e t m = marks_same (e ∷ (xs ++ es)) ((xs ++ (e ∷ [])) ++ es) t (snoc_there xs es e) (snoc_back xs es e) m

pub marks_take : (ps es : List Edge) (i : ℕ) (d : Edge) (t : Table) → i < length ps
    → Marks (get_or ps i d ∷ (take i ps ++ es)) t → Marks (take (i + 1) ps ++ es) t
marks_take ps es i d t h m = rw (take_more ps i d h) (marks_snoc (take i ps) es (get_or ps i d) t m)

-- more edges are taken
pub keeps_then : {es ps fs qs gs : List Edge} → Keeps es ps fs → Keeps fs qs gs → Keeps es (ps ++ qs) gs
keeps_then done n = n
keeps_then (keep m k) n = keep m (keeps_then k n)
keeps_then (drop m k) n = drop m (keeps_then k n)

-- kept edges close no cycle
pub acyclic_with : (es : List Edge) (e : Edge) → IsAcyclic es → ¬ Closes es e → IsAcyclic (e ∷ es)
acyclic_with es e f n a w = go (walk_with w)
  where
    go' : Upto es a e.from → Since es e.to a → ⊥
    go' (inl p) (inl q) = n (inl (sym q ∙ p))
    go' (inl p) (inr v) = n (inr (subst (λ k. Walk es e.to k) p v))
    go' (inr v) (inl q) = n (inr (subst (λ k. Walk es k e.from) q v))
    go' (inr v) (inr u) = n (inr (walk_then u v))

    go : Walk es a a ⊎ (Upto es a e.from × Since es e.to a) → ⊥
    go (inl v) = f a v
    go (inr x) = go' x.0 x.1

pub keeps_acyclic : {es ps fs : List Edge} → Keeps es ps fs → IsAcyclic es → IsAcyclic fs
keeps_acyclic done f = f
keeps_acyclic (keep {es} {ps} {fs} {p} m k) f = keeps_acyclic k (acyclic_with es p f m)
keeps_acyclic (drop m k) f = keeps_acyclic k f

-- a list that one more element ends, in two parts round an element
snoc_split : (ps before behind : List Edge) (p q : Edge) → ps ++ (p ∷ []) ≡ before ++ (q ∷ behind)
    → ((before ≡ ps) × (q ≡ p)) ⊎ ((rest : List Edge) × (ps ≡ before ++ (q ∷ rest)))
snoc_split [] [] behind p q e = inl (refl, cc)
snoc_split [] (y ∷ []) behind p q e = cc
snoc_split [] (y ∷ z ∷ before) behind p q e = cc
snoc_split (x ∷ ps) [] behind p q e = inr (ps, cc)
snoc_split (x ∷ ps) (y ∷ before) behind p q e = elim (snoc_split ps before behind p q cc) [
  | inl h ↦ let f : before ≡ ps = h.0 in inl (cc, h.1)
  | inr h ↦ let f : ps ≡ before ++ (q ∷ h.0) = h.1 in inr (h.0, cc)
]

-- the next does not close a cycle either
pub none_snoc : (es ps : List Edge) (p : Edge) → NoneCloses es ps → ¬ Closes (ps ++ es) p → NoneCloses es (ps ++ (p ∷ []))
none_snoc es ps p f n before behind q e c = elim (snoc_split ps before behind p q e) [
  | inl h ↦ n (subst (λ z. Closes (ps ++ es) z) h.1 (subst (λ z. Closes (z ++ es) q) h.0 c))
  | inr h ↦ f before h.0 q h.1 c
]

pub none_more : (es ps : List Edge) (k : ℕ) (d : Edge) → k < length ps → NoneCloses es (take k ps)
    → ¬ Closes (take k ps ++ es) (get_or ps k d) → NoneCloses es (take (k + 1) ps)
none_more es ps k d h f n = rw (take_more ps k d h) (none_snoc es (take k ps) (get_or ps k d) f n)

pub none_first : (es : List Edge) → NoneCloses es []
none_first es [] behind p e c = cc
none_first es (x ∷ before) behind p e c = cc

-- an element of a list, with what comes before it and after it
pub read_split : (ps : List Edge) (k : ℕ) (d : Edge) → k < length ps → ps ≡ take k ps ++ (get_or ps k d ∷ drop_list (suc k) ps)
read_split ps k d h = sym (take-append-drop k ps) ∙ ap (λ z. take k ps ++ z) (drop-cons ps k d h)

pub closes_first : (es ps : List Edge) (k : ℕ) (d : Edge) → k < length ps → NoneCloses es (take k ps) → Closes (take k ps ++ es) (get_or ps k d)
    → ClosesFirst es ps k
closes_first es ps k d h f c = record {
  before = take k ps;
  behind = drop_list (suc k) ps;
  edge = get_or ps k d;
  split = read_split ps k d h;
  place = length-take-le k ps (omega (arith, h));
  closes = c;
  earlier = f;
}

pub keeps_take : (es ps fs gs : List Edge) (k : ℕ) (d : Edge) → k < length ps → Keeps es (take k ps) fs → Keeps fs (get_or ps k d ∷ []) gs
    → Keeps es (take (k + 1) ps) gs
keeps_take es ps fs gs k d h u v = rw (take_more ps k d h) (keeps_then u v)

-- edges none of which closes a cycle
take_step : (es ps : List Edge) (k : ℕ) (d : Edge) → k < length ps → IsAcyclic (take k ps ++ es) → ¬ Closes (take k ps ++ es) (get_or ps k d)
    → IsAcyclic (take (suc k) ps ++ es)
take_step es ps k d h f n a w = acyclic_with (take k ps ++ es) (get_or ps k d) f n a (walk_map (snoc_back (take k ps) es (get_or ps k d)) w')
  where
    w' : Walk ((take k ps ++ (get_or ps k d ∷ [])) ++ es) a a
    w' = rw (← take_more ps k d h, add-one) w

take_acyclic : (es ps : List Edge) (d : Edge) (k : ℕ) → k ≤ length ps → IsAcyclic es → NoneCloses es ps → IsAcyclic (take k ps ++ es)
take_acyclic es ps d zero h f n a w = f a w
take_acyclic es ps d (suc k) h f n a w =
    take_step es ps k d (omega arith) (take_acyclic es ps d k (omega arith) f n) (n (take k ps) (drop_list (suc k) ps) (get_or ps k d) (read_split ps k d (omega arith))) a w

pub none_acyclic : (es ps : List Edge) → IsAcyclic es → NoneCloses es ps → IsAcyclic (ps ++ es)
none_acyclic es ps f n a w = take_acyclic es ps (record { from = 0; to = 0 }) (length ps) (omega arith) f n a (rw (take_all (length ps) ps (omega arith)) w)
