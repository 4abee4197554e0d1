-- The table that has of each element the first one that stops it.
use Rattle.std.proofs.Common.{◌≡◌, ◌∙◌, ◌⊎◌, inl, inr, ℕ, ◌<◌, Bool, true, false, cond, ◌&&◌, ◌||◌, List, [], ◌∷◌, ◌++◌, length, Option, Some, None, refl, sym, ap, subst}
use Rattle.std.specs.Prelude.{slice_get, slice_set, ◌==◌, if◌then◌else◌}
use Rattle.std.proofs.lemmas.Bool.{eqb-true, eqb-false}
use Rattle.std.proofs.lemmas.List.{length-set}
use Rattle.bsv_lemmas.proofs.Places.{set_there, set_elsewhere}
use Rattle.bsv_graph.specs.Orders.{In, IsBefore}
use Rattle.bsv_clock.specs.Clocks.{is_in}
use Rattle.bsv_clock.specs.Settling.{or_no_numbers}
use Rattle.bsv_sim.specs.Signals.{Signals, fires}
use Rattle.bsv_sim.specs.Stoppers.{all_noted, noted, noted_by}

-- all but the last one are noted after it
pub from_last : (r : Signals) (stops : List (List ℕ)) (ss ns : List ℕ) (n : ℕ)
    → all_noted r stops ss (ns ++ n ∷ []) ≡ all_noted r stops (noted_by r stops ss n) ns
unfolding all_noted
from_last r stops ss [] n = refl
from_last r stops ss (m ∷ ns) n = ap (λ (ts : List ℕ). noted_by r stops ts m) (from_last r stops ss ns n)

-- ---- what is noted of one element

pub noted_long : (ss ns : List ℕ) (by : ℕ) → length (noted ss ns by) ≡ length ss
unfolding noted
noted_long ss [] by = refl
noted_long ss (n ∷ ns) by = noted_long (slice_set ss n by) ns by ∙ length-set ss n by

noted_at : (ss ns : List ℕ) (by m : ℕ) → m < length ss → slice_get (noted ss ns by) m ≡ cond (is_in ns m) (Some by) (slice_get ss m)
unfolding noted is_in
noted_at ss [] by m l = refl
noted_at ss (n ∷ ns) by m l =
    noted_at (slice_set ss n by) ns by m (subst (λ (k : ℕ). m < k) (sym (length-set ss n by)) l) ∙ of (n == m) refl (is_in ns m)
  where
    of : (b : Bool) → (n == m) ≡ b → (t : Bool) → cond t (Some by) (slice_get (slice_set ss n by) m) ≡ cond (b || t) (Some by) (slice_get ss m)
    of true e true = refl
    of true e false = ap (λ (k : ℕ). slice_get (slice_set ss k by) m) (eqb-true n m e) ∙ set_there ss m by l
    of false e true = refl
    of false e false = set_elsewhere ss n m by (eqb-false n m e)

module _ (r : Signals) (stops : List (List ℕ)) where
  -- the first one fires and stops the second one
  abbrev pub stops_now : ℕ → ℕ → Bool
  stops_now m f = fires r f && is_in (or_no_numbers (slice_get stops f)) m

  -- the first of these that fires and stops the element
  abbrev pub first_of : List ℕ → ℕ → Option ℕ
  first_of [] m = None
  first_of (f ∷ ns) m = cond (stops_now m f) (Some f) (first_of ns m)

  abbrev or_was : Option ℕ → Option ℕ → Option ℕ
  or_was None o = o
  or_was (Some f) o = Some f

  by_long : (ss : List ℕ) (n : ℕ) → length (noted_by r stops ss n) ≡ length ss
  by_long ss n = of (fires r n)
    where
      of : (b : Bool) → length (if b then noted ss (or_no_numbers (slice_get stops n)) n else ss) ≡ length ss
      of true = noted_long ss (or_no_numbers (slice_get stops n)) n
      of false = refl

  pub all_long : (ss ns : List ℕ) → length (all_noted r stops ss ns) ≡ length ss
  unfolding all_noted
  all_long ss [] = refl
  all_long ss (n ∷ ns) = by_long (all_noted r stops ss ns) n ∙ all_long ss ns

  -- the table has the first one of them, and else what it had
  table_at : (ss ns : List ℕ) (m : ℕ) → m < length ss → slice_get (all_noted r stops ss ns) m ≡ or_was (first_of ns m) (slice_get ss m)
  unfolding all_noted
  table_at ss [] m l = refl
  table_at ss (n ∷ ns) m l =
      let rest = all_noted r stops ss ns in
      of (fires r n) rest (subst (λ (k : ℕ). m < k) (sym (all_long ss ns)) l) (table_at ss ns m l)
    where
      held : (t : Bool) (o : Option ℕ) → cond t (Some n) (or_was o (slice_get ss m)) ≡ or_was (cond t (Some n) o) (slice_get ss m)
      held true o = refl
      held false o = refl

      of : (b : Bool) (rest : List ℕ) → m < length rest → slice_get rest m ≡ or_was (first_of ns m) (slice_get ss m)
          → slice_get (if b then noted rest (or_no_numbers (slice_get stops n)) n else rest) m
          ≡ or_was (cond (b && is_in (or_no_numbers (slice_get stops n)) m) (Some n) (first_of ns m)) (slice_get ss m)
      of true rest k ih =
          noted_at rest (or_no_numbers (slice_get stops n)) n m k
          ∙ ap (λ (o : Option ℕ). cond (is_in (or_no_numbers (slice_get stops n)) m) (Some n) o) ih
          ∙ held (is_in (or_no_numbers (slice_get stops n)) m) (first_of ns m)
      of false rest k ih = ih

  -- ---- the first one

  pub record IsFirst (ns : List ℕ) (m f : ℕ) : Type 0 where
    pub among : In ns f
    pub stops_it : stops_now m f ≡ true
    pub first : (g : ℕ) → In ns g → stops_now m g ≡ true → (g ≡ f) ⊎ IsBefore ns f g

  -- where one of them fires and stops the element, the table has the first of those
  pub first_noted : (ss ns : List ℕ) (m by : ℕ) → m < length ss → (f : ℕ) → In ns f → stops_now m f ≡ true
      → slice_get (all_noted r stops ss ns) m ≡ Some by → IsFirst ns m by
  first_noted ss ns m by l f there stopped at_m = found (first_of ns m) refl (sym (table_at ss ns m l) ∙ at_m)
    where
      first_is : (ns : List ℕ) (g : ℕ) → first_of ns m ≡ Some g → IsFirst ns m g
      first_is [] g e = absurd (let z : ⊥ = cc in z)
      first_is (n ∷ ns) g e = of (stops_now m n) refl e (first_is ns g)
        where
          of : (b : Bool) → stops_now m n ≡ b → cond b (Some n) (first_of ns m) ≡ Some g → (first_of ns m ≡ Some g → IsFirst ns m g) → IsFirst (n ∷ ns) m g
          of true t e ih =
              let same : n ≡ g = cc in
              record {
                among = inl (sym same);
                stops_it = subst (λ (x : ℕ). stops_now m x ≡ true) same t;
                first = λ x k u. (elim k [ inl y ↦ inl (y ∙ same) | inr y ↦ inr (inl (sym same, y)) ]);
              }
          of false t e ih =
              let rest = ih e in
              record {
                among = inr rest.among;
                stops_it = rest.stops_it;
                first = λ x k u. (elim k [
                  | inl y ↦ absurd (let z : true ≡ false = sym u ∙ ap (λ (x : ℕ). stops_now m x) y ∙ t in let v : ⊥ = cc in v)
                  | inr y ↦ elim (rest.first x y u) [ inl a ↦ inl a | inr b ↦ inr (inr b) ]
                ]);
              }

      none_is : (ns : List ℕ) → first_of ns m ≡ None → (f : ℕ) → In ns f → stops_now m f ≡ true → ⊥
      none_is [] e f k u = k
      none_is (n ∷ ns) e f k u = of (stops_now m n) refl e k (none_is ns)
        where
          of : (b : Bool) → stops_now m n ≡ b → cond b (Some n) (first_of ns m) ≡ None → In (n ∷ ns) f
              → (first_of ns m ≡ None → (f : ℕ) → In ns f → stops_now m f ≡ true → ⊥) → ⊥
          of true t e k ih = (let z : ⊥ = cc in z)
          of false t e (inl y) ih = (let z : true ≡ false = sym u ∙ ap (λ (x : ℕ). stops_now m x) y ∙ t in let v : ⊥ = cc in v)
          of false t e (inr y) ih = ih e f y u

      found : (o : Option ℕ) → first_of ns m ≡ o → or_was o (slice_get ss m) ≡ Some by → IsFirst ns m by
      found None e h = absurd (none_is ns e f there stopped)
      found (Some g) e h = let same : g ≡ by = cc in subst (λ (x : ℕ). IsFirst ns m x) same (first_is ns g e)
