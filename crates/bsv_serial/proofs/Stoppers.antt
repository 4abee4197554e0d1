-- The lists that tell of each element which one stops it, element by element.
use Rattle.std.proofs.Common.{◌≡◌, ◌∙◌, ℕ, zero, suc, ◌<◌, Bool, true, false, cond, ◌||◌, List, [], ◌∷◌, Option, Some, None, refl, ap, arith, length}
use Rattle.std.specs.Prelude.{slice_get, ◌==◌, replicate}
use Rattle.std.proofs.lemmas.Bool.{eqb-true, eqb-false}
use Rattle.std.proofs.lemmas.Option.{slice_get_within}
use Rattle.std.proofs.lemmas.List.{length-set}
use Rattle.bsv_lemmas.proofs.Places.{set_there, set_elsewhere}
use Rattle.bsv_clock.specs.Clocks.{is_in}
use Rattle.bsv_serial.specs.Decider.{all_stopped, flattened, stopped_at}
use Rattle.bsv_serial.proofs.DecidedFront.{or_else}

-- ---- lists

pub at_replicate : {X : Type 0} (k n : ℕ) (x : X) → n < k → slice_get (replicate k x) n ≡ Some x
at_replicate zero n x l = absurd (omega arith)
at_replicate (suc k) zero x l = refl
at_replicate (suc k) (suc n) x l = at_replicate k n x (omega arith)

-- ---- stoppers

stopped_long : (ss : List (Option ℕ)) (k by : ℕ) (o : Option ℕ) → length (stopped_at ss k by o) ≡ length ss
stopped_long ss k by None = length-set ss k (Some by)
stopped_long ss k by (Some x) = refl

pub all_stopped_long : (ss : List (Option ℕ)) (ks : List ℕ) (by : ℕ) → length (all_stopped ss ks by) ≡ length ss
unfolding all_stopped
all_stopped_long ss [] by = refl
all_stopped_long ss (k ∷ ks) by =
    all_stopped_long (stopped_at ss k by (flattened (slice_get ss k))) ks by ∙ stopped_long ss k by (flattened (slice_get ss k))

one_stopped : (ss : List (Option ℕ)) (k m by : ℕ) (o : Option ℕ) → slice_get ss m ≡ Some o → (b : Bool) → (k == m) ≡ b
    → slice_get (stopped_at ss k by (flattened (slice_get ss k))) m ≡ Some (or_else o (cond b (Some by) None))
one_stopped ss k m by o at_m true e =
    let same = eqb-true k m e in
    ap (λ (j : ℕ). slice_get (stopped_at ss j by (flattened (slice_get ss j))) m) same
    ∙ ap (λ (x : Option (Option ℕ)). slice_get (stopped_at ss m by (flattened x)) m) at_m ∙ here o at_m
  where
    here : (o : Option ℕ) → slice_get ss m ≡ Some o → slice_get (stopped_at ss m by o) m ≡ Some (or_else o (Some by))
    here None e = set_there ss m (Some by) (slice_get_within ss m None e)
    here (Some x) e = e
one_stopped ss k m by o at_m false e = elsewhere (flattened (slice_get ss k)) ∙ at_m ∙ ap (λ (x : Option ℕ). Some x) (whole o)
  where
    elsewhere : (x : Option ℕ) → slice_get (stopped_at ss k by x) m ≡ slice_get ss m
    elsewhere None = set_elsewhere ss k m (Some by) (eqb-false k m e)
    elsewhere (Some y) = refl

    whole : (o : Option ℕ) → o ≡ or_else o None
    whole None = refl
    whole (Some x) = refl

both : (o x : Option ℕ) (a b : Bool) → or_else (or_else o (cond a x None)) (cond b x None) ≡ or_else o (cond (a || b) x None)
both None None true true = refl
both None None true false = refl
both None None false b = refl
both None (Some x) true b = refl
both None (Some x) false b = refl
both (Some y) x a b = refl

pub all_stopped_at : (ss : List (Option ℕ)) (ks : List ℕ) (m by : ℕ) (o : Option ℕ) → slice_get ss m ≡ Some o
    → slice_get (all_stopped ss ks by) m ≡ Some (or_else o (cond (is_in ks m) (Some by) None))
unfolding all_stopped is_in
all_stopped_at ss [] m by o e = e ∙ ap (λ (x : Option ℕ). Some x) (whole o)
  where
    whole : (o : Option ℕ) → o ≡ or_else o None
    whole None = refl
    whole (Some x) = refl
all_stopped_at ss (k ∷ ks) m by o e =
    all_stopped_at (stopped_at ss k by (flattened (slice_get ss k))) ks m by (or_else o (cond (k == m) (Some by) None)) (one_stopped ss k m by o e (k == m) refl)
    ∙ ap (λ (x : Option ℕ). Some x) (both o (Some by) (k == m) (is_in ks m))
