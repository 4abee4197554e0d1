-- A call is added after those that do not take effect after it.
use Rattle.std.proofs.Common.{◌≡◌, ◌∙◌, ℕ, ◌+◌, Bool, true, false, cond, not, List, [], ◌∷◌, refl, ap}
use Rattle.std.proofs.Math.Numerals.{one-add}
use Rattle.std.specs.Prelude.{insert, if◌then◌else◌}
use Rattle.std.specs.List.{prefix_len}
use Rattle.bsv_serial.specs.declared.calls_made.MadeCall.{MadeCall}
use Rattle.bsv_serial.specs.CallsMade.{is_later, added}

pub added_at : (c : MadeCall) (ds : List MadeCall) → insert ds (prefix_len (λ d. not (is_later d c)) ds) c ≡ added c ds
unfolding added
added_at c [] = refl
added_at c (d ∷ ds) = of (is_later d c) (added_at c ds)
  where
    of : (b : Bool) → insert ds (prefix_len (λ d. not (is_later d c)) ds) c ≡ added c ds
        → insert (d ∷ ds) (cond (not b) (1 + prefix_len (λ d. not (is_later d c)) ds) 0) c ≡ (if b then c ∷ d ∷ ds else d ∷ added c ds)
    of true rest = refl
    of false rest =
        ap (λ (i : ℕ). insert (d ∷ ds) i c) (one-add (prefix_len (λ d. not (is_later d c)) ds))
        ∙ ap (λ (cs : List MadeCall). d ∷ cs) rest
