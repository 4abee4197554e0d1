-- The turns of the reader of calls.
use Rattle.std.proofs.Common.{◌≡◌, ◌∙◌, ℕ, suc, ◌+◌, ◌-◌, ◌<◌, ◌==◌, Bool, true, false, List, [], ◌∷◌, Option, Some, None, if◌then◌else◌, ap, arith}
use Rattle.bsv_design.specs.scheme.Schemes.{Asking, Outline}
use Rattle.bsv_trace.specs.Reading.{behind, call, calls, next_call, next_calls}

one_more : (len turn : ℕ) → turn < len → len - turn ≡ suc (len - (turn + 1))
one_more len turn below = omega arith

by_test : (further : List ℕ → Asking → Option Asking) (r : Asking) (next more : List ℕ) (t : Bool) → ◌≡◌ {A = Option (List ℕ)} (if t then Some next else None) (Some more)
    → (if t then further next r else None) ≡ further more r
by_test further r next more true is = let it : next ≡ more = cc in ap (λ m. further m r) it
by_test further r next more false is = absurd cc

by_blank : (further : List ℕ → Asking → Option Asking) (r : Asking) (next more : List ℕ) → behind 32 next ≡ Some more → next_call further r next ≡ further more r
by_blank further r [] more is = absurd cc
by_blank further r (b ∷ next) more is = by_test further r next more (b == 32) is

-- a call is read, and then a blank
pub turn_on : (methods : List Outline) (rest : List ℕ) (q r : Asking) (len turn : ℕ) (next more : List ℕ) → turn < len
    → call methods rest q ≡ Some (r, next) → behind 32 next ≡ Some more → calls (len - turn) methods rest q ≡ calls (len - (turn + 1)) methods more r
turn_on methods rest q r len turn next more below read is =
    ap (λ n. calls n methods rest q) (one_more len turn below)
    ∙ ap (next_calls (calls (len - (turn + 1)) methods)) read
    ∙ by_blank (calls (len - (turn + 1)) methods) r next more is
