-- How far a trace is read that was chosen.
use Rattle.std.proofs.Common.{◌≡◌, ◌⊎◌, inl, inr, ◌∙◌, ℕ, ◌+◌, ◌≤◌, List, length, ap, subst, arith}
use Rattle.bsv_design.specs.scheme.Schemes.{Asking, Outline}
use Rattle.bsv_io.specs.Reading.{Reading, bytes_given, chosen, current_name}
use Rattle.bsv_run.specs.Traces.{bytes_in, lines_of}
use Rattle.bsv_top.specs.Places.{piece_limit}
use Rattle.bsv_top.specs.Running as running
use Rattle.bsv_top.specs.Running.{Follows, IsFollowed}
use Rattle.bsv_top.specs.Traces.{HasBadLine}

-- how far a trace was read that was just chosen
module _ (os : List Outline) (room : ℕ) (name : List ℕ) (contents : List ℕ → List ℕ) (old at new : Reading) (choice : at ≡ chosen name old) where
  nothing_given : bytes_given at ≡ 0
  nothing_given = ap (λ (r : Reading). bytes_given r) choice

  pub followed : current_name new ≡ current_name at → bytes_given new ≤ bytes_given at + length (contents name)
      → ((qs : List Asking) → HasBadLine os (contents name) qs → bytes_given new ≤ bytes_given at + bytes_in (length qs + 1) (lines_of (contents name)) + room)
      → IsFollowed os room name contents new
  followed current end bad = record {
    current = current ∙ ap current_name choice;
    end = omega (arith, end, nothing_given);
    bad = λ qs h. omega (arith, bad qs h, nothing_given);
  }

-- with the buffer that a run has
module _ (os : List Outline) (room : ℕ) (name trace : List ℕ) (contents : List ℕ → List ℕ) (old new : Reading) (same : name ≡ trace) (is : room ≡ piece_limit) where
  pub followed_trace : IsFollowed os room name contents new → IsFollowed os piece_limit trace contents new
  followed_trace h = subst (λ (n : ℕ). IsFollowed os n trace contents new) is (subst (λ (t : List ℕ). IsFollowed os room t contents new) same h)

  pub follows : (bytes_given new ≡ 0) ⊎ IsFollowed os room name contents new → Follows os trace contents old new
  follows (inl none) = running.Follows.nothing none
  follows (inr h) = running.Follows.followed (followed_trace h)
