use Rattle.std.proofs.Common.{◌≡◌, ◌≤◌, ◌<◌, ℕ, decimal}
use Rattle.bsv_top.proofs.form.size_said.Given as goal

-- the text says none of the sizes so far
abbrev pub invariant-loop-size : goal.invariant-loop-size
invariant-loop-size l = (n : ℕ) → 1 ≤ n → n < l.size → l.text ≡ decimal n → ⊥
