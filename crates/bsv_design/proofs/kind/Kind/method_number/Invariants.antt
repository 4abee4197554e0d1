use Rattle.std.proofs.Common.{◌≡◌, ◌<◌, ℕ, Some, slice_get}
use Rattle.bsv_design.specs.parts.MethodNames.{method_names}
use Rattle.bsv_design.proofs.kind.Kind.method_number.Given as goal

-- no earlier method has the name
abbrev pub invariant-loop-number : goal.invariant-loop-number
invariant-loop-number l = (k : ℕ) → k < l.number → slice_get (method_names l.self) k ≡ Some l.name → ⊥
