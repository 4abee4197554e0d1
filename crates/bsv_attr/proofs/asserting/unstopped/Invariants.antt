use Rattle.std.proofs.Common.{ℕ, ◌<◌}
use Rattle.bsv_design.specs.scheme.Schemes.{design_scheme}
use Rattle.bsv_design.specs.scheme.Seen.{design_data}
use Rattle.bsv_attr.specs.Asserting.{IsUnstopped}
use Rattle.bsv_attr.proofs.asserting.unstopped.Given as goal

abbrev pub invariant-loop-rule : goal.invariant-loop-rule
invariant-loop-rule l = (n : ℕ) → n < l.rule → IsUnstopped (design_scheme (design_data l.design)) l.schedule n
