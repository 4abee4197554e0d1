use Rattle.std.proofs.Common.{◌∙◌, sym}
use Rattle.bsv_suite.proofs.Naming.{some_has_feed}
use Rattle.bsv_suite.proofs.list.has_line.Goals as goal

pub returns : goal.returns
returns c = λ is none.
    some_has_feed c.first_line.result (λ p. p.0.now) (λ p. p.1.now) c.args.bytes.now c.first_line.ensures.line (sym c.is_some.ensures ∙ is) none
