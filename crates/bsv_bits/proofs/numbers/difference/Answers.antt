use Rattle.std.proofs.Common.{◌∙◌}
use Rattle.bsv_bits.proofs.Modulo.{difference_wraps}
use Rattle.bsv_bits.proofs.numbers.difference.Goals as goal

pub returns-then-a-b : goal.returns-then-a-b
returns-then-a-b c = c.reduce.ensures ∙ difference_wraps _ _ _ c.requires.width c.requires.second
