use Rattle.bsv_bits.proofs.Modulo.{ones_above}
use Rattle.bsv_bits.proofs.numbers.ones.Goals as goal

pub returns : goal.returns
returns c = ones_above c.args.width c.requires.most
