use Rattle.bsv_engine.proofs.Masks.{ones_above}
use Rattle.bsv_engine.proofs.widths.mask.Goals as goal

pub returns-clause-mask : goal.returns-clause-mask
returns-clause-mask c = ones_above c.args.width c.if-width-gt64.false
