use Rattle.bsv_types.proofs.Unpacked.{packed_below}
use Rattle.bsv_types.proofs.packing.packed_fits.Goals as goal

pub returns : goal.returns
returns c = packed_below
