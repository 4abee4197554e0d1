use Rattle.bsv_types.proofs.Unpacked.{field_back}
use Rattle.bsv_types.proofs.packing.fields_are_read_back.Goals as goal

pub returns : goal.returns
returns c = field_back
