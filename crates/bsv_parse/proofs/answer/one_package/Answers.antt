use Rattle.bsv_parse.proofs.Judged.{one_read}
use Rattle.bsv_parse.proofs.answer.one_package.Goals as goal

pub returns : goal.returns
returns c = one_read
