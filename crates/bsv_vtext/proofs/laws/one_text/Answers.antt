use Rattle.bsv_vtext.proofs.OneText as law
use Rattle.bsv_vtext.proofs.laws.one_text.Goals as goal

pub returns : goal.returns
returns c = law.one_text
