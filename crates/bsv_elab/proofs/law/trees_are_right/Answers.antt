use Rattle.bsv_elab.proofs.TreesRight.{trees_right}
use Rattle.bsv_elab.proofs.law.trees_are_right.Goals as goal

pub returns : goal.returns
returns c = trees_right
