use Rattle.bsv_typing.proofs.RightExpressions.{expressions_right}
use Rattle.bsv_typing.proofs.law.typing_is_right.Goals as goal

pub returns : goal.returns
returns c = expressions_right
