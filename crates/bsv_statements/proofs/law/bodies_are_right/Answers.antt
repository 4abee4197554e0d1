use Rattle.bsv_statements.proofs.RightBodies.{stmts_good}
use Rattle.bsv_statements.proofs.RightReturns.{returns_same, never_same}
use Rattle.bsv_statements.proofs.law.bodies_are_right.Goals as goal

pub returns : goal.returns
returns c = record { right = stmts_good; returns = returns_same; never = never_same }
