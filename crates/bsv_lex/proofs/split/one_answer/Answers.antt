use Rattle.bsv_lex.proofs.Splitting.{one_list, one_fault, not_both, one_each}
use Rattle.bsv_lex.proofs.split.one_answer.Goals as goal

pub returns-clause-list : goal.returns-clause-list
returns-clause-list c = one_list

pub returns-clause-fault : goal.returns-clause-fault
returns-clause-fault c = one_fault

pub returns-clause-apart : goal.returns-clause-apart
returns-clause-apart c = not_both

pub returns-clause-some : goal.returns-clause-some
returns-clause-some c = one_each
