use Rattle.std.proofs.Common.{None, Some}
use Rattle.bsv_lex.proofs.Splitting.{is_found, is_only, is_faulty, is_sliced}
use Rattle.bsv_lex.proofs.split.tokens.Goals as goal

pub returns-clause-found : goal.returns-clause-found
returns-clause-found c = is_found c.args.source.now c.read_all.result c.read_all.ensures

pub returns-clause-only : goal.returns-clause-only
returns-clause-only c = λ list is. is_only c.args.source.now c.read_all.result c.read_all.ensures list None is

pub returns-clause-faulty : goal.returns-clause-faulty
returns-clause-faulty c = is_faulty c.args.source.now c.read_all.result c.read_all.ensures

pub returns-clause-fault : goal.returns-clause-fault
returns-clause-fault c = λ f is. is_only c.args.source.now c.read_all.result c.read_all.ensures is.0 (Some f) is.1

pub returns-clause-slices : goal.returns-clause-slices
returns-clause-slices c = is_sliced c.args.source.now c.read_all.result c.read_all.ensures
