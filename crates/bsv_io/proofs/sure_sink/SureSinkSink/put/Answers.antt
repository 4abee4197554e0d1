use Rattle.std.proofs.Common.{rules}
use Rattle.bsv_io.proofs.Counted.{counted_put}
use Rattle.bsv_io.proofs.sure_sink.SureSinkSink.put.Goals as goal

pub returns-clause-ok : goal.returns-clause-ok
returns-clause-ok c = counted_put c.args.bytes.now _ _ (search rules) (search rules)
