use Rattle.std.proofs.Common.{rules}
use Rattle.bsv_io.proofs.Fronts.{AppendsPrefix-take}
use Rattle.bsv_io.proofs.mem_sink.MemSinkSink.put.Goals as goal

pub returns-then-listed-2-clause-err : goal.returns-then-listed-2-clause-err
returns-then-listed-2-clause-err c =
    AppendsPrefix-take c.min-kept.result c.args.bytes.now _ _ (search rules)
