use Rattle.std.proofs.Common.{rules}
use Rattle.std.proofs.lemmas.Result.{on_ok_weaker}
use Rattle.bsv_io.proofs.Sequences.{said_alone}
use Rattle.bsv_io.proofs.put_buffer.PutBuffer.extend_or_put.Goals as goal

pub returns-clause-ok : goal.returns-clause-ok
returns-clause-ok g c =
    on_ok_weaker c.put.result
    (said_alone c.args.self.now c.try_extend_from_slice.new.self.items c.args.bytes.now (g.S.Sink.writing c.args.sink.now) (g.S.Sink.writing c.put.new.self) (search rules) (search rules))
    c.put.ensures.ok
