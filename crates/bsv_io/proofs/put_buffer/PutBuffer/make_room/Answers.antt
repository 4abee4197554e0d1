use Rattle.bsv_io.proofs.Sequences.{said_flushed}
use Rattle.bsv_io.proofs.put_buffer.PutBuffer.make_room.Goals as goal

pub returns-in_ok-flush-clause-ok : goal.returns-in_ok-flush-clause-ok
returns-in_ok-flush-clause-ok g c =
    said_flushed c.args.self.now c.flush.new.self (g.S.Sink.writing c.args.sink.now) (g.S.Sink.writing c.flush.new.sink) c.flush.ensures.empty c.in_ok-flush.ensures.ok
