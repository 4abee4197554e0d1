use Rattle.std.proofs.lemmas.Result.{on_ok_weaker}
use Rattle.bsv_io.proofs.Appended.{AppendsPrefix-then}
use Rattle.bsv_io.proofs.Sequences.{said_after}
use Rattle.bsv_io.proofs.put_buffer.PutBuffer.add.Goals as goal

pub returns-clause-prefix : goal.returns-clause-prefix
returns-clause-prefix g c =
    AppendsPrefix-then _ _ _ _ _ _ c.in_ok-make_room.ensures.prefix c.in_ok-make_room.ensures.ok c.extend_or_put.ensures.prefix

pub returns-clause-ok : goal.returns-clause-ok
returns-clause-ok g c =
    on_ok_weaker c.extend_or_put.result
    (said_after c.args.self.now c.make_room.new.self c.extend_or_put.new.self c.args.bytes.now (g.S.Sink.writing c.args.sink.now) (g.S.Sink.writing c.make_room.new.sink) (g.S.Sink.writing c.extend_or_put.new.sink) c.in_ok-make_room.ensures.ok)
    c.extend_or_put.ensures.ok
