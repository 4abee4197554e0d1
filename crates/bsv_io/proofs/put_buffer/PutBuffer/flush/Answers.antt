use Rattle.std.proofs.Common.{◌≡◌, [], arith}
use Rattle.std.proofs.lemmas.Grind.{common_steps}
use Rattle.bsv_io.proofs.Sequences.{said_nothing}
use Rattle.bsv_io.proofs.put_buffer.PutBuffer.flush.Goals as goal

pub returns-then-is_empty-clause-ok : goal.returns-then-is_empty-clause-ok
returns-then-is_empty-clause-ok g c =
    let none : c.args.self.now ≡ [] = grind (arith, common_steps) in
    said_nothing c.args.self.now (g.S.Sink.writing c.args.sink.now) none
