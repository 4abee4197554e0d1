use Rattle.bsv_io.proofs.Sequences.{prefix_flushing}
use Rattle.bsv_io.proofs.put_buffer.put_all.Goals as goal

pub returns-clause-prefix : goal.returns-clause-prefix
returns-clause-prefix g c =
    prefix_flushing _ _ _ _ _ _ c.new-buffer.ensures c.in_ok-add_all.ensures.prefix c.in_ok-add_all.ensures.ok c.flush.ensures.prefix
