use Rattle.bsv_io.proofs.Sequences.{prefix_flushing}
use Rattle.bsv_vtext.proofs.whole.write.Goals as goal

pub returns-clause-prefix : goal.returns-clause-prefix
returns-clause-prefix g c =
    let added = c.in_ok-add_module.ensures in
    prefix_flushing _ _ _ _ _ _ c.new-buffer.ensures added.prefix added.ok c.flush.ensures.prefix
