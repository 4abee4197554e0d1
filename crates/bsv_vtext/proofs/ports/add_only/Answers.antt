use Rattle.std.proofs.Common.{sym, append-nil}
use Rattle.bsv_io.proofs.Adding.{adds_text}
use Rattle.bsv_vtext.proofs.ports.add_only.Goals as goal

pub returns : goal.returns
returns g c =
    adds_text (sym (append-nil _)) c.add_port.ensures
