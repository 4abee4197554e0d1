use Rattle.bsv_serial.proofs.Looking.{begins}
use Rattle.bsv_serial.proofs.looks.Sight.after_seen.Goals as goal

pub loop-call-init : goal.loop-call-init
loop-call-init c = begins c.args.self.kind.now c.args.method c.args.self.plain.now _ c.args.self.calls_made.now c.requires c.in_ok-part.ensures
