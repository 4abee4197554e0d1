use Rattle.std.proofs.Common.{refl}
use Rattle.std.proofs.Math.Logic.{∥∥₁_elim, ∥∥₁_prop}
use Rattle.bsv_net.specs.AtHand.{net_data}
use Rattle.bsv_net.specs.Nets.{IsNet}
use Rattle.bsv_engine.proofs.engine.Engine.of_net.Goals as goal

pub make-requires : goal.make-requires
make-requires c =
    let net = c.args.net.now in
    rw (c.as_slice.ensures, c.as_slice-2.ensures, c.as_slice-3.ensures)
    (∥∥₁_elim net.right ∥∥₁_prop (λ (k : IsNet (net_data net)).
    ∣ record { net = net_data net; right = k; inputs = refl; registers = refl; nodes = refl } ∣₁))
