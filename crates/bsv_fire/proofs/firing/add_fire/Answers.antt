use Rattle.std.proofs.Common.{◌≡◌, Option, IfSome, subst, sym}
use Rattle.bsv_design.specs.scheme.Seen.{design_data}
use Rattle.bsv_net.specs.AtHand.{net_data}
use Rattle.bsv_net.specs.declared.net.Net.{Net}
use Rattle.bsv_fire.specs.Nets.{IsFiringNet}
use Rattle.bsv_fire.proofs.Kept.{kept}
use Rattle.bsv_fire.proofs.firing.add_fire.Goals as goal

pub returns-in-Some : goal.returns-in-Some
returns-in-Some c =
    let same : net_data c.in-Some.net ≡ c.in_ok-net_data.net_data =
    subst (λ (o : Option Net). IfSome o (λ net. net_data net ≡ c.in_ok-net_data.net_data)) c.in-Some.is c.in_ok-net.ensures.is in
    kept c.args.design.now c.args.guards.now.needs c.args.schedule.now c.requires.rules c.requires.schedule c.requires.needs (net_data c.in-Some.net)
    (subst (IsFiringNet (design_data c.args.design.now) c.args.guards.now.needs c.args.schedule.now) (sym same) c.in_ok-net_data.ensures)
    c.in-Some.net.right
