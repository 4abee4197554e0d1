use Rattle.std.proofs.Common.{◌≡◌, Option, IfSome, subst, sym}
use Rattle.bsv_design.specs.scheme.Seen.{design_data}
use Rattle.bsv_net.specs.AtHand.{net_data}
use Rattle.bsv_net.specs.declared.net.Net.{Net}
use Rattle.bsv_mux.specs.Nexts.{IsNextNet}
use Rattle.bsv_mux.proofs.Carried.{net_carries, net_names}
use Rattle.bsv_mux.proofs.muxing.add_next.Goals as goal

pub returns-in-Some-clause-carries : goal.returns-in-Some-clause-carries
returns-in-Some-clause-carries c =
    let same : net_data c.in-Some.made ≡ c.in_ok-net_data.net_data =
    subst (λ (o : Option Net). IfSome o (λ net. net_data net ≡ c.in_ok-net_data.net_data)) c.in-Some.is c.in_ok-made.ensures.is in
    net_carries c.args.design.now c.args.schedule.now c.requires.rules c.requires.schedule (net_data c.args.net) c.args.net.right c.requires.fires
    c.in-Some.made (subst (IsNextNet (design_data c.args.design.now) c.args.schedule.now (net_data c.args.net)) (sym same) c.in_ok-net_data.ensures)

pub returns-in-Some-clause-results : goal.returns-in-Some-clause-results
returns-in-Some-clause-results c =
    let same : net_data c.in-Some.made ≡ c.in_ok-net_data.net_data =
    subst (λ (o : Option Net). IfSome o (λ net. net_data net ≡ c.in_ok-net_data.net_data)) c.in-Some.is c.in_ok-made.ensures.is in
    net_names c.args.design.now c.args.schedule.now c.requires.rules c.requires.schedule (net_data c.args.net) c.args.net.right c.requires.fires
    c.in-Some.made (subst (IsNextNet (design_data c.args.design.now) c.args.schedule.now (net_data c.args.net)) (sym same) c.in_ok-net_data.ensures)
