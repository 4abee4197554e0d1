use Rattle.std.proofs.Common.{false}
use Rattle.std.proofs.lemmas.Result.{IfOk-weaker}
use Rattle.bsv_design.specs.scheme.Schemes.{design_scheme}
use Rattle.bsv_design.specs.scheme.Seen.{design_data}
use Rattle.bsv_net.specs.AtHand.{net_data}
use Rattle.bsv_flow.proofs.SharedNets.{names_shared}
use Rattle.bsv_flow.proofs.scheduling.net_of.Goals as goal

pub returns-clause-carries : goal.returns-clause-carries
returns-clause-carries c = IfOk-weaker c.share.result _ _ (λ made same. same false _ _ c.in_ok-net-2.ensures.carries) c.share.ensures.carries

pub returns-clause-results : goal.returns-clause-results
returns-clause-results c =
    let S = design_scheme (design_data c.args.design.now) in
    IfOk-weaker c.share.result _ _ (λ made same. names_shared S (net_data c.in_ok-net-2.net) (net_data made) same c.in_ok-net-2.ensures.results) c.share.ensures.results
