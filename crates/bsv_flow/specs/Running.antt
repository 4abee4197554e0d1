-- What was compiled belongs together, as the clock and the engines ask.
use Rattle.std.specs.Prelude.{◌≡◌, false}
use Rattle.bsv_design.specs.design.Guards.{needs_of}
use Rattle.bsv_design.specs.scheme.Schemes.{design_scheme, kinds_of}
use Rattle.bsv_design.specs.scheme.Seen.{design_data}
use Rattle.bsv_clock.specs.Grounds.{IsScheduleOf, KeepsRules}
use Rattle.bsv_net.specs.AtHand.{net_data}
use Rattle.bsv_net.specs.ShowsByNet.{NamesResults, NetCarries}
use Rattle.bsv_flow.specs.declared.scheduling.Compiled.{Compiled}

-- no two calls of one element break the rule of one element, guards and schedule are those of the design, and the net carries
-- it and names a node for each result
pub record BelongTogether (c : Compiled) : Type 0 where
  pub rules : KeepsRules (design_scheme (design_data c.design))
  pub needs : c.guards.needs ≡ needs_of (kinds_of (design_data c.design)) c.design.elements
  pub schedule : IsScheduleOf (design_scheme (design_data c.design)) c.schedule
  pub carries : NetCarries false (design_scheme (design_data c.design)) c.schedule c.net
  pub results : NamesResults (design_scheme (design_data c.design)) (net_data c.net)
