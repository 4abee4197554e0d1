-- A copy of a net is hardware of the same design.
use Rattle.std.proofs.Common.{◌≡◌, false, map, subst, sym}
use Rattle.bsv_design.specs.declared.design.Design.{Design}
use Rattle.bsv_design.specs.declared.schedule.Schedule.{Schedule}
use Rattle.bsv_design.specs.scheme.Schemes.{design_scheme}
use Rattle.bsv_design.specs.scheme.Seen.{design_data}
use Rattle.bsv_clock.specs.Shows.{Carries, cell}
use Rattle.bsv_net.specs.AtHand.{net_data}
use Rattle.bsv_net.specs.ShowsByNet.{NamesNoResult, NamesResults, gives}
use Rattle.bsv_net.specs.Unasked.{IgnoresUnasked}
use Rattle.bsv_net.specs.declared.net.Net.{Net}
use Rattle.bsv_net.specs.declared.net_data.NetData.{NetData}
use Rattle.bsv_sim.specs.Simulation.{IsSimulated}

pub copied : (d : Design) (made : Schedule) (copy net : Net) → net_data copy ≡ net_data net → IsSimulated d made net → IsSimulated d made copy
copied d made copy net same is =
    let S = design_scheme (design_data d) in
    record {
      rules = is.rules;
      schedule = is.schedule;
      carries = record {
        words = subst (λ (n : NetData). Carries false S made (map cell n.registers) n.inputs (gives n)) (sym same) is.carries.words;
        unasked = subst (λ (n : NetData). IgnoresUnasked false S made (map cell n.registers) (gives n)) (sym same) is.carries.unasked;
        no_result = subst (NamesNoResult S) (sym same) is.carries.no_result;
      };
      results = subst (NamesResults S) (sym same) is.results;
    }
