use Rattle.bsv_sim.specs.Simulation.{IsSimulated}
use Rattle.bsv_flow.specs.Running.{BelongTogether}
use Rattle.bsv_flow.specs.declared.scheduling.Compiled.{Compiled}
use Rattle.bsv_top.proofs.simulation.start.Goals as goal

simulated_of : (c : Compiled) → BelongTogether c → IsSimulated c.design c.schedule c.net
simulated_of c together = record {
  rules = together.rules;
  schedule = together.schedule;
  carries = together.carries;
  results = together.results;
}

pub returns-clause-start : goal.returns-clause-start
returns-clause-start c = c.in_ok-run.ensures c.args.compiled.schedule (simulated_of c.args.compiled c.requires)
