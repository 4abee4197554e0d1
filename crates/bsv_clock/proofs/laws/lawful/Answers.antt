use Rattle.bsv_clock.proofs.Belonging as belonging
use Rattle.bsv_clock.proofs.laws.lawful.Goals as goal
use Rattle.bsv_schedule.proofs.RelationsLemmas.{agrees_design}

pub returns : goal.returns
returns c = record {
  designs = belonging.lawful_design;
  agrees = agrees_design;
  named = belonging.named;
  alike = belonging.lawful_alike;
  schedule_alike = λ S T made al. belonging.schedule_alike S T al made;
  fit_alike = λ S T q s al. belonging.fit_alike S T al q s;
}
