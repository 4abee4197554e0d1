use Rattle.bsv_flow.specs.Schedulings.{subject}
use Rattle.bsv_flow.proofs.OneSchedule.{decided, not_both, one_schedule, one_unscheduled}
use Rattle.bsv_flow.proofs.scheduling.one_schedule.Goals as goal

pub returns : goal.returns
returns c = record {
  one = λ h. one_schedule (subject h);
  one_refusal = one_unscheduled;
  apart = not_both;
  some = decided;
}
