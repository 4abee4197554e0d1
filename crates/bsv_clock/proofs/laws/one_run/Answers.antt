use Rattle.bsv_clock.proofs.Clocks.{clock_fed}
use Rattle.bsv_clock.proofs.HappenAlike.{happens_to}
use Rattle.bsv_clock.proofs.OneRun.{same_told, same_runs}
use Rattle.bsv_clock.proofs.Steadily.{steady_scheme}
use Rattle.bsv_clock.proofs.laws.one_run.Goals as goal

pub returns : goal.returns
returns c = record {
  told = λ g S made q s fired others after end together. same_told g S made (steady_scheme g S together.lawful) q s together fired others after end;
  runs = λ g S made qs rows others lawful scheduled all h k.
      same_runs g S made (steady_scheme g S lawful) lawful scheduled (λ q s together. clock_fed g S made q s together (steady_scheme g S lawful)) qs rows others all h k;
  alike = λ g S T made q s fired after al h. happens_to g S T made q s fired after al h;
}
