use Rattle.bsv_clock.proofs.Clocks.{clock_run, clock_results}
use Rattle.bsv_clock.proofs.Settle.{same_seen, same_decide, settled_one, clock_settles, clock_within}
use Rattle.bsv_clock.proofs.Steadily.{steady_scheme}
use Rattle.bsv_clock.specs.Settling.{the_clock}
use Rattle.bsv_clock.proofs.laws.settled.Goals as goal

pub returns : goal.returns
returns c = record {
  rests = λ g S made. same_decide g S made;
  sees = same_seen;
  settles = λ g S made q s lawful scheduled. clock_settles g S made lawful scheduled q s;
  within = clock_within;
  one = λ g S made q s D lawful scheduled settled. settled_one g S made lawful scheduled q s D (the_clock g S made q s) settled (clock_settles g S made lawful scheduled q s);
  calls = λ g S made q s together. (clock_run g S made q s together (steady_scheme g S together.lawful)).calls;
  results = λ g S made q s together. clock_results g S made q s together (steady_scheme g S together.lawful);
}
