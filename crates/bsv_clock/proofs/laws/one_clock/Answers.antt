use Rattle.bsv_clock.proofs.Clocks.{some_clock, one_fired, one_after}
use Rattle.bsv_clock.proofs.Steadily.{steady_scheme}
use Rattle.bsv_clock.proofs.laws.one_clock.Goals as goal

pub returns : goal.returns
returns c = record {
  some = λ g S made q s together. some_clock g S made q s together (steady_scheme g S together.lawful);
  fired = λ g S made q s fired others after end together. one_fired g S made q s together (steady_scheme g S together.lawful) fired others after end;
  after = λ g S made q s fired others after end together. one_after g S made q s together (steady_scheme g S together.lawful) fired others after end;
}
