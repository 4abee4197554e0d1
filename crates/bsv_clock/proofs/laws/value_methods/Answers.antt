use Rattle.bsv_clock.proofs.Asked.{happen_alike}
use Rattle.bsv_clock.proofs.Quiet as values
use Rattle.bsv_clock.proofs.laws.value_methods.Goals as goal

pub returns : goal.returns
returns c = record {
  quiet = λ S made lawful scheduled. values.quiet S made lawful.sound scheduled;
  free = λ g S made q r s lawful scheduled alike. happen_alike g S made q r s lawful.sound scheduled alike;
}
