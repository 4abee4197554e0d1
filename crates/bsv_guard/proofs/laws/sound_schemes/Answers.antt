use Rattle.bsv_guard.proofs.Fits.{fitting_keeps}
use Rattle.bsv_guard.proofs.Keeps.{sound_keeps}
use Rattle.bsv_guard.proofs.Transport.{sound_alike, fitting_alike}
use Rattle.bsv_guard.proofs.Turns.{sound_turns}
use Rattle.bsv_guard.proofs.laws.sound_schemes.Goals as goal

pub returns : goal.returns
returns c = record {
  elements = sound_keeps;
  fitting = fitting_keeps;
  turns = sound_turns;
  alike = sound_alike;
  fitting_alike = fitting_alike;
}
