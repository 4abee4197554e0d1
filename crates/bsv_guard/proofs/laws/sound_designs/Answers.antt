use Rattle.bsv_guard.proofs.DesignFits.{design_is_fitting, design_fits}
use Rattle.bsv_guard.proofs.DesignSound.{design_is_sound}
use Rattle.bsv_guard.proofs.laws.sound_designs.Goals as goal

pub returns : goal.returns
returns c = record { sound = design_is_sound; fitting = design_is_fitting; fits = design_fits }
