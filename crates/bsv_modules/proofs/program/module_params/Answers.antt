use Rattle.bsv_modules.specs.Programs.{module_params}
use Rattle.bsv_modules.proofs.Views.{names_seen}
use Rattle.bsv_modules.proofs.program.module_params.Goals as goal

pub returns : goal.returns
unfolding module_params
returns c = rw (names_seen c.args.program.now.context) c.params.ensures
