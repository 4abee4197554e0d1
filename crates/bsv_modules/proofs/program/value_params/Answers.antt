use Rattle.bsv_modules.specs.Programs.{value_params}
use Rattle.bsv_modules.proofs.Views.{names_seen}
use Rattle.bsv_modules.proofs.program.value_params.Goals as goal

pub returns : goal.returns
unfolding value_params
returns c = rw (names_seen c.args.program.now.context) c.params.ensures
