-- What the definitions of judging see of the values of the code.
use Rattle.bsv_names.specs.UntypedSeen.{reached}
use Rattle.bsv_statements.specs.SeenBodies.{task_of}
use Rattle.bsv_check.specs.declared.judged_statements.Judge as code_judge
use Rattle.bsv_check.specs.declared.judged_modules.ModuleJudge as code_module_judge
use Rattle.bsv_check.specs.Judged.{Judging}
use Rattle.bsv_check.specs.JudgedModules.{InModule}
use Rattle.bsv_modules.specs.Seen.{site_of}

abbrev pub judging : code_judge.Judge → Judging
judging j = record { untyped = reached j.reach; task = task_of j.task }

abbrev pub in_module : code_module_judge.ModuleJudge → InModule
in_module j = record { untyped = reached j.reach; site = site_of j.site }
