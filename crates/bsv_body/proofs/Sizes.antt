-- How much is left to lay out.
use Rattle.std.proofs.Common.{◌≡◌, ℕ, ◌+◌, List, map}
use Rattle.bsv_lemmas.proofs.Sums.{total}
use Rattle.bsv_tree.specs.declared.steps.Arm.{Arm, fold-Arm, fold_out-Arm}
use Rattle.bsv_tree.specs.declared.steps.Choice.{Choice, fold-Choice, fold_out-Choice, out-Choice}
use Rattle.bsv_tree.specs.declared.steps.Step.{Step, fold-Step}
use Rattle.bsv_tree.specs.declared.steps.Step.TheOpen.{Step-F, Choice-F, Arm-F}

abbrev pub step_size_step : Step-F ℕ ℕ ℕ → ℕ
step_size_step (Step-F.Let c) = 1
step_size_step (Step-F.Read m atoms inner) = 1 + total inner
step_size_step (Step-F.Act m atoms inner) = 1 + total inner
step_size_step (Step-F.Need name x inner) = 1 + total inner
step_size_step (Step-F.Choose c) = 1 + c

abbrev pub choice_size_step : Choice-F ℕ ℕ ℕ → ℕ
choice_size_step c = total c.arms + total c.last

abbrev pub arm_size_step : Arm-F ℕ ℕ ℕ → ℕ
arm_size_step a = 1 + (total a.condition + total a.body)

abbrev pub step_size : Step → ℕ
step_size = fold-Step ℕ ℕ ℕ step_size_step arm_size_step choice_size_step

abbrev pub arm_size : Arm → ℕ
arm_size = fold-Arm ℕ ℕ ℕ step_size_step arm_size_step choice_size_step

abbrev pub choice_size : Choice → ℕ
choice_size = fold-Choice ℕ ℕ ℕ step_size_step arm_size_step choice_size_step

abbrev pub steps_size : List Step → ℕ
steps_size xs = total (map step_size xs)

abbrev pub arms_size : List Arm → ℕ
arms_size xs = total (map arm_size xs)

pub arm_size_is : (a : Arm) → arm_size a ≡ 1 + (steps_size a.condition + steps_size a.body)
arm_size_is a = fold_out-Arm ℕ ℕ ℕ step_size_step arm_size_step choice_size_step a

pub choice_size_is : (c : Choice) → choice_size c ≡ arms_size (out-Choice c).arms + steps_size (out-Choice c).last
choice_size_is c = fold_out-Choice ℕ ℕ ℕ step_size_step arm_size_step choice_size_step c

pub ruleset falls = (arm_size_is, choice_size_is)
