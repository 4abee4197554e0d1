-- What running does at each step, each choice and each arm.
use Rattle.std.proofs.Common.{◌≡◌, ◌∙◌, Bool, List, map, Option, ap, sym}
use Rattle.bsv_tree.specs.declared.steps.Arm.{Arm, roll-Arm, fold-roll-Arm}
use Rattle.bsv_tree.specs.declared.steps.Atom.{Atom}
use Rattle.bsv_tree.specs.declared.steps.Choice.{Choice, roll-Choice, fold-roll-Choice}
use Rattle.bsv_tree.specs.declared.steps.Compute.{Compute}
use Rattle.bsv_tree.specs.declared.steps.MethodPlace.{MethodPlace}
use Rattle.bsv_tree.specs.declared.steps.Step.{Step, roll-Step, map-Step, fold-roll-Step}
use Rattle.bsv_tree.specs.declared.steps.Step.TheOpen.{Step-F}
use Rattle.bsv_tree.specs.declared.steps.Step.TheViews.{rolls-Let, rolls-Read, rolls-Act, rolls-Need, rolls-Choose}
use Rattle.bsv_tree.specs.declared.steps.Step.TheVariants as step
use Rattle.bsv_tree.specs.carrying.Running.{Run, Alternative, step_run, arm_run, choice_run, run}
use Rattle.bsv_tree.specs.declared.steps.Arm.{fold-Arm}
use Rattle.bsv_tree.specs.declared.steps.Choice.{fold-Choice}

unfoldable pub alternative : Arm → Alternative
alternative = fold-Arm Run Alternative Run step_run arm_run choice_run

unfoldable pub choice : Choice → Run
choice = fold-Choice Run Alternative Run step_run arm_run choice_run

step_node : (y : Step-F Step Arm Choice) → run (roll-Step y) ≡ step_run (map-Step Step Arm Choice Run Alternative Run run alternative choice y)
unfolding run alternative choice
step_node y = fold-roll-Step Run Alternative Run step_run arm_run choice_run y

pub let_is : (c : Compute) → run (step.Let c) ≡ step_run (Step-F.Let c)
let_is c = ap run (sym (rolls-Let c)) ∙ step_node (Step-F.Let c)

pub read_is : (m : MethodPlace) (xs : List Atom) (inner : List Step) → run (step.Read m xs inner) ≡ step_run (Step-F.Read m xs (map run inner))
read_is m xs inner = ap run (sym (rolls-Read m xs inner)) ∙ step_node (Step-F.Read m xs inner)

pub act_is : (m : MethodPlace) (xs : List Atom) (inner : List Step) → run (step.Act m xs inner) ≡ step_run (Step-F.Act m xs (map run inner))
act_is m xs inner = ap run (sym (rolls-Act m xs inner)) ∙ step_node (Step-F.Act m xs inner)

pub need_is : (name : Option MethodPlace) (x : Atom) (inner : List Step) → run (step.Need name x inner) ≡ step_run (Step-F.Need name x (map run inner))
need_is name x inner = ap run (sym (rolls-Need name x inner)) ∙ step_node (Step-F.Need name x inner)

pub choose_is : (c : Choice) → run (step.Choose c) ≡ step_run (Step-F.Choose (choice c))
choose_is c = ap run (sym (rolls-Choose c)) ∙ step_node (Step-F.Choose c)

pub alternative_is : (c : List Step) (t : Atom) (b : List Step) (g : List Atom) → alternative (roll-Arm (record { condition = c; test = t; body = b; gives = g })) ≡ record { condition = map run c; test = t; body = map run b; gives = g }
unfolding run alternative choice
alternative_is c t b g = fold-roll-Arm Run Alternative Run step_run arm_run choice_run (record { condition = c; test = t; body = b; gives = g })

pub choice_is : (nested : Bool) (as' : List Arm) (last : List Step) (g : List Atom) → choice (roll-Choice (record { nested = nested; arms = as'; last = last; gives = g })) ≡ choice_run (record { nested = nested; arms = map alternative as'; last = map run last; gives = g })
unfolding run alternative choice
choice_is nested as' last g = fold-roll-Choice Run Alternative Run step_run arm_run choice_run (record { nested = nested; arms = as'; last = last; gives = g })
