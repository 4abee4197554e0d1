-- The methods of primitives at all call sites of steps, in all branches.
use Rattle.std.specs.Prelude.{List, [], ◌∷◌, ◌++◌, map}
use Rattle.bsv_tree.specs.declared.steps.MethodPlace.{MethodPlace}
use Rattle.bsv_tree.specs.declared.steps.Step.{Step, fold-Step}
use Rattle.bsv_tree.specs.declared.steps.Step.TheOpen.{Step-F, Choice-F, Arm-F}

-- methods of primitives, by their instances
abbrev pub Methods : Type 0
Methods = List MethodPlace

abbrev pub all_methods : List Methods → Methods
all_methods [] = []
all_methods (x ∷ xs) = x ++ all_methods xs

abbrev pub step_uses : Step-F Methods Methods Methods → Methods
step_uses (Step-F.Let c) = []
step_uses (Step-F.Read m atoms inner) = m ∷ all_methods inner
step_uses (Step-F.Act m atoms inner) = m ∷ all_methods inner
step_uses (Step-F.Need name a inner) = all_methods inner
step_uses (Step-F.Choose choice) = choice

abbrev pub choice_uses : Choice-F Methods Methods Methods → Methods
choice_uses c = all_methods c.arms ++ all_methods c.last

abbrev pub arm_uses : Arm-F Methods Methods Methods → Methods
arm_uses a = all_methods a.condition ++ all_methods a.body

unfoldable pub step_methods : Step → Methods
step_methods = fold-Step Methods Methods Methods step_uses arm_uses choice_uses

-- the methods at all call sites, in all branches, in text order
unfoldable pub uses : List Step → Methods
uses ss = all_methods (map step_methods ss)
