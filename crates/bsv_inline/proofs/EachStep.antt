-- What holds of all steps, if each construct keeps it.
use Rattle.std.proofs.Common.{◌≡◌, ◌+◌, Bool, true, false, List, [], ◌∷◌, ◌++◌, map, Option, sym, subst}
use Rattle.std.specs.Prelude.{if◌then◌else◌}
use Rattle.bsv_tree.specs.declared.steps.Arm.{Arm, roll-Arm, map-Arm, fold-Arm, fold-roll-Arm}
use Rattle.bsv_tree.specs.declared.steps.Atom.{Atom}
use Rattle.bsv_tree.specs.declared.steps.Choice.{Choice, roll-Choice, map-Choice, fold-Choice, fold-roll-Choice}
use Rattle.bsv_tree.specs.declared.steps.Compute.{Compute}
use Rattle.bsv_tree.specs.declared.steps.MethodPlace.{MethodPlace}
use Rattle.bsv_tree.specs.declared.steps.Step.{Step, fold-roll-Step, ind-Step, roll-Step, map-Step}
use Rattle.bsv_tree.specs.declared.steps.Step.TheOpen.{Step-F, Choice-F, Arm-F}
use Rattle.bsv_tree.specs.carrying.Running.{Run, Alternative, run, step_run, choice_run, arm_run, nested_run, arms_run}
use Rattle.bsv_inline.proofs.Uses.{Methods, all_methods, step_methods, step_uses, choice_uses, arm_uses}

abbrev run_arm : Arm → Alternative
run_arm = fold-Arm Run Alternative Run step_run arm_run choice_run

abbrev run_choice : Choice → Run
run_choice = fold-Choice Run Alternative Run step_run arm_run choice_run

abbrev uses_arm : Arm → Methods
uses_arm = fold-Arm Methods Methods Methods step_uses arm_uses choice_uses

abbrev uses_choice : Choice → Methods
uses_choice = fold-Choice Methods Methods Methods step_uses arm_uses choice_uses

runs_step : (y : Step-F Step Arm Choice) → run (roll-Step y) ≡ step_run (map-Step Step Arm Choice Run Alternative Run run run_arm run_choice y)
unfolding run
runs_step y = fold-roll-Step Run Alternative Run step_run arm_run choice_run y

runs_arm : (y : Arm-F Step Arm Choice) → run_arm (roll-Arm y) ≡ arm_run (map-Arm Step Arm Choice Run Alternative Run run run_arm run_choice y)
unfolding run
runs_arm y = fold-roll-Arm Run Alternative Run step_run arm_run choice_run y

runs_choice : (y : Choice-F Step Arm Choice) → run_choice (roll-Choice y) ≡ choice_run (map-Choice Step Arm Choice Run Alternative Run run run_arm run_choice y)
unfolding run
runs_choice y = fold-roll-Choice Run Alternative Run step_run arm_run choice_run y

uses_step : (y : Step-F Step Arm Choice) → step_methods (roll-Step y) ≡ step_uses (map-Step Step Arm Choice Methods Methods Methods step_methods uses_arm uses_choice y)
unfolding step_methods
uses_step y = fold-roll-Step Methods Methods Methods step_uses arm_uses choice_uses y

used_arm : (y : Arm-F Step Arm Choice) → uses_arm (roll-Arm y) ≡ arm_uses (map-Arm Step Arm Choice Methods Methods Methods step_methods uses_arm uses_choice y)
unfolding step_methods
used_arm y = fold-roll-Arm Methods Methods Methods step_uses arm_uses choice_uses y

used_choice : (y : Choice-F Step Arm Choice) → uses_choice (roll-Choice y) ≡ choice_uses (map-Choice Step Arm Choice Methods Methods Methods step_methods uses_arm uses_choice y)
unfolding step_methods
used_choice y = fold-roll-Choice Methods Methods Methods step_uses arm_uses choice_uses y

-- what is said of the steps of an element, one by one, by what they do and what they use
abbrev pub AllKeep : (Run → Methods → Type 0) → List Run → List Methods → Type 0
AllKeep P [] [] = Unit {0}
AllKeep P (o ∷ os) (u ∷ us) = P o u × AllKeep P os us
AllKeep P _ _ = ⊥

-- the same of an arm
pub record IsArm (P : Run → Methods → Type 0) (x : Alternative) (u : Methods) : Type 0 where
  pub first : List Methods
  pub second : List Methods
  pub condition : AllKeep P x.condition first
  pub body : AllKeep P x.body second
  pub both : u ≡ all_methods first ++ all_methods second

abbrev pub AllArms : (Run → Methods → Type 0) → List Alternative → List Methods → Type 0
AllArms P [] [] = Unit {0}
AllArms P (x ∷ xs) (u ∷ us) = IsArm P x u × AllArms P xs us
AllArms P _ _ = ⊥

-- each construct keeps it
pub record IsKept (P : Run → Methods → Type 0) : Type 0 where
  pub bound : (c : Compute) → P (step_run (Step-F.Let c)) []
  pub read : (m : MethodPlace) (xs : List Atom) (os : List Run) (us : List Methods) → AllKeep P os us → P (step_run (Step-F.Read m xs os)) (m ∷ all_methods us)
  pub act : (m : MethodPlace) (xs : List Atom) (os : List Run) (us : List Methods) → AllKeep P os us → P (step_run (Step-F.Act m xs os)) (m ∷ all_methods us)
  pub need : (name : Option MethodPlace) (x : Atom) (os : List Run) (us : List Methods) → AllKeep P os us → P (step_run (Step-F.Need name x os)) (all_methods us)
  pub nested : (arms : List Alternative) (us : List Methods) (last : List Run) (vs : List Methods) (gives : List Atom) → AllArms P arms us → AllKeep P last vs
      → P (step_run (Step-F.Choose (nested_run last gives arms))) (all_methods us ++ all_methods vs)
  pub chain : (arms : List Alternative) (us : List Methods) (last : List Run) (vs : List Methods) (gives : List Atom) → AllArms P arms us → AllKeep P last vs
      → P (step_run (Step-F.Choose (λ r p ws n k. arms_run last gives arms n 0 p.taken r p ws (n + 1) k))) (all_methods us ++ all_methods vs)

module _ (P : Run → Methods → Type 0) (kept : IsKept P) where
  abbrev OfStep : Step → Type 0
  OfStep s = P (run s) (step_methods s)

  abbrev OfArm : Arm → Type 0
  OfArm a = IsArm P (run_arm a) (uses_arm a)

  abbrev OfChoice : Choice → Type 0
  OfChoice c = P (step_run (Step-F.Choose (run_choice c))) (uses_choice c)

  abbrev Steps' : Type 0
  Steps' = (s : Step) × OfStep s

  abbrev Arms' : Type 0
  Arms' = (a : Arm) × OfArm a

  abbrev Choices' : Type 0
  Choices' = (c : Choice) × OfChoice c

  all_of : (es : List Steps') → AllKeep P (map run (map (λ e. e.0) es)) (map step_methods (map (λ e. e.0) es))
  all_of [] = tt
  all_of (e ∷ es) = (e.1, all_of es)

  arms_of : (es : List Arms') → AllArms P (map run_arm (map (λ e. e.0) es)) (map uses_arm (map (λ e. e.0) es))
  arms_of [] = tt
  arms_of (e ∷ es) = (e.1, arms_of es)

  at_roll : (y : Step-F Step Arm Choice) → P (step_run (map-Step Step Arm Choice Run Alternative Run run run_arm run_choice y)) (step_uses (map-Step Step Arm Choice Methods Methods Methods step_methods uses_arm uses_choice y)) → OfStep (roll-Step y)
  at_roll y h =
      subst (λ o. P o (step_methods (roll-Step y))) (sym (runs_step y))
      (subst (P (step_run (map-Step Step Arm Choice Run Alternative Run run run_arm run_choice y))) (sym (uses_step y)) h)

  by_step : (y : Step-F Steps' Arms' Choices') → OfStep (roll-Step (map-Step Steps' Arms' Choices' Step Arm Choice (λ e. e.0) (λ e. e.0) (λ e. e.0) y))
  by_step (Step-F.Let c) = at_roll (Step-F.Let c) (kept.bound c)
  by_step (Step-F.Read m xs es) = at_roll (Step-F.Read m xs (map (λ e. e.0) es)) (kept.read m xs _ _ (all_of es))
  by_step (Step-F.Act m xs es) = at_roll (Step-F.Act m xs (map (λ e. e.0) es)) (kept.act m xs _ _ (all_of es))
  by_step (Step-F.Need name x es) = at_roll (Step-F.Need name x (map (λ e. e.0) es)) (kept.need name x _ _ (all_of es))
  by_step (Step-F.Choose c) = at_roll (Step-F.Choose c.0) c.1

  by_arm : (y : Arm-F Steps' Arms' Choices') → OfArm (roll-Arm (map-Arm Steps' Arms' Choices' Step Arm Choice (λ e. e.0) (λ e. e.0) (λ e. e.0) y))
  by_arm y =
      let z = map-Arm Steps' Arms' Choices' Step Arm Choice (λ e. e.0) (λ e. e.0) (λ e. e.0) y in
      subst (λ x. IsArm P x (uses_arm (roll-Arm z))) (sym (runs_arm z))
      (record { first = _; second = _; condition = all_of y.condition; body = all_of y.body; both = used_arm z })

  by_nested : (b : Bool) (arms : List Alternative) (us : List Methods) (last : List Run) (vs : List Methods) (gives : List Atom) → AllArms P arms us → AllKeep P last vs
      → P (step_run (Step-F.Choose (λ r p ws n k. if b then nested_run last gives arms r p ws n k else arms_run last gives arms n 0 p.taken r p ws (n + 1) k))) (all_methods us ++ all_methods vs)
  by_nested true arms us last vs gives = kept.nested arms us last vs gives
  by_nested false arms us last vs gives = kept.chain arms us last vs gives

  by_choice : (y : Choice-F Steps' Arms' Choices') → OfChoice (roll-Choice (map-Choice Steps' Arms' Choices' Step Arm Choice (λ e. e.0) (λ e. e.0) (λ e. e.0) y))
  by_choice y =
      let z = map-Choice Steps' Arms' Choices' Step Arm Choice (λ e. e.0) (λ e. e.0) (λ e. e.0) y in
      subst (λ o. P (step_run (Step-F.Choose o)) (uses_choice (roll-Choice z))) (sym (runs_choice z))
      (subst (P (step_run (Step-F.Choose (choice_run (map-Choice Step Arm Choice Run Alternative Run run run_arm run_choice z))))) (sym (used_choice z))
      (by_nested y.nested _ _ _ _ y.gives (arms_of y.arms) (all_of y.last)))

  each : (s : Step) → OfStep s
  each = ind-Step OfStep OfArm OfChoice
      (λ x y is. subst (λ z. OfStep (roll-Step z)) is (by_step y))
      (λ x y is. subst (λ z. OfArm (roll-Arm z)) is (by_arm y))
      (λ x y is. subst (λ z. OfChoice (roll-Choice z)) is (by_choice y))

  pub all_keep : (ss : List Step) → AllKeep P (map run ss) (map step_methods ss)
  all_keep [] = tt
  all_keep (s ∷ ss) = (each s, all_keep ss)
