-- What laying out gives at each step, each choice and each arm.
use Rattle.std.proofs.Common.{◌≡◌, ◌∙◌, List, map, Option, ap, sym}
use Rattle.bsv_tree.specs.declared.steps.Arm.{Arm, fold_out-Arm}
use Rattle.bsv_tree.specs.declared.steps.Atom.{Atom}
use Rattle.bsv_tree.specs.declared.steps.Choice.{Choice, fold_out-Choice, out-Choice}
use Rattle.bsv_tree.specs.declared.steps.Compute.{Compute}
use Rattle.bsv_tree.specs.declared.steps.MethodPlace.{MethodPlace}
use Rattle.bsv_tree.specs.declared.steps.Step.{Step, roll-Step, map-Step, fold-roll-Step}
use Rattle.bsv_tree.specs.declared.steps.Step.TheOpen.{Step-F}
use Rattle.bsv_tree.specs.declared.steps.Step.TheViews.{rolls-Let, rolls-Read, rolls-Act, rolls-Need, rolls-Choose}
use Rattle.bsv_tree.specs.declared.steps.Step.TheVariants as step
use Rattle.bsv_body.specs.declared.state.State.{State}
use Rattle.bsv_body.specs.Flat.{Flat, Alternative, Position, nothing, compute, read, act, needed, choose, flat, alternative, choice, step_flat, arm_flat, choice_flat}

pub step_node : (y : Step-F Step Arm Choice) → flat (roll-Step y) ≡ step_flat (map-Step Step Arm Choice Flat Alternative Flat flat alternative choice y)
unfolding flat alternative choice
step_node y = fold-roll-Step Flat Alternative Flat step_flat arm_flat choice_flat y

module _ (p : Position) (s : State) where
  pub let_is : (c : Compute) → flat (step.Let c) p s ≡ (nothing, compute c s)
  let_is c = ap (λ (f : Flat). f p s) (ap flat (sym (rolls-Let c)) ∙ step_node (Step-F.Let c))

  pub read_is : (m : MethodPlace) (xs : List Atom) (inner : List Step) → flat (step.Read m xs inner) p s ≡ read m xs (map flat inner) p s
  read_is m xs inner = ap (λ (f : Flat). f p s) (ap flat (sym (rolls-Read m xs inner)) ∙ step_node (Step-F.Read m xs inner))

  pub act_is : (m : MethodPlace) (xs : List Atom) (inner : List Step) → flat (step.Act m xs inner) p s ≡ act m xs (map flat inner) p s
  act_is m xs inner = ap (λ (f : Flat). f p s) (ap flat (sym (rolls-Act m xs inner)) ∙ step_node (Step-F.Act m xs inner))

  pub need_is : (name : Option MethodPlace) (x : Atom) (inner : List Step) → flat (step.Need name x inner) p s ≡ needed name x (map flat inner) p s
  need_is name x inner = ap (λ (f : Flat). f p s) (ap flat (sym (rolls-Need name x inner)) ∙ step_node (Step-F.Need name x inner))

  pub choose_is : (c : Choice) → flat (step.Choose c) p s ≡ choice c p s
  choose_is c = ap (λ (f : Flat). f p s) (ap flat (sym (rolls-Choose c)) ∙ step_node (Step-F.Choose c))

  pub choice_is : (c : Choice) → choice c p s ≡ choose (out-Choice c).nested (map flat (out-Choice c).last) (out-Choice c).gives (map alternative (out-Choice c).arms) p s
  unfolding flat alternative choice
  choice_is c = ap (λ (f : Flat). f p s) (fold_out-Choice Flat Alternative Flat step_flat arm_flat choice_flat c)

pub alternative_is : (a : Arm) → alternative a ≡ record { condition = map flat a.condition; test = a.test; body = map flat a.body; gives = a.gives }
unfolding flat alternative choice
alternative_is a = fold_out-Arm Flat Alternative Flat step_flat arm_flat choice_flat a

pub ruleset steps = (let_is, read_is, act_is, need_is, choose_is)

pub ruleset choices = (choice_is)

pub ruleset alternatives = (alternative_is)
