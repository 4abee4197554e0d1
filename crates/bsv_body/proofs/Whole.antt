-- A whole body does what its steps do.
use Rattle.std.proofs.Common.{◌≡◌, ◌∙◌, ℕ, ◌+◌, true, false, List, [], ◌∷◌, ◌++◌, map, length, Option, Some, None, refl, sym, ap, subst, arith, append_assoc, append-nil, length-append}
use Rattle.std.specs.Prelude.{slice_get}
use Rattle.bsv_lemmas.proofs.Places.{at_middle}
use Rattle.bsv_bits.specs.Words.{Bits, bit}
use Rattle.bsv_design.specs.declared.node.Node.TheVariants as node
use Rattle.bsv_tree.specs.declared.steps.Arm.{Arm, roll-Arm, map-Arm, fold-Arm, fold-roll-Arm}
use Rattle.bsv_tree.specs.declared.steps.Atom.{Atom}
use Rattle.bsv_tree.specs.declared.steps.Choice.{Choice, roll-Choice, map-Choice, fold-Choice, fold-roll-Choice}
use Rattle.bsv_tree.specs.declared.steps.Step.{Step, fold-roll-Step, ind-Step, roll-Step, map-Step}
use Rattle.bsv_tree.specs.declared.steps.Step.TheOpen.{Step-F, Choice-F, Arm-F}
use Rattle.bsv_tree.specs.carrying.Running as steps
use Rattle.bsv_tree.specs.meaning.Evaluation.{Results}
use Rattle.bsv_tree.specs.carrying.Running.{Run, happening, word_of, step_run, choice_run, arm_run}
use Rattle.bsv_design.specs.design.Words.{or_zero}
use Rattle.bsv_body.specs.declared.body.Body.{Body}
use Rattle.bsv_body.specs.declared.calls.Call.{Call}
use Rattle.bsv_body.specs.declared.state.Asked.{Asked}
use Rattle.bsv_body.specs.declared.state.State.{State}
use Rattle.bsv_body.specs.Bodies.{Shows, AreSites, AreNeeds, IsResult, IsBody}
use Rattle.bsv_body.specs.Flat as nodes
use Rattle.bsv_body.specs.Flat.{Flat, Alternative, Position, flat, alternative, choice, step_flat, choice_flat, arm_flat, in_turn, put, stand}
use Rattle.bsv_design.specs.design.Bodies.{words_after}
use Rattle.bsv_body.specs.Opening.{no_nodes, arguments_from, opened, given}
use Rattle.bsv_body.proofs.Words.{keeps_all, operand_worth, stand_more}
use Rattle.bsv_body.proofs.StepsSame.{Holds, words, Follows, Matches, AllMatch, let_same, need_same, act_same, read_same, in_turn_same, sites_within, needs_within}
use Rattle.bsv_body.proofs.ArmsSame.{AllAlternatives, none, more, chosen, choose_same}
use Rattle.bsv_body.proofs.Nodes.{step_node}

abbrev run_arm : Arm → steps.Alternative
run_arm = fold-Arm Run steps.Alternative Run step_run arm_run choice_run

abbrev run_choice : Choice → Run
run_choice = fold-Choice Run steps.Alternative Run step_run arm_run choice_run

flat_arm : (y : Arm-F Step Arm Choice) → alternative (roll-Arm y) ≡ arm_flat (map-Arm Step Arm Choice Flat Alternative Flat flat alternative choice y)
unfolding flat alternative choice
flat_arm y = fold-roll-Arm Flat Alternative Flat step_flat arm_flat choice_flat y

flat_choice : (y : Choice-F Step Arm Choice) → choice (roll-Choice y) ≡ choice_flat (map-Choice Step Arm Choice Flat Alternative Flat flat alternative choice y)
unfolding flat alternative choice
flat_choice y = fold-roll-Choice Flat Alternative Flat step_flat arm_flat choice_flat y

runs_step : (y : Step-F Step Arm Choice) → steps.run (roll-Step y) ≡ step_run (map-Step Step Arm Choice Run steps.Alternative Run steps.run run_arm run_choice y)
unfolding steps.run
runs_step y = fold-roll-Step Run steps.Alternative Run step_run arm_run choice_run y

runs_arm : (y : Arm-F Step Arm Choice) → run_arm (roll-Arm y) ≡ arm_run (map-Arm Step Arm Choice Run steps.Alternative Run steps.run run_arm run_choice y)
unfolding steps.run
runs_arm y = fold-roll-Arm Run steps.Alternative Run step_run arm_run choice_run y

runs_choice : (y : Choice-F Step Arm Choice) → run_choice (roll-Choice y) ≡ choice_run (map-Choice Step Arm Choice Run steps.Alternative Run steps.run run_arm run_choice y)
unfolding steps.run
runs_choice y = fold-roll-Choice Run steps.Alternative Run step_run arm_run choice_run y

module _ (r : Results) (arguments : List Bits) (full : List Call) where
  abbrev P : Step → Type 0
  P s = Matches r arguments full (flat s) (steps.run s)

  abbrev Q : Arm → Type 0
  Q a = (xs : List Alternative) (ys : List steps.Alternative) → AllAlternatives r arguments full xs ys → AllAlternatives r arguments full (alternative a ∷ xs) (run_arm a ∷ ys)

  abbrev R : Choice → Type 0
  R c = Matches r arguments full (choice c) (chosen (run_choice c))

  all_of : (es : List ((s : Step) × P s)) → AllMatch r arguments full (map flat (map (λ e. e.0) es)) (map steps.run (map (λ e. e.0) es))
  all_of [] = tt
  all_of (e ∷ es) = (e.1, all_of es)

  alternatives_of : (es : List ((a : Arm) × Q a)) → AllAlternatives r arguments full (map alternative (map (λ e. e.0) es)) (map run_arm (map (λ e. e.0) es))
  alternatives_of [] = none
  alternatives_of (e ∷ es) = e.1 _ _ (alternatives_of es)

  at_roll : (y : Step-F Step Arm Choice) → Matches r arguments full (step_flat (map-Step Step Arm Choice Flat Alternative Flat flat alternative choice y)) (step_run (map-Step Step Arm Choice Run steps.Alternative Run steps.run run_arm run_choice y)) → P (roll-Step y)
  at_roll y h =
      subst (λ f. Matches r arguments full f (steps.run (roll-Step y))) (sym (step_node y))
      (subst (λ o. Matches r arguments full (step_flat (map-Step Step Arm Choice Flat Alternative Flat flat alternative choice y)) o) (sym (runs_step y)) h)

  abbrev Steps' : Type 0
  Steps' = (s : Step) × P s

  abbrev Arms' : Type 0
  Arms' = (a : Arm) × Q a

  abbrev Choices' : Type 0
  Choices' = (c : Choice) × R c

  by_step : (y : Step-F Steps' Arms' Choices') → P (roll-Step (map-Step Steps' Arms' Choices' Step Arm Choice (λ e. e.0) (λ e. e.0) (λ e. e.0) y))
  by_step (Step-F.Let c) = at_roll (Step-F.Let c) (let_same r arguments full c)
  by_step (Step-F.Read m xs es) = at_roll (Step-F.Read m xs (map (λ e. e.0) es)) (read_same r arguments full m xs _ _ (all_of es))
  by_step (Step-F.Act m xs es) = at_roll (Step-F.Act m xs (map (λ e. e.0) es)) (act_same r arguments full m xs _ _ (all_of es))
  by_step (Step-F.Need name x es) = at_roll (Step-F.Need name x (map (λ e. e.0) es)) (need_same r arguments full name x _ _ (all_of es))
  by_step (Step-F.Choose c) = at_roll (Step-F.Choose c.0) c.1

  by_arm : (y : Arm-F Steps' Arms' Choices') → Q (roll-Arm (map-Arm Steps' Arms' Choices' Step Arm Choice (λ e. e.0) (λ e. e.0) (λ e. e.0) y))
  by_arm y xs ys h =
      let z = map-Arm Steps' Arms' Choices' Step Arm Choice (λ e. e.0) (λ e. e.0) (λ e. e.0) y in
      subst (λ a. AllAlternatives r arguments full (a ∷ xs) (run_arm (roll-Arm z) ∷ ys)) (sym (flat_arm z))
      (subst (λ b. AllAlternatives r arguments full (arm_flat (map-Arm Step Arm Choice Flat Alternative Flat flat alternative choice z) ∷ xs) (b ∷ ys)) (sym (runs_arm z))
      (more (all_of y.condition) (all_of y.body) h))

  by_choice : (y : Choice-F Steps' Arms' Choices') → R (roll-Choice (map-Choice Steps' Arms' Choices' Step Arm Choice (λ e. e.0) (λ e. e.0) (λ e. e.0) y))
  by_choice y =
      let z = map-Choice Steps' Arms' Choices' Step Arm Choice (λ e. e.0) (λ e. e.0) (λ e. e.0) y in
      subst (λ f. Matches r arguments full f (chosen (run_choice (roll-Choice z)))) (sym (flat_choice z))
      (subst (λ o. Matches r arguments full (choice_flat (map-Choice Step Arm Choice Flat Alternative Flat flat alternative choice z)) (chosen o)) (sym (runs_choice z))
      (choose_same r arguments full y.nested _ _ y.gives _ _ (all_of y.last) (alternatives_of y.arms)))

  same_trace : (s : Step) → P s
  same_trace = ind-Step P Q R
      (λ x y is. subst (λ z. P (roll-Step z)) is (by_step y))
      (λ x y is. subst (λ z. Q (roll-Arm z)) is (by_arm y))
      (λ x y is. subst (λ z. R (roll-Choice z)) is (by_choice y))

  all_same : (ss : List Step) → AllMatch r arguments full (map flat ss) (map steps.run ss)
  all_same [] = tt
  all_same (s ∷ ss) = (same_trace s, all_same ss)

  -- ---- how a body begins

  abbrev seen : State → List Bits
  seen s = words r arguments full s

  record Started (s : State) (ws : List Bits) : Type 0 where
    shows : Shows (seen s) s.slots ws
    yes : slice_get (seen s) 0 ≡ Some (bit true)
    none : slice_get (seen s) 1 ≡ Some (bit false)
    calls : s.calls ≡ 0
    choices : s.choices ≡ 0

  next_word : (front : List Bits) (w : Bits) (ws : List Bits) → or_zero (slice_get (front ++ w ∷ ws) (length front)) ≡ w
  next_word [] w ws = refl
  next_word (x ∷ front) w ws = next_word front w ws

  stand_started : (place : ℕ) (s : State) (front : List Bits) (w : Bits) → Started s front → or_zero (slice_get arguments place) ≡ w → Started (stand (node.Argument place) s) (front ++ w ∷ [])
  stand_started place s front w h is =
      let m = stand_more r arguments full (node.Argument place) s s front w (keeps_all r arguments full s) h.shows is in
      record { shows = m.shows; yes = m.within _ _ h.yes; none = m.within _ _ h.none; calls = m.calls ∙ h.calls; choices = m.choices ∙ h.choices }

  arguments_started : (rest : List Bits) (front : List Bits) (s : State) → front ++ rest ≡ arguments → Started s front → Started (arguments_from (length front) (length rest) s) arguments
  unfolding arguments_from
  arguments_started [] front s is h = subst (Started s) (sym (append-nil front) ∙ is) h
  arguments_started (w ∷ rest) front s is h =
      let word : or_zero (slice_get arguments (length front)) ≡ w = ap (λ (ws : List Bits). or_zero (slice_get ws (length front))) (sym is) ∙ next_word front w rest in
      let again : (front ++ w ∷ []) ++ rest ≡ arguments = append_assoc front (w ∷ []) rest ∙ is in
      let long : length (front ++ w ∷ []) ≡ length front + 1 = omega (arith, length-append front (w ∷ [])) in
      subst (λ k. Started (arguments_from k (length rest) (stand (node.Argument (length front)) s)) arguments) long
      (arguments_started rest (front ++ w ∷ []) (stand (node.Argument (length front)) s) again (stand_started (length front) s front w h word))

  opened_started : (count : ℕ) → length arguments ≡ count → Started (opened count) arguments
  unfolding opened words_after
  opened_started count long =
      subst (λ n. Started (arguments_from 0 n (put (node.Constant (bit false)) (put (node.Constant (bit true)) no_nodes))) arguments) long
      (arguments_started arguments [] (put (node.Constant (bit false)) (put (node.Constant (bit true)) no_nodes)) refl
      (record { shows = tt; yes = refl; none = refl; calls = refl; choices = refl }))

-- ---- a whole body

holds_after : (front xs : List Call) → Holds (front ++ xs) (length front) xs
holds_after front [] = tt
holds_after front (c ∷ xs) =
    let e : (front ++ c ∷ []) ++ xs ≡ front ++ c ∷ xs = append_assoc front (c ∷ []) xs in
    let n : length (front ++ c ∷ []) ≡ length front + 1 = omega (arith, length-append front (c ∷ [])) in
    (at_middle front xs c, subst (λ l. Holds l (length front + 1) xs) e (subst (λ k. Holds ((front ++ c ∷ []) ++ xs) k xs) n (holds_after (front ++ c ∷ []) xs)))

abbrev whole : Position
whole = record { taken = 0; branches = [] }

abbrev pub laid : ℕ → List Step → Asked × State
laid count ss = in_turn (map flat ss) whole (opened count)

abbrev pub body_of : ℕ → List Step → Option Atom → Body
body_of count ss gives =
    let m = laid count ss in
    let g = given gives m.1 in
    record { nodes = g.1.nodes; calls = m.0.calls; conditions = m.0.conditions; result = g.0 }

module _ (count : ℕ) (ss : List Step) (gives : Option Atom) (r : Results) (arguments : List Bits) (long : length arguments ≡ count) where
  abbrev m : Asked × State
  m = laid count ss

  follows : Follows r arguments m.0.calls (opened count) m (happening ss r arguments)
  unfolding happening
  follows =
      let b = opened_started r arguments m.0.calls count long in
      in_turn_same r arguments m.0.calls (map flat ss) (map steps.run ss) (all_same r arguments m.0.calls ss) whole (record { taken = true; branches = [] }) (opened count) arguments 0 0
      b.shows (record { taken = b.yes; branches = refl; none = b.none }) b.choices b.calls (subst (λ k. Holds m.0.calls k m.0.calls) (sym b.calls) (holds_after [] m.0.calls))

  record Ends (g : Option ℕ × State) : Type 0 where
    calls : AreSites (words r arguments m.0.calls g.1) m.0.calls (happening ss r arguments).calls
    conditions : AreNeeds (words r arguments m.0.calls g.1) m.0.conditions (happening ss r arguments).needs
    result : IsResult (words r arguments m.0.calls g.1) g.0 gives (happening ss r arguments).words

  ends : (o : Option Atom) → o ≡ gives → Ends (given o m.1)
  ends None is = record { calls = follows.calls; conditions = follows.needs; result = subst (λ (x : Option Atom). IsResult (words r arguments m.0.calls m.1) None x (happening ss r arguments).words) is tt }
  ends (Some x) is =
      let o = nodes.operand x m.1 in
      let h = operand_worth r arguments m.0.calls x m.1 (happening ss r arguments).words follows.shows in
      record {
        calls = sites_within _ _ h.keeps.within m.0.calls (happening ss r arguments).calls follows.calls;
        conditions = needs_within _ _ h.keeps.within m.0.conditions (happening ss r arguments).needs follows.needs;
        result = subst (λ (y : Option Atom). IsResult (words r arguments m.0.calls o.1) (Some o.0) y (happening ss r arguments).words) is h.word;
      }

pub is_body : (count : ℕ) (ss : List Step) (gives : Option Atom) → IsBody count ss gives (body_of count ss gives)
is_body count ss gives = record {
  calls = λ r arguments long. (ends count ss gives r arguments long gives refl).calls;
  conditions = λ r arguments long. (ends count ss gives r arguments long gives refl).conditions;
  result = λ r arguments long. (ends count ss gives r arguments long gives refl).result;
}

-- what the code makes, part by part
pub made_so : (count : ℕ) (ss : List Step) (gives : Option Atom) (s z w : State) (asked : Asked) (result : Option ℕ) (b : Body)
    → s ≡ opened count → in_turn (map flat ss) whole s ≡ (asked, z) → given gives z ≡ (result, w)
    → b ≡ record { nodes = w.nodes; calls = asked.calls; conditions = asked.conditions; result = result } → IsBody count ss gives b
made_so count ss gives s z w asked result b last_arm laid_is ends_is is =
    let m_is : laid count ss ≡ (asked, z) = ap (in_turn (map flat ss) whole) (sym last_arm) ∙ laid_is in
    let made : body_of count ss gives ≡ record { nodes = w.nodes; calls = asked.calls; conditions = asked.conditions; result = result } =
    ap (λ (m : Asked × State). let g = given gives m.1 in let x : Body = record { nodes = g.1.nodes; calls = m.0.calls; conditions = m.0.conditions; result = g.0 } in x) m_is
    ∙ ap (λ (g : Option ℕ × State). let x : Body = record { nodes = g.1.nodes; calls = asked.calls; conditions = asked.conditions; result = g.0 } in x) ends_is in
    subst (IsBody count ss gives) (made ∙ sym is) (is_body count ss gives)
