-- A choice between values gives the same over later instances, and from less weight.
use Rattle.std.proofs.Common.{ℕ, List, [], ◌∷◌, Option, Some, None, refl}
use Rattle.std.specs.Prelude.{slice_get}
use Rattle.bsv_types.specs.Kinds.{Kind as Sort, integer}
use Rattle.bsv_tree.specs.declared.steps.Arm.{Arm}
use Rattle.bsv_tree.specs.declared.tree.Instance.{Instance}
use Rattle.bsv_tree.specs.declared.values.Count.{Count}
use Rattle.bsv_tree.specs.declared.values.Fault.{Fault}
use Rattle.bsv_tree.specs.declared.values.Local.{Local}
use Rattle.bsv_tree.specs.declared.values.Value.{Value}
use Rattle.bsv_tree.specs.declared.values.Work.{Work}
use Rattle.bsv_tree.specs.tree.Contexts.{Context}
use Rattle.bsv_tree.specs.carrying.Calls.{Caller, placed, placed_at, static_fault}
use Rattle.bsv_tree.specs.carrying.Values.{is_static, is_true}
use Rattle.bsv_tree.specs.carrying.Working.{no_steps, at_count}
use Rattle.bsv_tree.specs.carrying.Carrying as carrying
use Rattle.bsv_tree.specs.carrying.Carrying.{Carried}
use Rattle.bsv_carry.proofs.StaysAccepted.SideBySide.{Into, into_then, into_if, into_same, raised, heavier, at_raised, at_heavier, tick_over}
use Rattle.bsv_carry.proofs.StaysAccepted.Arms.{value_choice_over}
use Rattle.bsv_carry.specs.StaysAccepted.{over}
use Rattle.bsv_carry.proofs.StaysAccepted.Instances.{CarriedInto, CarryInto, PlacingInto, EachCarried, MaybeCarried}

module _ (d : ℕ) where
  last_value_into : (w : Work) (arms : List Arm) (x y : Carried) → CarriedInto d x y → (vs : List Local) (c : Count)
      → Into (at_heavier d) (carrying.last_value (heavier d w) arms x vs (raised d c)) (carrying.last_value w arms y vs c)
  unfolding carrying.last_value
  last_value_into w [] x y h vs c = h.carry vs (at_count w c)
  last_value_into w (a ∷ arms) x y h vs c = into_then _ _ (h.carry vs (no_steps c)) (λ r. value_choice_over d w (a ∷ arms) r)

  value_asked_into : (x y : Carried) → CarriedInto d x y → (vs : List Local) (c : Count)
      → Into (at_heavier d) (carrying.value_asked x vs (raised d c)) (carrying.value_asked y vs c)
  unfolding carrying.value_asked
  value_asked_into x y h vs c = into_then _ _ (tick_over d c 1) (λ c. h.carry vs (no_steps c))

  value_kept_into : (arms : List Arm) (c : Count) (test : Value × Work) (x y : Carried) → CarriedInto d x y → (vs : List Local)
      → Into (at_raised d) (carrying.value_kept arms (raised d c) (at_heavier d test) x vs) (carrying.value_kept arms c test y vs)
  unfolding carrying.value_kept
  value_kept_into arms c test x y h vs =
      into_if (is_static test.0) (record { seen = refl }) (into_then _ _ (h.carry vs (no_steps test.1.count)) (λ r. record { seen = refl }))

  choice_from_into : (f : Fault) (w : Work) (arms : List Arm) (ts us xs ys : List Carried) → EachCarried d ts us → EachCarried d xs ys
      → (vs : List Local) (c : Count)
      → Into (at_heavier d) (carrying.choice_from f (heavier d w) arms ts xs vs (raised d c)) (carrying.choice_from f w arms us ys vs c)
  unfolding carrying.choice_from
  choice_from_into f w arms (t ∷ ts) (u ∷ us) (x ∷ xs) (y ∷ ys) h k vs c =
      into_then _ _ (value_asked_into t u h.0 vs c) (λ test. into_if (is_true test.0) (last_value_into w arms x y k.0 vs (carrying.after_arm c test.1.count))
      (into_then _ _ (value_kept_into arms c test x y k.0 vs) (λ r. choice_from_into f w r.0 ts us xs ys h.1 k.1 vs r.1)))
  choice_from_into f w arms [] [] (x ∷ xs) (y ∷ ys) h k vs c = last_value_into w arms x y k.0 vs c
  choice_from_into f w arms [] [] [] [] h k vs c = record { seen = tt }
  choice_from_into f w arms (t ∷ ts) (u ∷ us) [] [] h k vs c = record { seen = tt }
  choice_from_into f w arms [] (u ∷ us) xs ys h k vs c = absurd h
  choice_from_into f w arms (t ∷ ts) [] xs ys h k vs c = absurd h
  choice_from_into f w arms [] [] [] (y ∷ ys) h k vs c = absurd k
  choice_from_into f w arms [] [] (x ∷ xs) [] h k vs c = absurd k
  choice_from_into f w arms (t ∷ ts) (u ∷ us) [] (y ∷ ys) h k vs c = absurd k
  choice_from_into f w arms (t ∷ ts) (u ∷ us) (x ∷ xs) [] h k vs c = absurd k

module _ (d : ℕ) (is : List Instance) (call next : Caller) (s : Context) where
  pub choice_into : (ts us xs ys : List Carried) → EachCarried d ts us → EachCarried d xs ys
      → CarryInto d (carrying.choice call s ts xs) (carrying.choice next (over s is) us ys)
  unfolding carrying.choice
  choice_into ts us xs ys h k vs w = choice_from_into d (static_fault s) w [] ts us xs ys h k vs w.count

  pub as_static_into : (k : Sort) (r : Value × Work)
      → Into (at_heavier d) (carrying.as_static call s k (at_heavier d r)) (carrying.as_static next (over s is) k r)
  as_static_into integer r = into_if (is_static r.0) (record { seen = refl }) (record { seen = tt })
  as_static_into k r = record { seen = refl }

  pub place_into : (level : ℕ) (x y : Option Carried) → MaybeCarried d x y
      → PlacingInto d (carrying.place_of call s level x) (carrying.place_of next (over s is) level y)
  place_into level None None h vs c = into_then _ _ (into_same (placed (static_fault s) (slice_get s.bindings level))) (λ n. record { seen = refl })
  place_into level (Some a) (Some b) h vs c =
      into_then _ _ (h.carry vs (no_steps c)) (λ r. into_then _ _ (into_same (carrying.index_of call s r.0))
      (λ at. into_then _ _ (into_same (placed_at (static_fault s) (slice_get s.bindings level) at)) (λ n. record { seen = refl })))
  place_into level None (Some b) h vs c = absurd h
  place_into level (Some a) None h vs c = absurd h
