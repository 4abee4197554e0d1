-- Where arms join, the same comes out from less weight.
use Rattle.std.proofs.Common.{ℕ, List, [], ◌∷◌, length, refl}
use Rattle.bsv_types.specs.declared.definitions.Param.{Param}
use Rattle.bsv_tree.specs.declared.steps.Arm.{Arm}
use Rattle.bsv_tree.specs.declared.values.Count.{Count}
use Rattle.bsv_tree.specs.declared.values.Local.{Local}
use Rattle.bsv_tree.specs.declared.values.Pending.{Pending}
use Rattle.bsv_tree.specs.declared.values.Value.{Value}
use Rattle.bsv_tree.specs.declared.values.Work.{Work}
use Rattle.bsv_tree.specs.carrying.Arms as arms
use Rattle.bsv_tree.specs.carrying.Working.{at_count}
use Rattle.bsv_tree.specs.carrying.Carrying as carrying
use Rattle.bsv_carry.proofs.StaysAccepted.SideBySide.{Into, into_then, into_if, raised, heavier, at_raised, both_raised, at_heavier, fresh_over, give_over}

module _ (d : ℕ) where
  joined_from_over : (ps : List Pending) (last found : List Local) (given : List ℕ) (vs : List Local) (c : Count)
      → Into (both_raised d) (arms.joined_from ps last found given vs (raised d c)) (arms.joined_from ps last found given vs c)
  unfolding arms.joined_from
  joined_from_over ps last found given [] c = record { seen = refl }
  joined_from_over ps last found given (v ∷ vs) c =
      into_if (arms.assigned ps last (length found))
      (into_if v.integer (joined_from_over ps last _ given vs c) (into_then _ _ (fresh_over d c 1) (λ next. joined_from_over ps last _ _ vs next)))
      (joined_from_over ps last _ given vs c)

  pub close_over : (vs : List Local) (w : Work) (ps : List Pending) (last_vs : List Local) (last : Work)
      → Into (at_heavier d) (arms.close vs (heavier d w) ps last_vs (heavier d last)) (arms.close vs w ps last_vs last)
  unfolding arms.close
  close_over vs w ps last_vs last = into_then _ _ (joined_from_over ps last_vs [] [] vs _) (λ r. record { seen = refl })

  pub value_choice_over : (w : Work) (behind : List Arm) (r : Value × Work)
      → Into (at_heavier d) (carrying.value_choice (heavier d w) behind (at_heavier d r)) (carrying.value_choice w behind r)
  value_choice_over w behind r = give_over d (at_count w (carrying.after_arm w.count r.1.count)) _

  pub parameters_over : (xs : List Value) (ps : List Param) (c : Count)
      → Into (at_raised d) (carrying.parameters_from xs ps (raised d c)) (carrying.parameters_from xs ps c)
  unfolding carrying.parameters_from
  parameters_over xs [] c = record { seen = refl }
  parameters_over xs (p ∷ ps) c = into_then _ _ (fresh_over d c 1) (λ next. parameters_over _ ps next)
