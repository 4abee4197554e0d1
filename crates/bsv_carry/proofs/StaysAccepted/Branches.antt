-- Blocks and branches give the same over later instances, and from less weight.
use Rattle.std.proofs.Common.{ℕ, List, [], ◌∷◌, Option, Some, None, refl}
use Rattle.bsv_types.specs.declared.statements.Condition.{Condition}
use Rattle.bsv_types.specs.declared.statements.Condition.TheVariants as condition
use Rattle.bsv_tree.specs.declared.tree.Instance.{Instance}
use Rattle.bsv_tree.specs.declared.values.Count.{Count}
use Rattle.bsv_tree.specs.declared.values.Local.{Local}
use Rattle.bsv_tree.specs.declared.values.Pending.{Pending}
use Rattle.bsv_tree.specs.declared.values.Value.{Value}
use Rattle.bsv_tree.specs.declared.values.Work.{Work}
use Rattle.bsv_tree.specs.tree.Contexts.{Context}
use Rattle.bsv_tree.specs.carrying.Calls.{Caller}
use Rattle.bsv_tree.specs.carrying.Frames.{untouched}
use Rattle.bsv_tree.specs.carrying.Values.{is_static, is_true}
use Rattle.bsv_tree.specs.carrying.Working.{no_steps, at_count}
use Rattle.bsv_tree.specs.carrying.Carrying as carrying
use Rattle.bsv_tree.specs.carrying.Carrying.{Acts, Branched, Test}
use Rattle.bsv_carry.proofs.StaysAccepted.SideBySide.{Into, into_then, into_if, raised, heavier, at_raised, at_heavier, both_heavier, sliced_over}
use Rattle.bsv_carry.proofs.StaysAccepted.Arms.{close_over}
use Rattle.bsv_carry.specs.StaysAccepted.{Grows, over}
use Rattle.bsv_carry.proofs.StaysAccepted.Instances.{ActsInto, EachActs, EachBranched, MaybeActs, CallsInto}
use Rattle.bsv_carry.proofs.StaysAccepted.Expressions.{expr_into}

module _ (d : ℕ) where
  pub run_into : (xs ys : List Acts) → EachActs d xs ys → ActsInto d (carrying.run xs) (carrying.run ys)
  unfolding carrying.run
  run_into [] [] h vs w = record { seen = refl }
  run_into (x ∷ xs) (y ∷ ys) h vs w = into_then _ _ (h.0 vs w) (λ r. run_into xs ys h.1 r.0 r.1)
  run_into [] (y ∷ ys) h vs w = absurd h
  run_into (x ∷ xs) [] h vs w = absurd h

  pub inside_into : (a b : Acts) → ActsInto d a b → ActsInto d (carrying.inside a) (carrying.inside b)
  unfolding carrying.inside
  inside_into a b h vs w = into_then _ _ (h vs w) (λ r. record { seen = refl })

  pub nothing_into : (a b : Option Acts) → MaybeActs d a b → ActsInto d (carrying.or_nothing a) (carrying.or_nothing b)
  nothing_into None None h vs w = record { seen = refl }
  nothing_into (Some a) (Some b) h vs w = inside_into a b h vs w
  nothing_into None (Some b) h vs w = absurd h
  nothing_into (Some a) None h vs w = absurd h

  branch_arm_into : (a b : Acts) → ActsInto d a b → (m : Option (Value × ℕ)) → ActsInto d (carrying.branch_arm a m) (carrying.branch_arm b m)
  unfolding carrying.branch_arm
  branch_arm_into a b h None vs w = inside_into a b h vs w
  branch_arm_into a b h (Some m) vs w = into_then _ _ (sliced_over d w m.0 _ _) (λ r. into_then _ _ (h _ r.1) (λ x. record { seen = refl }))

  last_arm_into : (w : Work) (ps : List Pending) (a b : Acts) → ActsInto d a b → (vs : List Local) (c : Count)
      → Into (at_heavier d) (carrying.last_arm (heavier d w) ps a vs (raised d c)) (carrying.last_arm w ps b vs c)
  unfolding carrying.last_arm
  last_arm_into w [] a b h vs c = h vs (at_count w c)
  last_arm_into w (p ∷ ps) a b h vs c = into_then _ _ (h (untouched vs) (no_steps c)) (λ r. close_over d vs w (p ∷ ps) r.0 r.1)

  kept_into : (ps : List Pending) (c : Count) (test : Test) (a b : Acts) → ActsInto d a b → (vs : List Local)
      → Into (at_raised d) (carrying.kept ps (raised d c) (both_heavier d test) a vs) (carrying.kept ps c test b vs)
  unfolding carrying.kept
  kept_into ps c test a b h vs =
      into_if (is_static test.0) (record { seen = refl }) (into_then _ _ (branch_arm_into a b h test.1 (untouched vs) (no_steps test.2.count))
      (λ r. record { seen = refl }))

  chain_from_into : (w : Work) (ps : List Pending) (xs ys : List Branched) → EachBranched d xs ys → (a b : Acts) → ActsInto d a b
      → (vs : List Local) (c : Count)
      → Into (at_heavier d) (carrying.chain_from (heavier d w) ps xs a vs (raised d c)) (carrying.chain_from w ps ys b vs c)
  unfolding carrying.chain_from
  chain_from_into w ps [] [] h a b last vs c = last_arm_into w ps a b last vs c
  chain_from_into w ps (x ∷ xs) (y ∷ ys) h a b last vs c =
      into_then _ _ (h.0.asks vs c) (λ test. into_if (is_true test.0)
      (last_arm_into w ps (carrying.branch_arm x.arm test.1) (carrying.branch_arm y.arm test.1)
      (branch_arm_into x.arm y.arm h.0.arm test.1) vs (carrying.after_arm c test.2.count))
      (into_then _ _ (kept_into ps c test x.arm y.arm h.0.arm vs) (λ r. chain_from_into w r.0 xs ys h.1 a b last vs r.1)))
  chain_from_into w ps [] (y ∷ ys) h a b last vs c = absurd h
  chain_from_into w ps (x ∷ xs) [] h a b last vs c = absurd h

  pub chain_into : (xs ys : List Branched) → EachBranched d xs ys → (a b : Acts) → ActsInto d a b
      → ActsInto d (carrying.chain xs a) (carrying.chain ys b)
  unfolding carrying.chain
  chain_into xs ys h a b last vs w = chain_from_into w [] xs ys h a b last vs w.count

module _ (d : ℕ) (is : List Instance) (call next : Caller) (s : Context) (grows : Grows s.instances is) (into : CallsInto d is call next) where
  pub asked_into : (x : Condition) (vs : List Local) (c : Count)
      → Into (both_heavier d) (carrying.asked call s x vs (raised d c)) (carrying.asked next (over s is) x vs c)
  unfolding carrying.asked
  asked_into (condition.Test e) vs c = into_then _ _ ((expr_into d is call next s grows into e).carry vs (no_steps c)) (λ r. record { seen = refl })
  asked_into (condition.Matches e) vs c =
      into_then _ _ ((expr_into d is call next s grows into e).carry vs (no_steps c))
      (λ r. into_then _ _ (sliced_over d r.1 r.0 _ _) (λ tag. record { seen = refl }))
