-- Operators that are applied from left to right, each one as soon as its right operand or its index was carried out, give what
-- they mean.
use Rattle.std.proofs.Common.{◌≡◌, ℕ, ◌+◌, ◌-◌, Bool, true, false, List, [], ◌∷◌, Option, Some, None, Ok, refl, sym, ap, subst}
use Rattle.std.specs.Prelude.{slice_get, if◌then◌else◌, pos, negsuc, nat_lt}
use Rattle.bsv_lemmas.proofs.Choices.{same_ok}
use Rattle.bsv_fail.specs.Given.{◌>>=◌}
use Rattle.bsv_bits.specs.Words.{Bits}
use Rattle.bsv_types.specs.declared.operators.Op.{Op}
use Rattle.bsv_types.specs.declared.operators.Op.TheVariants as op
use Rattle.bsv_types.specs.declared.definitions.Field.{Field}
use Rattle.bsv_types.specs.Kinds.{Kind, kind}
use Rattle.bsv_types.specs.Shapes.{Shapes, counted}
use Rattle.bsv_tree.specs.declared.values.Value.{Value}
use Rattle.bsv_tree.specs.declared.values.Value.TheVariants as value
use Rattle.bsv_tree.specs.declared.values.Constant.TheVariants as constant
use Rattle.bsv_tree.specs.declared.values.Local.{Local}
use Rattle.bsv_tree.specs.declared.values.Work.{Work}
use Rattle.bsv_tree.specs.declared.values.Fault.{Fault}
use Rattle.bsv_tree.specs.carrying.Applied as carried
use Rattle.bsv_tree.specs.tree.Widths.{width}
use Rattle.bsv_tree.specs.carrying.Operated as built
use Rattle.bsv_tree.specs.carrying.Operated.{BitRange, bits_at, from_left, are_suffixes}
use Rattle.bsv_tree.specs.carrying.Carrying as carrying
use Rattle.bsv_tree.specs.carrying.Carrying.{Carried}
use Rattle.bsv_tree.specs.carrying.Working as work
use Rattle.bsv_tree.specs.carrying.Working.{Valued}
use Rattle.bsv_tree.specs.meaning.Evaluation as evaluation
use Rattle.bsv_tree.specs.meaning.Evaluation.{Results, Standing, yields}
use Rattle.bsv_tree.specs.meaning.Values.{Value as Val, static, Variables}
use Rattle.bsv_tree.specs.meaning.Operators as means
use Rattle.bsv_tree.specs.meaning.Meaning as meaning
use Rattle.bsv_tree.specs.meaning.Meaning.{Meant}
use Rattle.bsv_tree.proofs.meaning.Same.{Shows, AllShow, AllHold, IsLong, Same, here, got, shows_within, all_hold_within}
use Rattle.bsv_tree.proofs.meaning.Pieces.{bound, given, nothing_more, by_if}
use Rattle.bsv_tree.proofs.meaning.Operating.{Is, V, sliced_is, of_two_is}
use Rattle.bsv_tree.proofs.meaning.Applying.{applied_is, same_fields}
use Rattle.bsv_tree.proofs.meaning.Expressions.{Carries, Matches, AllMatch, all_is}

-- an index that is below a limit is a number
number_is : (s : Shapes) (f : Fault) (limit : ℕ) (x : Value) (m : ℕ) → carried.number_below s f limit x ≡ Ok m → x ≡ value.Static (constant.Number (pos m))
number_is s f limit (value.Static (constant.Number (pos l))) m h = ap (λ i. value.Static (constant.Number (pos i))) (by_if (nat_lt l limit) l f m h)
number_is s f limit (value.Static (constant.Number (negsuc l))) m h = absurd cc
number_is s f limit (value.Static (constant.Bits l)) m h = absurd cc
number_is s f limit (value.Open l) m h = absurd cc

module _ (r : Results) (p : Standing) (ws : List Bits) (n k : ℕ) (vs : List Local) (us : Variables) where
  -- what operands give together, of which the first ones were carried out
  abbrev Others : (List Val → Val) → Value → Work → Work → List Meant → Type 0
  Others f z w v ms = Same r p ws n k (λ W bs. Shows W z (f bs)) w v (here r p ws n k w (meaning.all ms us))

  -- after a value that is there at once
  after_value : (f : List Val → Val) (z : Value) (w u v : Work) (ms : List Meant) (x : Value) (a : Val) → Is r p ws n k x w u a → Others f z u v ms → Others f z w v ms
  after_value f z w u v ms x a first others =
      bound r p ws n k (λ W y. Shows W x y) (λ W bs. Shows W z (f bs)) w u v (yields a) (λ y. meaning.all ms us) first others

  -- after an operand
  after_operand : (f : List Val → Val) (z : Value) (w u v : Work) (c : Carried) (m : Meant) (ms : List Meant) (x : Value)
      → Same r p ws n k (λ W y. Shows W x y) w u (here r p ws n k w (m.means us))
      → Others (λ bs. f ((here r p ws n k w (m.means us)).gives ∷ bs)) z u v ms → Others f z w v (m ∷ ms)
  unfolding meaning.all
  after_operand f z w u v c m ms x first others =
      let b = (here r p ws n k w (m.means us)).gives in
      bound r p ws n k (λ W y. Shows W x y) (λ W bs. Shows W z (f bs)) w u v (m.means us) (λ y. evaluation.◌>>=◌ (meaning.all ms us) (λ qs. yields (y ∷ qs))) first
      (given r p ws n k (λ W bs. Shows W z (f (b ∷ bs))) (λ W bs. Shows W z (f bs)) u v (meaning.all ms us) (λ qs. b ∷ qs) others others.gives)

  -- no operand is left
  none_left : (f : List Val → Val) (x z : Value) (w v : Work) → IsLong r p ws n k w → ◌≡◌ {A = Valued} (Ok (x, w)) (Ok (z, v)) → Shows (V r p ws n k w) x (f []) → Others f z w v []
  unfolding meaning.all
  none_left f x z w v long h i =
      subst (λ (o : Value × Work). Others f o.0 w o.1 []) (same_ok (x, w) (z, v) h)
      (nothing_more r p ws n k (λ W bs. Shows W x (f bs)) w long [] i)

  module _ (s : Shapes) (f : Fault) where
    -- ---- operators of one level

    chained_is : (os : List Op) (t : Kind) (cs : List Carried) (ms : List Meant) → AllMatch r cs ms → (w : Work) → IsLong r p ws n k w → AllHold (V r p ws n k w) vs us
        → (x : Value) (a : Val) → Shows (V r p ws n k w) x a
        → (z : Value) (v : Work) → carrying.chained s f os t x cs vs w ≡ Ok (z, v) → Others (λ bs. means.chained s os t a bs) z w v ms
    unfolding carrying.chained means.chained Carries
    chained_is [] t [] [] m w long hold x a i z v h = none_left (λ bs. a) x z w v long h i
    chained_is [] t (c ∷ cs) ms m w long hold x a i z v h = absurd cc
    chained_is (o ∷ os) t [] ms m w long hold x a i z v h = absurd cc
    chained_is (o ∷ os) t (c ∷ cs) (q ∷ ms) m w long hold x a i z v h =
        let g = got (c.carry vs w) (λ y. carried.two_operands s f o t x y.0 y.1 >>= λ r. carrying.chained s f os t r.0 cs vs r.1) (z, v) h in
        let u = g.0.1 in
        let first = m.0.carries p ws n k vs us w long hold g.0.0 u g.1 in
        let b = (here r p ws n k w (q.means us)).gives in
        let at = shows_within (V r p ws n k w) (V r p ws n k u) first.adds.within x a i in
        let holds = all_hold_within (V r p ws n k w) (V r p ws n k u) first.adds.within vs us hold in
        let l = got (carried.two_operands s f o t x g.0.0 u) (λ r. carrying.chained s f os t r.0 cs vs r.1) (z, v) g.2 in
        let second = of_two_is r p ws n k s f u first.long o t x g.0.0 a b at first.gives l.0.0 l.0.1 l.1 in
        let later = all_hold_within (V r p ws n k u) (V r p ws n k l.0.1) second.adds.within vs us holds in
        let others = chained_is os t cs ms m.1 l.0.1 second.long later l.0.0 (means.of_two s o t a b) second.gives z v l.2 in
        after_operand (λ bs. means.chained s (o ∷ os) t a bs) z w u v c q ms g.0.0 first
        (after_value (λ bs. means.chained s os t (means.of_two s o t a b) bs) z u l.0.1 v ms l.0.0 (means.of_two s o t a b) second others)
    chained_is [] t [] (q ∷ ms) m w long hold x a i z v h = absurd m
    chained_is (o ∷ os) t (c ∷ cs) [] m w long hold x a i z v h = absurd m

    -- ---- suffixes

    -- the rest of the suffixes, after any part
    abbrev Rest : List Op → Type 0
    Rest os = (fs gs : List Field) → fs ≡ gs → (many : ℕ) (cs : List Carried) (ms : List Meant) → AllMatch r cs ms → (w : Work) → IsLong r p ws n k w → AllHold (V r p ws n k w) vs us
        → (x : Value) (a : Val) → Shows (V r p ws n k w) x a
        → (z : Value) (v : Work) → carrying.suffixed s f many fs os x cs vs w ≡ Ok (z, v) → Others (λ bs. means.suffixed s gs os a bs) z w v ms

    cut_is : (os : List Op) → Rest os → (high low : ℕ) (inner gs : List Field) → inner ≡ gs → (cs : List Carried) (ms : List Meant) → AllMatch r cs ms
        → (w : Work) → IsLong r p ws n k w → AllHold (V r p ws n k w) vs us → (x : Value) (a : Val) → Shows (V r p ws n k w) x a
        → (z : Value) (v : Work) → (work.sliced w x high low >>= λ q. carrying.suffixed s f (counted (high - low + 1)) inner os q.0 cs vs q.1) ≡ Ok (z, v)
        → Others (λ bs. means.suffixed s gs os (means.sliced a high low) bs) z w v ms
    cut_is os rest high low inner gs e cs ms m w long hold x a i z v h =
        let g = got (work.sliced w x high low) _ (z, v) h in
        let first = sliced_is r p ws n k w long x a high low i g.0.0 g.0.1 g.1 in
        let holds = all_hold_within (V r p ws n k w) (V r p ws n k g.0.1) first.adds.within vs us hold in
        after_value (λ bs. means.suffixed s gs os (means.sliced a high low) bs) z w g.0.1 v ms g.0.0 (means.sliced a high low) first
        (rest inner gs e (counted (high - low + 1)) cs ms m g.0.1 first.long holds g.0.0 (means.sliced a high low) first.gives z v g.2)

    field_is : (os : List Op) → Rest os → (fs : List Field) (number : ℕ) (o : Option Field) (cs : List Carried) (ms : List Meant) → AllMatch r cs ms
        → (w : Work) → IsLong r p ws n k w → AllHold (V r p ws n k w) vs us → (x : Value) (a : Val) → Shows (V r p ws n k w) x a
        → (z : Value) (v : Work) → (let q = built.field_part s f fs number o in work.sliced w x q.high q.low >>= λ g. carrying.suffixed s f (counted (q.high - q.low + 1)) q.inner os g.0 cs vs g.1) ≡ Ok (z, v)
        → Others (λ bs. means.suffixed s (means.fields_in s o) os (means.field s a fs number o) bs) z w v ms
    field_is os rest fs number None cs ms m w long hold x a i z v h = cut_is os rest 0 0 [] [] refl cs ms m w long hold x a i z v h
    field_is os rest fs number (Some d) cs ms m w long hold x a i z v h =
        cut_is os rest (counted (means.below s fs number + width s (kind d.ty)) - 1) (means.below s fs number) (carried.fields s f (kind d.ty)) (means.fields s (kind d.ty)) (same_fields s f (kind d.ty)) cs ms m w long hold x a i z v h

    -- what comes after a part of the value is known
    abbrev After : List Op → Value → (BitRange × List Carried × Work) → Valued
    After os x q = work.sliced q.2 x q.0.high q.0.low >>= λ g. carrying.suffixed s f (counted (q.0.high - q.0.low + 1)) q.0.inner os g.0 q.1 vs g.1

    index_is : (os : List Op) → Rest os → (fs : List Field) (many : ℕ) (c : Carried) (q : Meant) (cs : List Carried) (ms : List Meant) → Matches r c q → AllMatch r cs ms
        → (w : Work) → IsLong r p ws n k w → AllHold (V r p ws n k w) vs us → (x : Value) (a : Val) → Shows (V r p ws n k w) x a
        → (z : Value) (v : Work)
        → ((c.carry vs w >>= λ y. carried.number_below s f many y.0 >>= λ l. Ok (bits_at l l, cs, y.1)) >>= After os x) ≡ Ok (z, v)
        → Others (λ bs. means.suffixed s fs (op.Index ∷ os) a bs) z w v (q ∷ ms)
    unfolding means.suffixed Carries
    index_is os rest fs many c q cs ms one m w long hold x a i z v h =
        let g = got (c.carry vs w >>= λ y. carried.number_below s f many y.0 >>= λ l. Ok (bits_at l l, cs, y.1)) (After os x) (z, v) h in
        let y = got (c.carry vs w) (λ y. carried.number_below s f many y.0 >>= λ l. Ok (bits_at l l, cs, y.1)) g.0 g.1 in
        let u = y.0.1 in
        let l = got (carried.number_below s f many y.0.0) (λ l. Ok (bits_at l l, cs, u)) g.0 y.2 in
        let first = one.carries p ws n k vs us w long hold y.0.0 u y.1 in
        let b = (here r p ws n k w (q.means us)).gives in
        let at : b ≡ static (constant.Number (pos l.0)) = subst (λ o. Shows (V r p ws n k u) o b) (number_is s f many y.0.0 l.0 l.1) first.gives in
        let still = shows_within (V r p ws n k w) (V r p ws n k u) first.adds.within x a i in
        let holds = all_hold_within (V r p ws n k w) (V r p ws n k u) first.adds.within vs us hold in
        let others = cut_is os rest l.0 l.0 [] [] refl cs ms m u first.long holds x a still z v
        (subst (λ o. After os x o ≡ Ok (z, v)) (sym (same_ok (bits_at l.0 l.0, cs, u) g.0 l.2)) g.2) in
        after_operand (λ bs. means.suffixed s fs (op.Index ∷ os) a bs) z w u v c q ms y.0.0 first
        (subst (λ o. Others (λ bs. means.suffixed s fs (op.Index ∷ os) a (o ∷ bs)) z u v ms) (sym at) others)

    suffix_at : (o : Op) (os : List Op) → Rest os → (fs : List Field) (many : ℕ) (cs : List Carried) (ms : List Meant) → AllMatch r cs ms
        → (w : Work) → IsLong r p ws n k w → AllHold (V r p ws n k w) vs us → (x : Value) (a : Val) → Shows (V r p ws n k w) x a
        → (z : Value) (v : Work) → carrying.suffixed s f many fs (o ∷ os) x cs vs w ≡ Ok (z, v) → Others (λ bs. means.suffixed s fs (o ∷ os) a bs) z w v ms
    unfolding carrying.suffixed carrying.part_of means.suffixed
    suffix_at op.Index os rest fs many (c ∷ cs) (q ∷ ms) m w long hold x a i z v h = index_is os rest fs many c q cs ms m.0 m.1 w long hold x a i z v h
    suffix_at op.Index os rest fs many [] ms m w long hold x a i z v h = absurd cc
    suffix_at op.Index os rest fs many (c ∷ cs) [] m w long hold x a i z v h = absurd m
    suffix_at (op.Slice high low) os rest fs many cs ms m w long hold x a i z v h = cut_is os rest high low [] [] refl cs ms m w long hold x a i z v h
    suffix_at (op.Field number) os rest fs many cs ms m w long hold x a i z v h = field_is os rest fs number (slice_get fs number) cs ms m w long hold x a i z v h
    suffix_at _ os rest fs many cs ms m w long hold x a i z v h = absurd cc

    suffixed_is : (os : List Op) → Rest os
    unfolding carrying.suffixed means.suffixed
    suffixed_is [] fs gs e many [] [] m w long hold x a i z v h = none_left (λ bs. a) x z w v long h i
    suffixed_is [] fs gs e many (c ∷ cs) ms m w long hold x a i z v h = absurd cc
    suffixed_is [] fs gs e many [] (q ∷ ms) m w long hold x a i z v h = absurd m
    suffixed_is (o ∷ os) fs gs e many cs ms m w long hold x a i z v h =
        subst (λ c. Others (λ bs. means.suffixed s c (o ∷ os) a bs) z w v ms) e (suffix_at o os (suffixed_is os) fs many cs ms m w long hold x a i z v h)

    -- ---- both

    suffixes_are : (o : Op) (os : List Op) (u : Kind) (cs : List Carried) (ms : List Meant) → AllMatch r cs ms → (w : Work) → IsLong r p ws n k w → AllHold (V r p ws n k w) vs us
        → (x : Value) (a : Val) → Shows (V r p ws n k w) x a
        → (z : Value) (v : Work) → carrying.suffixed s f (width s u) (carried.fields s f u) (o ∷ os) x cs vs w ≡ Ok (z, v) → Others (λ bs. means.suffixed s (means.fields s u) (o ∷ os) a bs) z w v ms
    suffixes_are o os u cs ms m w long hold x a i z v h = suffixed_is (o ∷ os) (carried.fields s f u) (means.fields s u) (same_fields s f u) (width s u) cs ms m w long hold x a i z v h

    left_is : (os : List Op) (t u : Kind) → from_left os ≡ true → (cs : List Carried) (ms : List Meant) → AllMatch r cs ms → (w : Work) → IsLong r p ws n k w → AllHold (V r p ws n k w) vs us
        → (x : Value) (a : Val) → Shows (V r p ws n k w) x a
        → (z : Value) (v : Work) → (if are_suffixes os then carrying.suffixed s f (width s u) (carried.fields s f u) os x cs vs w else carrying.chained s f os u x cs vs w) ≡ Ok (z, v)
        → Others (λ bs. means.applied s t u os (a ∷ bs)) z w v ms
    unfolding means.applied
    left_is [] t u left cs ms m w long hold x a i z v h = absurd cc
    left_is (op.Set number ∷ os) t u left cs ms m w long hold x a i z v h = absurd cc
    left_is (op.Index ∷ os) t u left cs ms m w long hold x a i z v h = suffixes_are op.Index os u cs ms m w long hold x a i z v h
    left_is (op.Slice high low ∷ os) t u left cs ms m w long hold x a i z v h = suffixes_are (op.Slice high low) os u cs ms m w long hold x a i z v h
    left_is (op.Field number ∷ os) t u left cs ms m w long hold x a i z v h = suffixes_are (op.Field number) os u cs ms m w long hold x a i z v h
    left_is (o ∷ []) t u left cs ms m w long hold x a i z v h = absurd cc
    left_is (o ∷ q ∷ os) t u left cs ms m w long hold x a i z v h = chained_is (o ∷ q ∷ os) u cs ms m w long hold x a i z v h

    in_turn_is : (os : List Op) (t u : Kind) → from_left os ≡ true → (cs : List Carried) (ms : List Meant) → AllMatch r cs ms → (w : Work) → IsLong r p ws n k w → AllHold (V r p ws n k w) vs us
        → (z : Value) (v : Work) → carrying.in_turn s f u os cs vs w ≡ Ok (z, v) → Others (means.applied s t u os) z w v ms
    unfolding carrying.in_turn Carries
    in_turn_is os t u left [] ms m w long hold z v h = absurd cc
    in_turn_is os t u left (c ∷ cs) [] m w long hold z v h = absurd m
    in_turn_is os t u left (c ∷ cs) (q ∷ ms) m w long hold z v h =
        let g = got (c.carry vs w) _ (z, v) h in
        let first = m.0.carries p ws n k vs us w long hold g.0.0 g.0.1 g.1 in
        let holds = all_hold_within (V r p ws n k w) (V r p ws n k g.0.1) first.adds.within vs us hold in
        after_operand (means.applied s t u os) z w g.0.1 v c q ms g.0.0 first
        (left_is os t u left cs ms m.1 g.0.1 first.long holds g.0.0 (here r p ws n k w (q.means us)).gives first.gives z v g.2)

    -- ---- all operators

    pub operated_is : (os : List Op) (t u : Kind) (cs : List Carried) (ms : List Meant) → AllMatch r cs ms → (w : Work) → IsLong r p ws n k w → AllHold (V r p ws n k w) vs us
        → (z : Value) (v : Work) → carrying.operated s f t u os cs vs w ≡ Ok (z, v)
        → Same r p ws n k (λ W y. Shows W z y) w v (here r p ws n k w (evaluation.◌>>=◌ (meaning.all ms us) (λ xs. yields (means.applied s t u os xs))))
    operated_is os t u cs ms m w long hold z v h = by (from_left os) refl h where
      by : (b : Bool) → from_left os ≡ b → (if b then carrying.in_turn s f u os cs vs w else (carrying.all cs vs w >>= λ o. built.applied s f t u os o.0 o.1)) ≡ Ok (z, v)
          → Same r p ws n k (λ W y. Shows W z y) w v (here r p ws n k w (evaluation.◌>>=◌ (meaning.all ms us) (λ xs. yields (means.applied s t u os xs))))
      by true left h =
          let it = in_turn_is os t u left cs ms m w long hold z v h in
          given r p ws n k (λ W bs. Shows W z (means.applied s t u os bs)) (λ W y. Shows W z y) w v (meaning.all ms us) (means.applied s t u os) it it.gives
      by false all h =
          let l = got (carrying.all cs vs w) _ (z, v) h in
          let first = all_is r cs ms m p ws n k vs us w long hold l.0.0 l.0.1 l.1 in
          bound r p ws n k (λ W ys. AllShow W l.0.0 ys) (λ W y. Shows W z y) w l.0.1 v (meaning.all ms us) (λ xs. yields (means.applied s t u os xs)) first
          (applied_is r p ws n k s f os t u all l.0.1 first.long l.0.0 (here r p ws n k w (meaning.all ms us)).gives first.gives z v l.2)
