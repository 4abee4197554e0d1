-- Operators give what they mean, where all operands come before them.
use Rattle.std.proofs.Common.{◌≡◌, ℕ, ◌+◌, Bool, true, false, List, [], ◌∷◌, Option, Some, None, Ok, refl, subst}
use Rattle.std.specs.Prelude.{slice_get, if◌then◌else◌}
use Rattle.bsv_bits.specs.Words.{Bits}
use Rattle.bsv_types.specs.declared.operators.Op.{Op}
use Rattle.bsv_types.specs.declared.operators.Op.TheVariants as op
use Rattle.bsv_types.specs.declared.definitions.Field.{Field}
use Rattle.bsv_types.specs.declared.definitions.Struct.{Struct}
use Rattle.bsv_types.specs.Kinds.{Kind, bit as bit_kind, down, uint, int, bool, enum, struct, maybe, integer, interface, part, bare}
use Rattle.bsv_types.specs.Shapes.{Shapes}
use Rattle.bsv_tree.specs.declared.values.Value.{Value}
use Rattle.bsv_tree.specs.declared.values.Work.{Work}
use Rattle.bsv_tree.specs.declared.values.Fault.{Fault}
use Rattle.bsv_tree.specs.carrying.Values.{truth as truth_value}
use Rattle.bsv_tree.specs.carrying.Applied as carried
use Rattle.bsv_tree.specs.tree.Widths.{width}
use Rattle.bsv_tree.specs.carrying.Applied.{constant_of}
use Rattle.bsv_tree.specs.carrying.Operated as built
use Rattle.bsv_tree.specs.carrying.Operated.{from_left}
use Rattle.bsv_tree.specs.meaning.Operators.{sets, builds}
use Rattle.bsv_tree.specs.meaning.Evaluation.{Results, Standing}
use Rattle.bsv_tree.specs.carrying.Working as work
use Rattle.bsv_tree.specs.carrying.Working.{Valued}
use Rattle.bsv_tree.specs.meaning.Values.{Value as Val, nothing}
use Rattle.bsv_tree.specs.meaning.Operators as means
use Rattle.bsv_tree.proofs.meaning.Same.{Shows, AllShow, IsLong, got}
use Rattle.bsv_tree.proofs.meaning.Operating.{Is, V, next, all_later, there, joined_is, of_two_is, of_one_is}

same_fields_of : (s : Shapes) (f : Fault) (o : Option Struct) → carried.fields_of_struct s f o ≡ means.fields_of o
same_fields_of s f None = refl
same_fields_of s f (Some t) = refl

pub same_fields : (s : Shapes) (f : Fault) (t : Kind) → carried.fields s f t ≡ means.fields s t
same_fields s f (struct m) = same_fields_of s f (slice_get s.structs m)
same_fields s f (bit_kind m) = refl
same_fields s f (down m) = refl
same_fields s f (uint m) = refl
same_fields s f (int m) = refl
same_fields s f bool = refl
same_fields s f (enum m) = refl
same_fields s f (maybe m) = refl
same_fields s f integer = refl
same_fields s f (interface m) = refl
same_fields s f (part q m) = refl
same_fields s f (bare q) = refl

module _ (r : Results) (p : Standing) (ws : List Bits) (n k : ℕ) where
  -- ---- parts side by side

  together_is : (w : Work) → IsLong r p ws n k w → (x : Value) (a : Val) (ys : List Value) (bs : List Val) → Shows (V r p ws n k w) x a → AllShow (V r p ws n k w) ys bs
      → (z : Value) (v : Work) → carried.together x ys w ≡ Ok (z, v) → Is r p ws n k z w v (means.together a bs)
  unfolding carried.together
  together_is w long x a [] [] s t z v h = there r p ws n k w long x z v a h s
  together_is w long x a (y ∷ ys) (b ∷ bs) s t z v h =
      let g = got (work.joined w x y) (λ o. carried.together o.0 ys o.1) (z, v) h in
      let first = joined_is r p ws n k w long x y a b s t.0 g.0.0 g.0.1 g.1 in
      next r p ws n k g.0.0 z w g.0.1 v _ _ first (together_is g.0.1 first.long g.0.0 _ ys bs first.gives (all_later r p ws n k g.0.0 w g.0.1 _ first ys bs t.1) z v g.2)
  together_is w long x a [] (b ∷ bs) s t z v h = absurd t
  together_is w long x a (y ∷ ys) [] s t z v h = absurd t

  module _ (s : Shapes) (f : Fault) where
    -- ---- the construction of a struct

    set_step : (W : List Bits) (m : ℕ) (o : Op) (x : Value) (a : Val) (u : Value) (c : Val) → Shows W x a → Shows W u c
        → Shows W (if sets m o then x else u) (if sets m o then a else c)
    set_step W m o x a u c i j = by (sets m o) where
      by : (b : Bool) → Shows W (if b then x else u) (if b then a else c)
      by true = i
      by false = j

    set_to_shows : (W : List Bits) (m : ℕ) (os : List Op) (xs : List Value) (cs : List Val) → AllShow W xs cs → Shows W (built.set_to m os xs) (means.set_to s m os cs)
    unfolding built.set_to means.set_to
    set_to_shows W m (o ∷ os) (x ∷ xs) (a ∷ cs) i = set_step W m o x a _ _ i.0 (set_to_shows W m os xs cs i.1)
    set_to_shows W m [] xs cs i = refl
    set_to_shows W m (o ∷ os) [] [] i = refl
    set_to_shows W m (o ∷ os) [] (a ∷ cs) i = absurd i
    set_to_shows W m (o ∷ os) (x ∷ xs) [] i = absurd i

    set_from_shows : (W : List Bits) (m : ℕ) (ds : List Field) (os : List Op) (xs : List Value) (cs : List Val) → AllShow W xs cs → AllShow W (built.set_from m ds os xs) (means.set_from s m ds os cs)
    unfolding built.set_from means.set_from
    set_from_shows W m [] os xs cs i = tt
    set_from_shows W m (d ∷ ds) os xs cs i = (set_to_shows W m os xs cs i, set_from_shows W (m + 1) ds os xs cs i)

    built_is : (w : Work) → IsLong r p ws n k w → (xs : List Value) (cs : List Val) → AllShow (V r p ws n k w) xs cs
        → (z : Value) (v : Work) → built.all_together xs w ≡ Ok (z, v) → Is r p ws n k z w v (means.built s cs)
    built_is w long [] [] i z v h = there r p ws n k w long (truth_value false) z v nothing h refl
    built_is w long (x ∷ xs) (a ∷ cs) i z v h = together_is w long x a xs cs i.0 i.1 z v h
    built_is w long [] (a ∷ cs) i z v h = absurd i
    built_is w long (x ∷ xs) [] i z v h = absurd i

    -- ---- all operators

    single_is : (o : Op) (t u : Kind) (w : Work) → IsLong r p ws n k w → (x : Value) (a : Val) (ys : List Value) (bs : List Val) → Shows (V r p ws n k w) x a → AllShow (V r p ws n k w) ys bs
        → (z : Value) (v : Work) → built.single s f t u o x ys w ≡ Ok (z, v) → Is r p ws n k z w v (means.single s t u o a bs)
    single_is op.Concat t u w long x a ys bs i j z v h = together_is w long x a ys bs i j z v h
    single_is o t u w long x a [] [] i j z v h = of_one_is r p ws n k s f w long o t u x a i z v h
    single_is o t u w long x a (y ∷ ys) (b ∷ bs) i j z v h = of_two_is r p ws n k s f w long o u x y a b i j.0 z v h
    single_is o t u w long x a [] (b ∷ bs) i j z v h = absurd j
    single_is o t u w long x a (y ∷ ys) [] i j z v h = absurd j

    -- operators that construct no struct, and that are not applied from the left
    not_built_is : (os : List Op) (t u : Kind) → from_left os ≡ false → builds os ≡ false → (w : Work) → IsLong r p ws n k w → (x : Value) (a : Val) (ys : List Value) (bs : List Val) → Shows (V r p ws n k w) x a → AllShow (V r p ws n k w) ys bs
        → (z : Value) (v : Work) → built.not_built s f t u os x ys w ≡ Ok (z, v) → Is r p ws n k z w v (means.applied_to s t u os a bs)
    not_built_is [] t u all none w long x a ys bs i j z v h = there r p ws n k w long x z v a h i
    not_built_is (op.Set m ∷ os) t u all none w long x a ys bs i j z v h = absurd cc
    not_built_is (op.Index ∷ []) t u all none w long x a ys bs i j z v h = absurd cc
    not_built_is (op.Slice high low ∷ []) t u all none w long x a ys bs i j z v h = absurd cc
    not_built_is (op.Field m ∷ []) t u all none w long x a ys bs i j z v h = absurd cc
    not_built_is (o ∷ []) t u all none w long x a ys bs i j z v h = single_is o t u w long x a ys bs i j z v h
    not_built_is (o ∷ q ∷ os) t u all none w long x a ys bs i j z v h = absurd cc

    either_is : (b : Bool) (m q : Valued) (w : Work) (z : Value) (v : Work) (c d : Val) → (m ≡ Ok (z, v) → Is r p ws n k z w v c) → (b ≡ false → q ≡ Ok (z, v) → Is r p ws n k z w v d)
        → (if b then m else q) ≡ Ok (z, v) → Is r p ws n k z w v (if b then c else d)
    either_is true m q w z v c d first second h = first h
    either_is false m q w z v c d first second h = second refl h

    pub applied_is : (os : List Op) (t u : Kind) → from_left os ≡ false → (w : Work) → IsLong r p ws n k w → (xs : List Value) (cs : List Val) → AllShow (V r p ws n k w) xs cs
        → (z : Value) (v : Work) → built.applied s f t u os xs w ≡ Ok (z, v) → Is r p ws n k z w v (means.applied s t u os cs)
    unfolding built.applied means.applied
    applied_is os t u all w long [] [] i z v h = there r p ws n k w long (constant_of (width s t) 0) z v (means.bits (width s t) 0) h refl
    applied_is os t u all w long (x ∷ xs) (a ∷ cs) i z v h =
        either_is (builds os) (built.all_together (built.set_from 0 (carried.fields s f t) os (x ∷ xs)) w) (built.not_built s f t u os x xs w) w z v _ _
        (λ e. subst (λ ds. Is r p ws n k z w v (means.built s (means.set_from s 0 ds os (a ∷ cs)))) (same_fields s f t)
        (built_is w long (built.set_from 0 (carried.fields s f t) os (x ∷ xs)) (means.set_from s 0 (carried.fields s f t) os (a ∷ cs)) (set_from_shows (V r p ws n k w) 0 (carried.fields s f t) os (x ∷ xs) (a ∷ cs) i) z v e))
        (λ none e. not_built_is os t u all none w long x a xs cs i.0 i.1 z v e) h
    applied_is os t u all w long [] (a ∷ cs) i z v h = absurd i
    applied_is os t u all w long (x ∷ xs) [] i z v h = absurd i
