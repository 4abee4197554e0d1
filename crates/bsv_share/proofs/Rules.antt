-- What a node is folded to has its word: where the nodes have these words, a node that reads constants alone has the constant's,
-- and a node that is left out has the word of the one that is named in place of it.
use Rattle.std.proofs.Common.{◌≡◌, ◌∙◌, ◌⊎◌, inl, inr, ℕ, ◌+◌, ◌-◌, ◌<◌, Bool, true, false, ◌&&◌, ◌||◌, List, Option, Some, None, option_map, refl, sym, ap, ap₂, subst, arith, length}
use Rattle.std.specs.Prelude.{◌==◌, nat_lt, slice_get, if◌then◌else◌}
use Rattle.std.proofs.lemmas.Bool.{and_parts, eqb-true, ltb-true}
use Rattle.std.proofs.lemmas.Option.{same_Some}
use Rattle.bsv_lemmas.proofs.Choices.{was_there}
use Rattle.bsv_bits.specs.Words.{Bits, IsWord, word_and, word_or, word_not}
use Rattle.bsv_bits.specs.declared.operator.Operator.TheVariants.{Add, Sub, Mul, And, Or, Xor, Same, Less, LessSigned, Shl, Shr, Sar}
use Rattle.bsv_prim.specs.Signals.{is_one}
use Rattle.bsv_design.specs.design.Computing as computing
use Rattle.bsv_net.specs.declared.node.NetNode.{NetNode}
use Rattle.bsv_net.specs.declared.node.NetNode.TheVariants as net
use Rattle.bsv_net.specs.Equations.{Values, computed, operated}
use Rattle.bsv_share.specs.Operands.{first_operand}
use Rattle.bsv_share.specs.Sharing.{operands}
use Rattle.bsv_share.specs.Simplifying.{and_place, constant_at, constant_in, constant_word, is_ones, is_true, is_zeros, or_place, passes, picked_place, same_word, three_constants, turned_place, two_constants, whole_place}
use Rattle.bsv_share.proofs.NodesAt.{Sizes}
use Rattle.bsv_share.proofs.WordRules.{AreOnes, and_ones_left, and_ones_right, and_zeros_left, and_zeros_right, are_ones, or_ones_left, or_ones_right, or_zeros_left, or_zeros_right, picked_bit, same_extended, same_sign_extended, turned_twice, whole_slice}

-- words that satisfy nodes
pub record Solved (inputs registers : List Bits) (V : Values) (xs : List NetNode) : Type 0 where
  pub operates : (k : ℕ) (x : NetNode) → slice_get xs k ≡ Some x → V k ≡ operated inputs registers V x
  pub computes : (k : ℕ) (x : NetNode) → slice_get xs k ≡ Some x → V k ≡ computed inputs registers V x
  pub words : (k : ℕ) → IsWord (V k)

two_there : (f : Bits → Bits → Bits) (o p : Option Bits) (w : Bits) → two_constants f o p ≡ Some w
    → (u : Bits) × (v : Bits) × (o ≡ Some u) × (p ≡ Some v) × (f u v ≡ w)
two_there f None p w e = absurd (let n : ⊥ = cc in n)
two_there f (Some u) None w e = absurd (let n : ⊥ = cc in n)
two_there f (Some u) (Some v) w e = (u, v, refl, refl, same_Some (f u v) w e)

three_there : (o p q : Option Bits) (w : Bits) → three_constants o p q ≡ Some w
    → (t : Bits) × (u : Bits) × (v : Bits) × (o ≡ Some t) × (p ≡ Some u) × (q ≡ Some v) × (computing.picked t u v ≡ w)
three_there None p q w e = absurd (let n : ⊥ = cc in n)
three_there (Some t) None q w e = absurd (let n : ⊥ = cc in n)
three_there (Some t) (Some u) None w e = absurd (let n : ⊥ = cc in n)
three_there (Some t) (Some u) (Some v) w e = (t, u, v, refl, refl, refl, same_Some (computing.picked t u v) w e)

passed : (p : Bits → Bool) (o : Option Bits) → passes p o ≡ true → (w : Bits) × (o ≡ Some w) × (p w ≡ true)
passed p None e = absurd (let n : ⊥ = cc in n)
passed p (Some w) e = (w, refl, e)

either : (p q : Bool) → (p || q) ≡ true → (p ≡ true) ⊎ (q ≡ true)
either true q e = inl refl
either false q e = inr e

module _ (inputs registers : List Bits) (V : Values) (xs : List NetNode) (solved : Solved inputs registers V xs) where
  pub constant_is : (a : ℕ) (w : Bits) → constant_at xs a ≡ Some w → V a ≡ w
  constant_is a w e = of (slice_get xs a) refl e
    where
      of : (o : Option NetNode) → slice_get xs a ≡ o → constant_in o ≡ Some w → V a ≡ w
      of None f g = absurd (let n : ⊥ = cc in n)
      of (Some (net.Constant u)) f g = solved.computes a (net.Constant u) f ∙ same_Some u w g
      of (Some (net.Input k)) f g = absurd (let n : ⊥ = cc in n)
      of (Some (net.Register k)) f g = absurd (let n : ⊥ = cc in n)
      of (Some (net.Not k)) f g = absurd (let n : ⊥ = cc in n)
      of (Some (net.Two o k l)) f g = absurd (let n : ⊥ = cc in n)
      of (Some (net.Pick t k l)) f g = absurd (let n : ⊥ = cc in n)
      of (Some (net.Slice k high low)) f g = absurd (let n : ⊥ = cc in n)
      of (Some (net.Join k l)) f g = absurd (let n : ⊥ = cc in n)
      of (Some (net.Extend k width)) f g = absurd (let n : ⊥ = cc in n)
      of (Some (net.SignExtend k width)) f g = absurd (let n : ⊥ = cc in n)

  one_constant : (f : Bits → Bits) (a : ℕ) (w : Bits) → option_map f (constant_at xs a) ≡ Some w → f (V a) ≡ w
  one_constant f a w e = let h = was_there f (constant_at xs a) w e in ap f (constant_is a h.0 h.1) ∙ h.2

  both_constants : (f : Bits → Bits → Bits) (a b : ℕ) (w : Bits) → two_constants f (constant_at xs a) (constant_at xs b) ≡ Some w → f (V a) (V b) ≡ w
  both_constants f a b w e =
      let h = two_there f (constant_at xs a) (constant_at xs b) w e in
      ap₂ f (constant_is a h.0 h.2) (constant_is b h.1 h.3) ∙ h.4

  all_constants : (t a b : ℕ) (w : Bits) → three_constants (constant_at xs t) (constant_at xs a) (constant_at xs b) ≡ Some w → computing.picked (V t) (V a) (V b) ≡ w
  all_constants t a b w e =
      let h = three_there (constant_at xs t) (constant_at xs a) (constant_at xs b) w e in
      ap₂ (λ (u v : Bits). computing.picked u v (V b)) (constant_is t h.0 h.3) (constant_is a h.1 h.4)
      ∙ (ap (computing.picked h.0 h.1) (constant_is b h.2 h.5) ∙ h.6)

  -- a node that reads constants alone
  pub constant_word_is : (y : NetNode) (w : Bits) → constant_word xs y ≡ Some w → computed inputs registers V y ≡ w
  constant_word_is (net.Input k) w e = absurd (let n : ⊥ = cc in n)
  constant_word_is (net.Register k) w e = absurd (let n : ⊥ = cc in n)
  constant_word_is (net.Constant u) w e = same_Some u w e
  constant_word_is (net.Not a) w e = one_constant word_not a w e
  constant_word_is (net.Two o a b) w e = both_constants (computing.between o) a b w e
  constant_word_is (net.Pick t a b) w e = all_constants t a b w e
  constant_word_is (net.Slice a high low) w e = one_constant (λ u. computing.sliced u high low) a w e
  constant_word_is (net.Join a b) w e = both_constants computing.joined a b w e
  constant_word_is (net.Extend a width) w e = one_constant (λ u. computing.extended u width) a w e
  constant_word_is (net.SignExtend a width) w e = one_constant (λ u. computing.sign_extended u width) a w e

  -- ---- nodes that are left out

  zeros : (a : ℕ) → is_zeros (slice_get xs a) ≡ true → (V a).value ≡ 0
  zeros a e =
      let h = passed (λ w. w.value == 0) (constant_at xs a) e in
      ap (λ (w : Bits). w.value) (constant_is a h.0 h.1) ∙ eqb-true h.0.value 0 h.2

  ones : (a : ℕ) → is_ones (slice_get xs a) ≡ true → AreOnes (V a)
  ones a e =
      let h = passed (λ w. (word_not w).value == 0) (constant_at xs a) e in
      let same = constant_is a h.0 h.1 in
      are_ones (V a) (solved.words a) (ap (λ (w : Bits). (word_not w).value) same ∙ eqb-true (word_not h.0).value 0 h.2)

  one : (a : ℕ) → is_true (slice_get xs a) ≡ true → ((V a).width ≡ 1) × ((V a).value ≡ 1)
  one a e =
      let h = passed (λ w. (w.width == 1) && (w.value == 1)) (constant_at xs a) e in
      let same = constant_is a h.0 h.1 in
      let parts = and_parts (h.0.width == 1) (h.0.value == 1) h.2 in
      (ap (λ (w : Bits). w.width) same ∙ eqb-true h.0.width 1 parts.0, ap (λ (w : Bits). w.value) same ∙ eqb-true h.0.value 1 parts.1)

  and_is : (a b p : ℕ) → (V a).width ≡ (V b).width → and_place xs a b ≡ Some p → V p ≡ word_and (V a) (V b)
  and_is a b p same e = of (is_zeros (slice_get xs a) || is_ones (slice_get xs b)) (is_ones (slice_get xs a) || is_zeros (slice_get xs b)) refl refl e
    where
      named : (n : ℕ) → n ≡ p → V n ≡ word_and (V a) (V b) → V p ≡ word_and (V a) (V b)
      named n f h = ap V (sym f) ∙ h

      first : (is_zeros (slice_get xs a) ≡ true) ⊎ (is_ones (slice_get xs b) ≡ true) → V a ≡ word_and (V a) (V b)
      first (inl h) = and_zeros_left (V a) (V b) (zeros a h)
      first (inr h) = and_ones_right (V a) (V b) (ones b h) (solved.words a) same

      second : (is_ones (slice_get xs a) ≡ true) ⊎ (is_zeros (slice_get xs b) ≡ true) → V b ≡ word_and (V a) (V b)
      second (inl h) = and_ones_left (V a) (V b) (ones a h) (solved.words b) same
      second (inr h) = and_zeros_right (V a) (V b) (zeros b h) same

      of : (s t : Bool) → (is_zeros (slice_get xs a) || is_ones (slice_get xs b)) ≡ s → (is_ones (slice_get xs a) || is_zeros (slice_get xs b)) ≡ t
          → (if s then Some a else (if t then Some b else None)) ≡ Some p → V p ≡ word_and (V a) (V b)
      of true t f g h = named a (same_Some a p h) (first (either (is_zeros (slice_get xs a)) (is_ones (slice_get xs b)) f))
      of false true f g h = named b (same_Some b p h) (second (either (is_ones (slice_get xs a)) (is_zeros (slice_get xs b)) g))
      of false false f g h = absurd (let n : ⊥ = cc in n)

  or_is : (a b p : ℕ) → (V a).width ≡ (V b).width → or_place xs a b ≡ Some p → V p ≡ word_or (V a) (V b)
  or_is a b p same e = of (is_ones (slice_get xs a) || is_zeros (slice_get xs b)) (is_zeros (slice_get xs a) || is_ones (slice_get xs b)) refl refl e
    where
      named : (n : ℕ) → n ≡ p → V n ≡ word_or (V a) (V b) → V p ≡ word_or (V a) (V b)
      named n f h = ap V (sym f) ∙ h

      first : (is_ones (slice_get xs a) ≡ true) ⊎ (is_zeros (slice_get xs b) ≡ true) → V a ≡ word_or (V a) (V b)
      first (inl h) = or_ones_left (V a) (V b) (ones a h) (solved.words b) same
      first (inr h) = or_zeros_right (V a) (V b) (zeros b h)

      second : (is_zeros (slice_get xs a) ≡ true) ⊎ (is_ones (slice_get xs b) ≡ true) → V b ≡ word_or (V a) (V b)
      second (inl h) = or_zeros_left (V a) (V b) (zeros a h) same
      second (inr h) = or_ones_right (V a) (V b) (ones b h) (solved.words a) same

      of : (s t : Bool) → (is_ones (slice_get xs a) || is_zeros (slice_get xs b)) ≡ s → (is_zeros (slice_get xs a) || is_ones (slice_get xs b)) ≡ t
          → (if s then Some a else (if t then Some b else None)) ≡ Some p → V p ≡ word_or (V a) (V b)
      of true t f g h = named a (same_Some a p h) (first (either (is_ones (slice_get xs a)) (is_zeros (slice_get xs b)) f))
      of false true f g h = named b (same_Some b p h) (second (either (is_zeros (slice_get xs a)) (is_ones (slice_get xs b)) g))
      of false false f g h = absurd (let n : ⊥ = cc in n)

  abbrev Picks : ℕ → ℕ → ℕ → ℕ → Type 0
  Picks t a b n = V n ≡ (if is_one (V t) then V a else V b)

  pick_is : (t a b p : ℕ) → ((V t).width ≡ 1) × ((V a).width ≡ (V b).width) → picked_place xs t a b ≡ Some p → V p ≡ (if is_one (V t) then V a else V b)
  pick_is t a b p sizes e = of (a == b) (is_true (slice_get xs a) && is_zeros (slice_get xs b)) refl refl e
    where
      same_arms : (s : Bool) → V a ≡ V b → V a ≡ (if s then V a else V b)
      same_arms true f = refl
      same_arms false f = f

      bit : is_true (slice_get xs a) ≡ true → is_zeros (slice_get xs b) ≡ true → Picks t a b t
      bit f g =
          let h = one a f in
          picked_bit (V t) (V a) (V b) (solved.words t) sizes.0 h.0 h.1 (sym sizes.1 ∙ h.0) (zeros b g)

      by_constant : (w : Bits) → V t ≡ w → (if w.value == 1 then a else b) ≡ p → Picks t a b p
      by_constant w f g = ap V (sym g) ∙ (chosen (w.value == 1) ∙ ap (λ (u : Bits). if is_one u then V a else V b) (sym f))
        where
          chosen : (s : Bool) → V (if s then a else b) ≡ (if s then V a else V b)
          chosen true = refl
          chosen false = refl

      of : (s r : Bool) → (a == b) ≡ s → (is_true (slice_get xs a) && is_zeros (slice_get xs b)) ≡ r
          → (if s then Some a else (if r then Some t else option_map (λ w. if w.value == 1 then a else b) (constant_in (slice_get xs t)))) ≡ Some p → Picks t a b p
      of true r f g h = subst (Picks t a b) (same_Some a p h) (same_arms (is_one (V t)) (ap V (eqb-true a b f)))
      of false true f g h =
          let parts = and_parts (is_true (slice_get xs a)) (is_zeros (slice_get xs b)) g in
          subst (Picks t a b) (same_Some t p h) (bit parts.0 parts.1)
      of false false f g h =
          let there = was_there (λ w. if w.value == 1 then a else b) (constant_in (slice_get xs t)) p h in
          by_constant there.0 (constant_is t there.0 there.1) there.2

  not_is : (a p : ℕ) → turned_place (slice_get xs a) ≡ Some p → V p ≡ word_not (V a)
  not_is a p e = of (slice_get xs a) refl e
    where
      of : (o : Option NetNode) → slice_get xs a ≡ o → turned_place o ≡ Some p → V p ≡ word_not (V a)
      of None f g = absurd (let n : ⊥ = cc in n)
      of (Some (net.Not k)) f g =
          let same : k ≡ p = same_Some k p g in
          ap V (sym same) ∙ (turned_twice (V k) (solved.words k) ∙ ap word_not (sym (solved.operates a (net.Not k) f)))
      of (Some (net.Constant u)) f g = absurd (let n : ⊥ = cc in n)
      of (Some (net.Input k)) f g = absurd (let n : ⊥ = cc in n)
      of (Some (net.Register k)) f g = absurd (let n : ⊥ = cc in n)
      of (Some (net.Two o k l)) f g = absurd (let n : ⊥ = cc in n)
      of (Some (net.Pick t k l)) f g = absurd (let n : ⊥ = cc in n)
      of (Some (net.Slice k high low)) f g = absurd (let n : ⊥ = cc in n)
      of (Some (net.Join k l)) f g = absurd (let n : ⊥ = cc in n)
      of (Some (net.Extend k width)) f g = absurd (let n : ⊥ = cc in n)
      of (Some (net.SignExtend k width)) f g = absurd (let n : ⊥ = cc in n)

  if_named : (s : Bool) (a p : ℕ) → (if s then Some a else None) ≡ Some p → (s ≡ true) × (a ≡ p)
  if_named true a p e = (refl, same_Some a p e)
  if_named false a p e = absurd (let n : ⊥ = cc in n)

  whole_is : (a high low width p : ℕ) → (V a).width ≡ width → whole_place a high low width ≡ Some p → V p ≡ operated inputs registers V (net.Slice a high low)
  whole_is a high low width p same e =
      let h = if_named ((low == 0) && nat_lt high width && (width - high == 1)) a p e in
      let two = and_parts ((low == 0) && nat_lt high width) (width - high == 1) h.0 in
      let first = and_parts (low == 0) (nat_lt high width) two.0 in
      let zero_low = eqb-true low 0 first.0 in
      let below = ltb-true high width first.1 in
      let last = eqb-true (width - high) 1 two.1 in
      let wide : (V a).width ≡ high + 1 = omega (arith, same, below, last) in
      ap V (sym h.1) ∙ whole_slice (V a) high low (solved.words a) zero_low wide

  -- the node that is named has the word
  pub same_word_is : (width : ℕ) (y : NetNode) (p : ℕ) → Sizes V y → (0 < length (operands y) → (V (first_operand y)).width ≡ width) → same_word xs width y ≡ Some p → V p ≡ operated inputs registers V y
  same_word_is width (net.Input k) p s f e = absurd (let n : ⊥ = cc in n)
  same_word_is width (net.Register k) p s f e = absurd (let n : ⊥ = cc in n)
  same_word_is width (net.Constant w) p s f e = absurd (let n : ⊥ = cc in n)
  same_word_is width (net.Not a) p s f e = not_is a p e
  same_word_is width (net.Two And a b) p s f e = and_is a b p (s refl) e
  same_word_is width (net.Two Or a b) p s f e = or_is a b p (s refl) e
  same_word_is width (net.Two Add a b) p s f e = absurd (let n : ⊥ = cc in n)
  same_word_is width (net.Two Sub a b) p s f e = absurd (let n : ⊥ = cc in n)
  same_word_is width (net.Two Mul a b) p s f e = absurd (let n : ⊥ = cc in n)
  same_word_is width (net.Two Xor a b) p s f e = absurd (let n : ⊥ = cc in n)
  same_word_is width (net.Two Same a b) p s f e = absurd (let n : ⊥ = cc in n)
  same_word_is width (net.Two Less a b) p s f e = absurd (let n : ⊥ = cc in n)
  same_word_is width (net.Two LessSigned a b) p s f e = absurd (let n : ⊥ = cc in n)
  same_word_is width (net.Two Shl a b) p s f e = absurd (let n : ⊥ = cc in n)
  same_word_is width (net.Two Shr a b) p s f e = absurd (let n : ⊥ = cc in n)
  same_word_is width (net.Two Sar a b) p s f e = absurd (let n : ⊥ = cc in n)
  same_word_is width (net.Pick t a b) p s f e = pick_is t a b p s e
  same_word_is width (net.Slice a high low) p s f e = whole_is a high low width p (f (omega arith)) e
  same_word_is width (net.Join a b) p s f e = absurd (let n : ⊥ = cc in n)
  same_word_is width (net.Extend a wide) p s f e =
      let h = if_named (wide == width) a p e in
      ap V (sym h.1) ∙ same_extended (V a) wide (eqb-true wide width h.0 ∙ sym (f (omega arith)))
  same_word_is width (net.SignExtend a wide) p s f e =
      let h = if_named (wide == width) a p e in
      ap V (sym h.1) ∙ same_sign_extended (V a) wide (solved.words a) (eqb-true wide width h.0 ∙ sym (f (omega arith)))
