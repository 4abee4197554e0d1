-- Operators give what they mean.
use Rattle.std.proofs.Common.{◌≡◌, ℕ, ◌-◌, List, Option, Some, None, Ok, refl, sym, subst}
use Rattle.std.specs.Prelude.{pos, negsuc}
use Rattle.bsv_bits.specs.Words.{Bits, word_not}
use Rattle.bsv_bits.specs.declared.operator.Operator.{Operator}
use Rattle.bsv_bits.specs.declared.operator.Operator.TheVariants as operator
use Rattle.bsv_types.specs.declared.operators.Op.{Op}
use Rattle.bsv_types.specs.declared.operators.Op.TheVariants as op
use Rattle.bsv_types.specs.Kinds.{Kind}
use Rattle.bsv_types.specs.Shapes.{Shapes}
use Rattle.bsv_tree.specs.declared.steps.Compute.TheVariants as compute
use Rattle.bsv_tree.specs.declared.values.Value.{Value}
use Rattle.bsv_tree.specs.declared.values.Value.TheVariants as value
use Rattle.bsv_tree.specs.declared.values.Constant.{Constant}
use Rattle.bsv_tree.specs.declared.values.Constant.TheVariants as constant
use Rattle.bsv_tree.specs.declared.values.Work.{Work}
use Rattle.bsv_tree.specs.declared.values.Fault.{Fault}
use Rattle.bsv_tree.specs.carrying.Values.{atom_of}
use Rattle.bsv_design.specs.design.Computing as computing
use Rattle.bsv_tree.specs.meaning.Integers.{number_between, fitted}
use Rattle.bsv_tree.specs.carrying.Applied as carried
use Rattle.bsv_tree.specs.tree.Widths.{width}
use Rattle.bsv_tree.specs.carrying.Applied.{constant_of, or_fault, inverted_value}
use Rattle.bsv_tree.specs.meaning.Operators.{right, less}
use Rattle.bsv_tree.specs.meaning.Evaluation.{Results, Standing}
use Rattle.bsv_tree.specs.carrying.Working as work
use Rattle.bsv_tree.specs.carrying.Working.{Valued}
use Rattle.bsv_tree.specs.meaning.Values.{Value as Val, static, varying, one, two, three}
use Rattle.bsv_tree.specs.meaning.Operators as means
use Rattle.bsv_tree.specs.meaning.Evaluation.{yields}
use Rattle.bsv_tree.proofs.meaning.Same.{Shows, AllShow, ran, IsLong, here, got, shows_within, all_show_within}
use Rattle.bsv_tree.proofs.meaning.Pieces.{Gets, adds_on, at_once, one_gives, two_gives, three_gives}

module _ (r : Results) (p : Standing) (ws : List Bits) (n k : ℕ) where
  -- the words that stand
  abbrev pub V : Work → List Bits
  V w = (ran r p ws n k w).words

  -- from one work to the next the value is this
  abbrev pub Is : Value → Work → Work → Val → Type 0
  Is x w v a = Gets r p ws n k x w v (here r p ws n k w (yields a))

  pub next : (x y : Value) (w u v : Work) (a b : Val) → Is x w u a → Is y u v b → Is y w v b
  next x y w u v a b f g = record { adds = adds_on r p ws n k w u v (here r p ws n k w (yields a)) (yields b) f.adds g.adds; long = g.long; gives = g.gives }

  pub later : (x : Value) (w u : Work) (a : Val) → Is x w u a → (y : Value) (b : Val) → Shows (V w) y b → Shows (V u) y b
  later x w u a f y b s = shows_within (V w) (V u) f.adds.within y b s

  pub all_later : (x : Value) (w u : Work) (a : Val) → Is x w u a → (ys : List Value) (bs : List Val) → AllShow (V w) ys bs → AllShow (V u) ys bs
  all_later x w u a f ys bs s = all_show_within (V w) (V u) f.adds.within ys bs s

  -- ---- words

  module _ (w : Work) (long : IsLong r p ws n k w) where
    pub between_is : (o : Operator) (x y : Value) (a b : Val) → Shows (V w) x a → Shows (V w) y b
        → (z : Value) (v : Work) → work.between w o x y ≡ Ok (z, v) → Is z w v (means.between o a b)
    unfolding work.between
    between_is o x y a b s t z v h = two_gives r p ws n k w long (computing.between o) (compute.Two o (atom_of x) (atom_of y)) x y a b s t refl z v h

    pub joined_is : (x y : Value) (a b : Val) → Shows (V w) x a → Shows (V w) y b
        → (z : Value) (v : Work) → work.joined w x y ≡ Ok (z, v) → Is z w v (two computing.joined a b)
    unfolding work.joined
    joined_is x y a b s t z v h = two_gives r p ws n k w long computing.joined (compute.Join (atom_of x) (atom_of y)) x y a b s t refl z v h

    pub inverted_is : (x : Value) (a : Val) → Shows (V w) x a → (z : Value) (v : Work) → work.inverted w x ≡ Ok (z, v) → Is z w v (means.inverted a)
    unfolding work.inverted
    inverted_is x a s z v h = one_gives r p ws n k w long word_not (compute.Not (atom_of x)) x a s refl z v h

    pub sliced_is : (x : Value) (a : Val) (high low : ℕ) → Shows (V w) x a → (z : Value) (v : Work) → work.sliced w x high low ≡ Ok (z, v) → Is z w v (means.sliced a high low)
    unfolding work.sliced
    sliced_is x a high low s z v h = one_gives r p ws n k w long (λ u. computing.sliced u high low) (compute.Slice (atom_of x) high low) x a s refl z v h

    extended_is : (x : Value) (a : Val) (wide : ℕ) → Shows (V w) x a → (z : Value) (v : Work) → work.extended w x wide ≡ Ok (z, v) → Is z w v (one (λ u. computing.extended u wide) a)
    unfolding work.extended
    extended_is x a wide s z v h = one_gives r p ws n k w long (λ u. computing.extended u wide) (compute.Extend (atom_of x) wide) x a s refl z v h

    sign_extended_is : (x : Value) (a : Val) (wide : ℕ) → Shows (V w) x a → (z : Value) (v : Work) → work.sign_extended w x wide ≡ Ok (z, v) → Is z w v (one (λ u. computing.sign_extended u wide) a)
    unfolding work.sign_extended
    sign_extended_is x a wide s z v h = one_gives r p ws n k w long (λ u. computing.sign_extended u wide) (compute.SignExtend (atom_of x) wide) x a s refl z v h

    picked_is : (x y z : Value) (a b c : Val) → Shows (V w) x a → Shows (V w) y b → Shows (V w) z c
        → (o : Value) (v : Work) → work.picked w x y z ≡ Ok (o, v) → Is o w v (three computing.picked a b c)
    unfolding work.picked
    picked_is x y z a b c s t u o v h = three_gives r p ws n k w long computing.picked (compute.Pick (atom_of x) (atom_of y) (atom_of z)) x y z a b c s t u refl o v h

    fits_is : (f : Fault) (o : Option Constant) (z : Value) (v : Work) → or_fault f o w ≡ Ok (z, v) → Is z w v (means.if_fits o)
    fits_is f None z v h = absurd cc
    fits_is f (Some c) z v h = at_once r p ws n k w long (value.Static c) z v (static c) h refl

    pub there : (x z : Value) (v : Work) (a : Val) → ◌≡◌ {A = Valued} (Ok (x, w)) (Ok (z, v)) → Shows (V w) x a → Is z w v a
    there x z v a h s = at_once r p ws n k w long x z v a h s

  module _ (s : Shapes) (f : Fault) where
    -- ---- two operands

    module _ (w : Work) (long : IsLong r p ws n k w) where
      shifted_is : (o : Operator) (x y : Value) (a b : Val) → Shows (V w) x a → Shows (V w) y b
          → (z : Value) (v : Work) → carried.shifted s f o x y w ≡ Ok (z, v) → Is z w v (means.shifted o a b)
      shifted_is o x (value.Static (constant.Number (negsuc m))) a b i j z v h = absurd cc
      shifted_is o x (value.Static (constant.Number (pos m))) a b i j z v h =
          subst (λ c. Is z w v (means.shifted o a c)) (sym j) (between_is w long o x (constant_of 64 m) a (means.bits 64 m) i refl z v h)
      shifted_is o x (value.Static (constant.Bits c)) a b i j z v h =
          subst (λ c. Is z w v (means.shifted o a c)) (sym j) (between_is w long o x (value.Static (constant.Bits c)) a (static (constant.Bits c)) i refl z v h)
      shifted_is o x (value.Open c) a b i j z v h =
          subst (λ c. Is z w v (means.shifted o a c)) (sym j.2) (between_is w long o x (value.Open c) a (varying j.0) i (j.0, j.1, refl) z v h)

      not_is : (m : Valued) (a : Val) → ((y : Value) (u : Work) → m ≡ Ok (y, u) → Is y w u a)
          → (z : Value) (v : Work) → carried.not_of s f m ≡ Ok (z, v) → Is z w v (means.inverted a)
      not_is m a first z v h =
          let g = got m inverted_value (z, v) h in
          let y = first g.0.0 g.0.1 g.1 in
          next g.0.0 z w g.0.1 v a (means.inverted a) y (inverted_is g.0.1 y.long g.0.0 a y.gives z v g.2)

      from_maybe_is : (t : Kind) (x y : Value) (a b : Val) → Shows (V w) x a → Shows (V w) y b
          → (z : Value) (v : Work) → carried.from_maybe s f t x y w ≡ Ok (z, v)
          → Is z w v (three computing.picked (means.sliced b (width s t) (width s t)) (means.sliced b (width s t - 1) 0) a)
      from_maybe_is t x y a b i j z v h =
          let one = got (work.sliced w y (width s t) (width s t)) _ (z, v) h in
          let first = sliced_is w long y b (width s t) (width s t) j one.0.0 one.0.1 one.1 in
          let two = got (work.sliced one.0.1 y (width s t - 1) 0) _ (z, v) one.2 in
          let second = sliced_is one.0.1 first.long y b (width s t - 1) 0 (later one.0.0 w one.0.1 _ first y b j) two.0.0 two.0.1 two.1 in
          let both = next one.0.0 two.0.0 w one.0.1 two.0.1 _ _ first second in
          let third = picked_is two.0.1 both.long one.0.0 two.0.0 x _ _ a (later two.0.0 one.0.1 two.0.1 _ second one.0.0 _ first.gives) both.gives (later two.0.0 w two.0.1 _ both x a i) z v two.2 in
          next two.0.0 z w two.0.1 v _ _ both third

      of_words_is : (o : Op) (t : Kind) (x y : Value) (a b : Val) → Shows (V w) x a → Shows (V w) y b
          → (z : Value) (v : Work) → carried.bits_between s f o t x y w ≡ Ok (z, v) → Is z w v (means.of_words s o t a b)
      of_words_is op.Mul t x y a b i j z v h = between_is w long operator.Mul x y a b i j z v h
      of_words_is op.Add t x y a b i j z v h = between_is w long operator.Add x y a b i j z v h
      of_words_is op.Sub t x y a b i j z v h = between_is w long operator.Sub x y a b i j z v h
      of_words_is op.Shl t x y a b i j z v h = shifted_is operator.Shl x y a b i j z v h
      of_words_is op.Shr t x y a b i j z v h = shifted_is (right t) x y a b i j z v h
      of_words_is op.Less t x y a b i j z v h = between_is w long (less t) x y a b i j z v h
      of_words_is op.Greater t x y a b i j z v h = between_is w long (less t) y x b a j i z v h
      of_words_is op.LessOrSame t x y a b i j z v h = not_is (work.between w (less t) y x) _ (λ o u. between_is w long (less t) y x b a j i o u) z v h
      of_words_is op.GreaterOrSame t x y a b i j z v h = not_is (work.between w (less t) x y) _ (λ o u. between_is w long (less t) x y a b i j o u) z v h
      of_words_is op.Same t x y a b i j z v h = between_is w long operator.Same x y a b i j z v h
      of_words_is op.Different t x y a b i j z v h = not_is (work.between w operator.Same x y) _ (λ o u. between_is w long operator.Same x y a b i j o u) z v h
      of_words_is op.And t x y a b i j z v h = between_is w long operator.And x y a b i j z v h
      of_words_is op.Both t x y a b i j z v h = between_is w long operator.And x y a b i j z v h
      of_words_is op.Xor t x y a b i j z v h = between_is w long operator.Xor x y a b i j z v h
      of_words_is op.Or t x y a b i j z v h = between_is w long operator.Or x y a b i j z v h
      of_words_is op.Either t x y a b i j z v h = between_is w long operator.Or x y a b i j z v h
      of_words_is _ t x y a b i j z v h = from_maybe_is t x y a b i j z v h

      pub of_two_is : (o : Op) (t : Kind) (x y : Value) (a b : Val) → Shows (V w) x a → Shows (V w) y b
          → (z : Value) (v : Work) → carried.two_operands s f o t x y w ≡ Ok (z, v) → Is z w v (means.of_two s o t a b)
      of_two_is o t (value.Static (constant.Number m)) (value.Static (constant.Number l)) a b i j z v h =
          subst (λ c. Is z w v (means.of_two s o t c b)) (sym i) (subst (λ c. Is z w v (means.of_two s o t (static (constant.Number m)) c)) (sym j) (fits_is w long f (number_between o m l) z v h))
      of_two_is o t (value.Static (constant.Number m)) (value.Static (constant.Bits l)) a b i j z v h =
          subst (λ c. Is z w v (means.of_two s o t c b)) (sym i) (subst (λ c. Is z w v (means.of_two s o t (static (constant.Number m)) c)) (sym j) (of_words_is o t (value.Static (constant.Number m)) (value.Static (constant.Bits l)) _ _ refl refl z v h))
      of_two_is o t (value.Static (constant.Number m)) (value.Open l) a b i j z v h =
          subst (λ c. Is z w v (means.of_two s o t c b)) (sym i) (subst (λ c. Is z w v (means.of_two s o t (static (constant.Number m)) c)) (sym j.2) (of_words_is o t (value.Static (constant.Number m)) (value.Open l) _ _ refl (j.0, j.1, refl) z v h))
      of_two_is o t (value.Static (constant.Bits m)) y a b i j z v h =
          subst (λ c. Is z w v (means.of_two s o t c b)) (sym i) (of_words_is o t (value.Static (constant.Bits m)) y _ b refl j z v h)
      of_two_is o t (value.Open m) y a b i j z v h =
          subst (λ c. Is z w v (means.of_two s o t c b)) (sym i.2) (of_words_is o t (value.Open m) y _ b (i.0, i.1, refl) j z v h)

      -- ---- one operand

      pub of_one_is : (o : Op) (t u : Kind) (x : Value) (a : Val) → Shows (V w) x a
          → (z : Value) (v : Work) → carried.one_operand s f o t u x w ≡ Ok (z, v) → Is z w v (means.of_one s o t u a)
      of_one_is op.Negate t u (value.Static (constant.Number m)) a i z v h = subst (λ c. Is z w v (means.of_one s op.Negate t u c)) (sym i) (fits_is w long f (number_between op.Sub (pos 0) m) z v h)
      of_one_is op.Negate t u (value.Static (constant.Bits m)) a i z v h =
          subst (λ c. Is z w v (means.of_one s op.Negate t u c)) (sym i) (between_is w long operator.Sub (constant_of (width s t) 0) (value.Static (constant.Bits m)) (means.bits (width s t) 0) _ refl refl z v h)
      of_one_is op.Negate t u (value.Open m) a i z v h =
          subst (λ c. Is z w v (means.of_one s op.Negate t u c)) (sym i.2) (between_is w long operator.Sub (constant_of (width s t) 0) (value.Open m) (means.bits (width s t) 0) _ refl (i.0, i.1, refl) z v h)
      of_one_is op.Complement t u x a i z v h = inverted_is w long x a i z v h
      of_one_is op.Not t u x a i z v h = inverted_is w long x a i z v h
      of_one_is op.Truncate t u x a i z v h = sliced_is w long x a (width s t - 1) 0 i z v h
      of_one_is op.ZeroExtend t u x a i z v h = extended_is w long x a (width s t) i z v h
      of_one_is op.SignExtend t u x a i z v h = sign_extended_is w long x a (width s t) i z v h
      of_one_is op.FromInteger t u (value.Static (constant.Number m)) a i z v h = subst (λ c. Is z w v (means.of_one s op.FromInteger t u c)) (sym i) (fits_is w long f (fitted t (width s t) m) z v h)
      of_one_is op.FromInteger t u (value.Static (constant.Bits m)) a i z v h = absurd cc
      of_one_is op.FromInteger t u (value.Open m) a i z v h = absurd cc
      of_one_is op.Valid t u x a i z v h = joined_is w long (constant_of 1 1) x (means.bits 1 1) a refl i z v h
      of_one_is op.IsValid t u x a i z v h = sliced_is w long x a (width s u - 1) (width s u - 1) i z v h
      of_one_is op.ValidValue t u x a i z v h = sliced_is w long x a (width s t - 1) 0 i z v h
      of_one_is _ t u x a i z v h = there w long x z v a h i
