-- A node that has a width uses earlier nodes alone; so its width and its word stay where more come after.
use Rattle.std.proofs.Common.{◌≡◌, ◌∙◌, ℕ, ◌<◌, List, [], ◌++◌, length, Option, Some, None, refl, ap, ap₂}
use Rattle.std.specs.Prelude.{slice_get}
use Rattle.std.proofs.lemmas.Option.{slice_get_within}
use Rattle.bsv_lemmas.proofs.Places.{at_left as got_left}
use Rattle.bsv_bits.specs.Words.{Bits, word_not}
use Rattle.bsv_bits.specs.declared.operator.Operator.{Operator}
use Rattle.bsv_design.specs.declared.element.Port.{Port}
use Rattle.bsv_design.specs.declared.node.Node.{Node}
use Rattle.bsv_design.specs.declared.node.Node.TheVariants as node
use Rattle.bsv_design.specs.design.Bodies.{at, node_word}
use Rattle.bsv_design.specs.design.Computing as computing
use Rattle.bsv_design.specs.scheme.Relations.{no_answers}
use Rattle.bsv_design.specs.design.Words.{or_zero}
use Rattle.bsv_design.specs.design.Widths.{node_width, two_width, pick_width, slice_width, join_width, extend_width}

-- the nodes that a node uses come before this place, and it is not what a call gives
abbrev pub Below : ℕ → Node → Type 0
Below n (node.Constant w) = Unit {0}
Below n (node.Argument k) = Unit {0}
Below n (node.Result c) = ⊥
Below n (node.Not a) = a < n
Below n (node.Two o a b) = (a < n) × (b < n)
Below n (node.Pick t a b) = (t < n) × (a < n) × (b < n)
Below n (node.Slice a high low) = a < n
Below n (node.Join a b) = (a < n) × (b < n)
Below n (node.Extend a width) = a < n
Below n (node.SignExtend a width) = a < n

module _ (us : List ℕ) where
  two_below : (o : Operator) (a b v : ℕ) (p q : Option ℕ) → slice_get us a ≡ p → slice_get us b ≡ q → two_width o p q ≡ Some v → (a < length us) × (b < length us)
  two_below o a b v None q i j e = absurd (let n : ⊥ = cc in n)
  two_below o a b v (Some u) None i j e = absurd (let n : ⊥ = cc in n)
  two_below o a b v (Some u) (Some w) i j e = (slice_get_within us a u i, slice_get_within us b w j)

  pick_below : (t a b v : ℕ) (p q r : Option ℕ) → slice_get us t ≡ p → slice_get us a ≡ q → slice_get us b ≡ r → pick_width p q r ≡ Some v → (t < length us) × (a < length us) × (b < length us)
  pick_below t a b v None q r i j k e = absurd (let n : ⊥ = cc in n)
  pick_below t a b v (Some x) None r i j k e = absurd (let n : ⊥ = cc in n)
  pick_below t a b v (Some x) (Some y) None i j k e = absurd (let n : ⊥ = cc in n)
  pick_below t a b v (Some x) (Some y) (Some z) i j k e = (slice_get_within us t x i, slice_get_within us a y j, slice_get_within us b z k)

  slice_below : (a high low v : ℕ) (p : Option ℕ) → slice_get us a ≡ p → slice_width p high low ≡ Some v → a < length us
  slice_below a high low v None i e = absurd (let n : ⊥ = cc in n)
  slice_below a high low v (Some u) i e = slice_get_within us a u i

  join_below : (a b v : ℕ) (p q : Option ℕ) → slice_get us a ≡ p → slice_get us b ≡ q → join_width p q ≡ Some v → (a < length us) × (b < length us)
  join_below a b v None q i j e = absurd (let n : ⊥ = cc in n)
  join_below a b v (Some u) None i j e = absurd (let n : ⊥ = cc in n)
  join_below a b v (Some u) (Some w) i j e = (slice_get_within us a u i, slice_get_within us b w j)

  extend_below : (a width v : ℕ) (p : Option ℕ) → slice_get us a ≡ p → extend_width p width ≡ Some v → a < length us
  extend_below a width v None i e = absurd (let n : ⊥ = cc in n)
  extend_below a width v (Some u) i e = slice_get_within us a u i

  pub is_below : (ports : List Port) (x : Node) (v : ℕ) → node_width ports [] [] us x ≡ Some v → Below (length us) x
  is_below ports (node.Constant w) v e = tt
  is_below ports (node.Argument k) v e = tt
  is_below ports (node.Result c) v e = absurd (let n : ⊥ = cc in n)
  is_below ports (node.Not a) v e = slice_get_within us a v e
  is_below ports (node.Two o a b) v e = two_below o a b v (slice_get us a) (slice_get us b) refl refl e
  is_below ports (node.Pick t a b) v e = pick_below t a b v (slice_get us t) (slice_get us a) (slice_get us b) refl refl refl e
  is_below ports (node.Slice a high low) v e = slice_below a high low v (slice_get us a) refl e
  is_below ports (node.Join a b) v e = join_below a b v (slice_get us a) (slice_get us b) refl refl e
  is_below ports (node.Extend a width) v e = extend_below a width v (slice_get us a) refl e
  is_below ports (node.SignExtend a width) v e = extend_below a width v (slice_get us a) refl e

  pub width_kept : (ports : List Port) (more : List ℕ) (x : Node) → Below (length us) x → node_width ports [] [] (us ++ more) x ≡ node_width ports [] [] us x
  width_kept ports more (node.Constant w) h = refl
  width_kept ports more (node.Argument k) h = refl
  width_kept ports more (node.Result c) h = absurd h
  width_kept ports more (node.Not a) h = got_left us more a h
  width_kept ports more (node.Two o a b) h = ap₂ (two_width o) (got_left us more a h.0) (got_left us more b h.1)
  width_kept ports more (node.Pick t a b) h =
      ap₂ (λ (p q : Option ℕ). pick_width p q (slice_get (us ++ more) b)) (got_left us more t h.0) (got_left us more a h.1)
      ∙ ap (pick_width (slice_get us t) (slice_get us a)) (got_left us more b h.2)
  width_kept ports more (node.Slice a high low) h = ap (λ (p : Option ℕ). slice_width p high low) (got_left us more a h)
  width_kept ports more (node.Join a b) h = ap₂ join_width (got_left us more a h.0) (got_left us more b h.1)
  width_kept ports more (node.Extend a width) h = ap (λ (p : Option ℕ). extend_width p width) (got_left us more a h)
  width_kept ports more (node.SignExtend a width) h = ap (λ (p : Option ℕ). extend_width p width) (got_left us more a h)

module _ (arguments vs more : List Bits) where
  at_left : (k : ℕ) → k < length vs → at (vs ++ more) k ≡ at vs k
  at_left k l = ap or_zero (got_left vs more k l)

  pub word_kept : (x : Node) → Below (length vs) x → node_word no_answers arguments [] (vs ++ more) x ≡ node_word no_answers arguments [] vs x
  word_kept (node.Constant w) h = refl
  word_kept (node.Argument k) h = refl
  word_kept (node.Result c) h = absurd h
  word_kept (node.Not a) h = ap word_not (at_left a h)
  word_kept (node.Two o a b) h = ap₂ (computing.between o) (at_left a h.0) (at_left b h.1)
  word_kept (node.Pick t a b) h =
      ap₂ (λ (p q : Bits). computing.picked p q (at (vs ++ more) b)) (at_left t h.0) (at_left a h.1)
      ∙ ap (computing.picked (at vs t) (at vs a)) (at_left b h.2)
  word_kept (node.Slice a high low) h = ap (λ (p : Bits). computing.sliced p high low) (at_left a h)
  word_kept (node.Join a b) h = ap₂ computing.joined (at_left a h.0) (at_left b h.1)
  word_kept (node.Extend a width) h = ap (λ (p : Bits). computing.extended p width) (at_left a h)
  word_kept (node.SignExtend a width) h = ap (λ (p : Bits). computing.sign_extended p width) (at_left a h)
