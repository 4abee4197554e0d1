-- A node that reads other nodes of the same words has the same word, and reads the nodes that stand for those that it read.
use Rattle.std.proofs.Common.{◌≡◌, ◌∙◌, ℕ, List, map, refl, sym, ap, ap₂}
use Rattle.std.specs.Prelude.{if◌then◌else◌}
use Rattle.std.specs.List.{AllByRecursion}
use Rattle.bsv_bits.specs.Operators.{operate}
use Rattle.bsv_bits.specs.Signed.{word_sign_extend}
use Rattle.bsv_bits.specs.Words.{Bits, word_not, word_slice, word_concat, word_extend}
use Rattle.bsv_prim.specs.Signals.{is_one}
use Rattle.bsv_design.specs.design.Computing as computing
use Rattle.bsv_net.specs.declared.node.NetNode.{NetNode}
use Rattle.bsv_net.specs.declared.node.NetNode.TheVariants as net
use Rattle.bsv_net.specs.Equations.{Values, computed, operated}
use Rattle.bsv_share.specs.Operands.{renamed}
use Rattle.bsv_share.specs.Sharing.{operands}
use Rattle.bsv_share.proofs.NodesAt.{Sizes}

pub operands_renamed : (f : ℕ → ℕ) (x : NetNode) → operands (renamed f x) ≡ map f (operands x)
operands_renamed f (net.Input k) = refl
operands_renamed f (net.Register k) = refl
operands_renamed f (net.Constant w) = refl
operands_renamed f (net.Not a) = refl
operands_renamed f (net.Two o a b) = refl
operands_renamed f (net.Pick t a b) = refl
operands_renamed f (net.Slice a high low) = refl
operands_renamed f (net.Join a b) = refl
operands_renamed f (net.Extend a width) = refl
operands_renamed f (net.SignExtend a width) = refl

-- what a node reads has the words of what it read
abbrev pub Agree : Values → Values → (ℕ → ℕ) → NetNode → Type 0
Agree V U f x = AllByRecursion (λ a. V (f a) ≡ U a) (operands x)

module _ (inputs registers : List Bits) (V U : Values) (f : ℕ → ℕ) where
  pub computes_same : (x : NetNode) → Agree V U f x → computed inputs registers V (renamed f x) ≡ computed inputs registers U x
  computes_same (net.Input k) h = refl
  computes_same (net.Register k) h = refl
  computes_same (net.Constant w) h = refl
  computes_same (net.Not a) h = ap word_not h.0
  computes_same (net.Two o a b) h = ap₂ (computing.between o) h.0 h.1.0
  computes_same (net.Pick t a b) h = ap₂ (λ (u v : Bits). computing.picked u v (V (f b))) h.0 h.1.0 ∙ ap (computing.picked (U t) (U a)) h.1.1.0
  computes_same (net.Slice a high low) h = ap (λ (w : Bits). computing.sliced w high low) h.0
  computes_same (net.Join a b) h = ap₂ computing.joined h.0 h.1.0
  computes_same (net.Extend a width) h = ap (λ (w : Bits). computing.extended w width) h.0
  computes_same (net.SignExtend a width) h = ap (λ (w : Bits). computing.sign_extended w width) h.0

  pub operates_same : (x : NetNode) → Agree V U f x → operated inputs registers V (renamed f x) ≡ operated inputs registers U x
  operates_same (net.Input k) h = refl
  operates_same (net.Register k) h = refl
  operates_same (net.Constant w) h = refl
  operates_same (net.Not a) h = ap word_not h.0
  operates_same (net.Two o a b) h = ap₂ (operate o) h.0 h.1.0
  operates_same (net.Pick t a b) h =
      ap₂ (λ (u v : Bits). if is_one u then v else V (f b)) h.0 h.1.0 ∙ ap (λ (w : Bits). if is_one (U t) then U a else w) h.1.1.0
  operates_same (net.Slice a high low) h = ap (λ (w : Bits). word_slice w high low) h.0
  operates_same (net.Join a b) h = ap₂ word_concat h.0 h.1.0
  operates_same (net.Extend a width) h = ap (λ (w : Bits). word_extend w width) h.0
  operates_same (net.SignExtend a width) h = ap (λ (w : Bits). word_sign_extend w width) h.0

  pub sizes_same : (x : NetNode) → Agree V U f x → Sizes U x → Sizes V (renamed f x)
  sizes_same (net.Input k) h s = tt
  sizes_same (net.Register k) h s = tt
  sizes_same (net.Constant w) h s = tt
  sizes_same (net.Not a) h s = tt
  sizes_same (net.Two o a b) h s = λ no_shift. ap (λ (w : Bits). w.width) h.0 ∙ (s no_shift ∙ ap (λ (w : Bits). w.width) (sym h.1.0))
  sizes_same (net.Pick t a b) h s = (
    ap (λ (w : Bits). w.width) h.0 ∙ s.0,
    ap (λ (w : Bits). w.width) h.1.0 ∙ (s.1 ∙ ap (λ (w : Bits). w.width) (sym h.1.1.0)),
  )
  sizes_same (net.Slice a high low) h s = tt
  sizes_same (net.Join a b) h s = tt
  sizes_same (net.Extend a width) h s = tt
  sizes_same (net.SignExtend a width) h s = tt
