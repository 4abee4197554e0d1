-- Nodes that were placed have the words that their operators give, and gates of bits compute truth values.
use Rattle.std.proofs.Common.{◌≡◌, ◌∙◌, ℕ, Bool, true, false, not, ◌&&◌, ◌||◌, List, refl, ap, ap₂}
use Rattle.bsv_bits.specs.Operators.{operate}
use Rattle.bsv_bits.specs.Words.{Bits, bit, word_not}
use Rattle.bsv_bits.specs.declared.operator.Operator.TheVariants.{And, Or}
use Rattle.bsv_net.specs.declared.node.NetNode.{NetNode}
use Rattle.bsv_net.specs.declared.node.NetNode.TheVariants as net
use Rattle.bsv_net.specs.Equations.{Values, Satisfies, operated}
use Rattle.bsv_net.specs.Placing.{add, both, either, negated}
use Rattle.bsv_net.proofs.Grows.{Grows, added_there}

and_bits : (p q : Bool) → operate And (bit p) (bit q) ≡ bit (p && q)
and_bits true true = refl
and_bits true false = refl
and_bits false true = refl
and_bits false false = refl

or_bits : (p q : Bool) → operate Or (bit p) (bit q) ≡ bit (p || q)
or_bits true true = refl
or_bits true false = refl
or_bits false true = refl
or_bits false false = refl

not_bit : (p : Bool) → word_not (bit p) ≡ bit (not p)
not_bit true = refl
not_bit false = refl

module _ (inputs registers : List Bits) (V : Values) (full : List NetNode) (widths : List ℕ) (s : Satisfies inputs registers V full widths) where
  pub added_means : (ns : List NetNode) (x : NetNode) → Grows (add ns x).nodes full → V (add ns x).place ≡ operated inputs registers V x
  added_means ns x g = s.operates (add ns x).place x (added_there ns x g)

  pub both_means : (ns : List NetNode) (a b : ℕ) (p q : Bool) → Grows (both ns a b).nodes full → V a ≡ bit p → V b ≡ bit q → V (both ns a b).place ≡ bit (p && q)
  both_means ns a b p q g e f = added_means ns (net.Two And a b) g ∙ ap₂ (operate And) e f ∙ and_bits p q

  pub either_means : (ns : List NetNode) (a b : ℕ) (p q : Bool) → Grows (either ns a b).nodes full → V a ≡ bit p → V b ≡ bit q → V (either ns a b).place ≡ bit (p || q)
  either_means ns a b p q g e f = added_means ns (net.Two Or a b) g ∙ ap₂ (operate Or) e f ∙ or_bits p q

  pub negated_means : (ns : List NetNode) (a : ℕ) (p : Bool) → Grows (negated ns a).nodes full → V a ≡ bit p → V (negated ns a).place ≡ bit (not p)
  negated_means ns a p g e = added_means ns (net.Not a) g ∙ ap word_not e ∙ not_bit p
