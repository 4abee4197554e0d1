-- What a piece means: a word, once the registers and the calls of the clock are known.
use Rattle.std.specs.Prelude.{ℕ, Bool, nat_eq, if◌then◌else◌}
use Rattle.bsv_bits.specs.Words.{Bits, bit, word_not, word_slice, word_concat, word_extend}
use Rattle.bsv_bits.specs.Operators.{operate}
use Rattle.bsv_prim.specs.Shape.{Shape, Given, IsCalled, ArgumentOf, Fixed, Inverted, Both, Chosen, Cut, Joined, Extended}

-- the words of the registers, which methods are called, and with which arguments
pub record Signals : Type 0 where
  pub register : ℕ → Bits
  pub called : ℕ → Bool
  pub argument : ℕ → ℕ → Bits

-- one bit as a truth value
abbrev pub is_one : Bits → Bool
is_one w = nat_eq w.value 1

-- the word of a piece
abbrev pub word_of : Signals → Shape → Bits
word_of v (Given n) = v.register n
word_of v (IsCalled m) = bit (v.called m)
word_of v (ArgumentOf m k) = v.argument m k
word_of v (Fixed w) = w
word_of v (Inverted a) = word_not (word_of v a)
word_of v (Both o a b) = operate o (word_of v a) (word_of v b)
word_of v (Chosen c a b) = (if is_one (word_of v c) then word_of v a else word_of v b)
word_of v (Cut a high low) = word_slice (word_of v a) high low
word_of v (Joined a b) = word_concat (word_of v a) (word_of v b)
word_of v (Extended a width) = word_extend (word_of v a) width
