-- What a module means in a clock: continuous assignments hold as equations, and at the edge all right sides are read before a
-- register changes (IEEE 1364-2005, 6.1 and 9.2.2), where every bit is 0 or 1.
use Rattle.std.specs.Prelude.{◌≡◌, ℕ, Bool, false, not, nat_eq, if◌then◌else◌, List, [], ◌∷◌, map, slice_get, Some, unwrap_or}
use Rattle.bsv_bits.specs.Words.{Bits, bit, word_add, word_sub, word_mul, word_and, word_or, word_xor, word_not, word_same, word_less, word_shl, word_shr, word_slice, word_concat}
use Rattle.bsv_bits.specs.Signed.{word_less_signed, word_sar}
use Rattle.bsv_vtext.specs.declared.tree.VRegister.{VRegister}
use Rattle.bsv_vtext.specs.declared.tree.Assign.{Assign}
use Rattle.bsv_vtext.specs.declared.tree.Atom.{Atom}
use Rattle.bsv_vtext.specs.declared.tree.Atom.TheVariants as atom
use Rattle.bsv_vtext.specs.declared.tree.Side.{Side}
use Rattle.bsv_vtext.specs.declared.tree.Side.TheVariants as side
use Rattle.bsv_vtext.specs.declared.tree.Target.{Target}
use Rattle.bsv_vtext.specs.declared.tree.Target.TheVariants as target
use Rattle.bsv_vtext.specs.declared.tree.VOperator.{VOperator}
use Rattle.bsv_vtext.specs.declared.tree.VOperator.TheVariants as operator
use Rattle.bsv_vtext.specs.Signals.{VModuleData}

-- the inputs of a clock: of each method whether its enable is 1, and the words of its arguments
pub record Inputs : Type 0 where
  pub enables : List Bool
  pub arguments : List (List Bits)

-- the word of each net: each wire and each output
abbrev pub Nets : Type 0
Nets = Target → Bits

-- the word of this place; there is one wherever a module asks for it
abbrev pub word_at : List Bits → ℕ → Bits
word_at ws k = unwrap_or (slice_get ws k) (bit false)

abbrev pub atom_word : List Bits → Inputs → Nets → Atom → Bits
atom_word registers inputs nets (atom.Enable m) = bit (unwrap_or (slice_get inputs.enables m) false)
atom_word registers inputs nets (atom.Argument m k) = word_at (unwrap_or (slice_get inputs.arguments m) []) k
atom_word registers inputs nets (atom.Register k) = word_at registers k
atom_word registers inputs nets (atom.Wire k) = nets (target.Wire k)
atom_word registers inputs nets (atom.Constant w) = w

-- ---- expressions

-- `+ - *` modulo 2 to the width, comparisons of unsigned numbers, a shift by the width or more gives 0
abbrev pub operated : VOperator → Bits → Bits → Bits
operated operator.Add a b = word_add a b
operated operator.Sub a b = word_sub a b
operated operator.Mul a b = word_mul a b
operated operator.And a b = word_and a b
operated operator.Or a b = word_or a b
operated operator.Xor a b = word_xor a b
operated operator.Same a b = bit (word_same a b)
operated operator.Differs a b = bit (not (word_same a b))
operated operator.Less a b = bit (word_less a b)
operated operator.UpTo a b = bit (not (word_less b a))
operated operator.Shl a b = word_shl a b
operated operator.Shr a b = word_shr a b

-- the bits of the words, those of the first one most significant
abbrev pub joined : List Bits → Bits
joined [] = bit false
joined (w ∷ []) = w
joined (w ∷ v ∷ ws) = word_concat w (joined (v ∷ ws))

-- the word of a side, where atoms have these
abbrev pub side_word : (Atom → Bits) → Side → Bits
side_word word (side.Is a) = word a
side_word word (side.Not a) = word_not (word a)
side_word word (side.Two o a b) = operated o (word a) (word b)
side_word word (side.LessSigned a b) = bit (word_less_signed (word a) (word b))
side_word word (side.UpToSigned a b) = bit (not (word_less_signed (word b) (word a)))
side_word word (side.ShiftSigned a b) = word_sar (word a) (word b)
side_word word (side.Pick t a b) = (if nat_eq (word t).value 1 then word a else word b)
side_word word (side.Join parts) = joined (map word parts)
side_word word (side.Slice a high low) = word_slice (word a) high low

-- ---- clocks

-- what the registers begin with
abbrev pub initial : VModuleData → List Bits
initial c = map (λ r. r.start) c.registers

-- the reset sets the registers that it lists, and leaves the others
abbrev pub reset_words : List VRegister → List Bits → List Bits
reset_words (r ∷ rs) (w ∷ ws) = (if r.resets then r.start else w) ∷ reset_words rs ws
reset_words _ _ = []

-- one clock: the registers before the edge, the inputs, whether `RST_N` is 1, the words of the nets, and the
-- registers after the edge
pub record VClock (c : VModuleData) (registers : List Bits) (inputs : Inputs) (rst_n : Bool) (nets : Nets) (nexts : List Bits) : Type 0 where
  -- every assignment is true as an equation
  pub assigned : (line : ℕ) (x : Assign) → slice_get c.assigns line ≡ Some x → nets x.target ≡ side_word (atom_word registers inputs nets) x.side
  pub edge : nexts ≡ (if rst_n then map (atom_word registers inputs nets) c.nexts else reset_words c.registers registers)
