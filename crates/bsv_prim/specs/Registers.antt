-- Registers (Bluespec reference guide, mkReg and mkRegU). Method 0 is `_read`, method 1 `_write`.
--
--   Reg, RegU   `_read`: the number; `_write(v)`, rank 1: the number becomes v
--               `_read` SB `_write`; `_write` SBR `_write`; nothing is seen
use Rattle.std.specs.Prelude.{◌≡◌, ℕ, zero, suc, ◌+◌, ◌*◌, ◌%◌, ◌^◌, Bool, true, false, List}
use Rattle.bsv_bits.specs.Words.{Bits, bit, zero_word}
use Rattle.bsv_prim.specs.Shape.{Shape, Given, IsCalled, ArgumentOf, Fixed, Chosen}
use Rattle.bsv_prim.specs.Table.{Table, IsWordOf, word_at}
use Rattle.bsv_prim.specs.declared.part.Part.{Part}
use Rattle.bsv_prim.specs.declared.part.Part.TheVariants.{Number, Held, Queue}
use Rattle.bsv_prim.specs.declared.primitive.Rel.{Rel}
use Rattle.bsv_prim.specs.declared.primitive.Rel.TheVariants.{Cf, Sb, Sa, Sbr}

-- what stands for `_read`, and what for `_write`
abbrev pub read_or_write : {A : Type 0} → A → A → ℕ → A
read_or_write read write zero = read
read_or_write read write (suc m) = write

abbrev pub FitsNumber : ℕ → Part → Type 0
FitsNumber width (Number w) = IsWordOf width w
FitsNumber width (Held o) = ⊥
FitsNumber width (Queue q) = ⊥

-- the number of a part; 0 where the part is of another shape
abbrev pub number_in : ℕ → Part → Bits
number_in width (Number w) = w
number_in width (Held o) = zero_word width
number_in width (Queue q) = zero_word width

abbrev pub register_apply : ℕ → Part → List Bits → Part
register_apply zero p args = p
register_apply (suc m) p args = Number (word_at args 0)

abbrev pub register_rank : ℕ → ℕ
register_rank = read_or_write 0 1

abbrev pub register_relation : ℕ → ℕ → Rel
register_relation zero zero = Cf
register_relation zero (suc n) = Sb
register_relation (suc m) zero = Sa
register_relation (suc m) (suc n) = Sbr

-- the bit that is always 1: the piece of a guard that is always true
abbrev pub always : Shape
always = Fixed (bit true)

-- the piece of a register's next number: the written word, or else its own
abbrev pub next_number : Shape
next_number = Chosen (IsCalled 1) (ArgumentOf 1 0) (Given 0)

-- a register of a width, with its start, that a reset sets or leaves
abbrev pub register_table : ℕ → Bits → Bool → Table
register_table width start resets = record {
  methods = 2;
  arity = read_or_write 0 1;
  argument_width = λ m k. width;
  result_width = λ m. width;
  is_action = read_or_write false true;
  opening = Number start;
  Fits = FitsNumber width;
  emptied = λ p. p;
  guarded = λ m. false;
  guard = λ m p. true;
  result = λ m p args. number_in width p;
  apply = register_apply;
  rank = register_rank;
  relation = register_relation;
  sees = λ m n. false;
  registers = 1;
  register_width = λ r. width;
  register_start = λ r. start;
  register_resets = λ r. resets;
  Shows = λ p registers. registers 0 ≡ number_in width p;
  guard_piece = λ m. always;
  result_piece = λ m. Given 0;
  next_piece = λ r. next_number;
}

abbrev pub reg_table : ℕ → Bits → Table
reg_table width start = register_table width start true

-- the number of so many bits whose bit i is 1 exactly for odd i
abbrev pub odd_bits : ℕ → ℕ
odd_bits zero = 0
odd_bits (suc i) = odd_bits i + i % 2 * 2 ^ i

-- the start of a register without one
abbrev pub unset_start : ℕ → Bits
unset_start width = record { width = width; value = odd_bits width }

abbrev pub regu_table : ℕ → Table
regu_table width = register_table width (unset_start width) false
