-- A register file (Bluespec libraries reference guide, RegFile and mkRegFileFull): as many words as
-- an address of its width names. Method 0 is `sub`, method 1 `upd`. The guide leaves the first
-- contents open; here they are 0.
--
--   `sub(a)`: word a; `upd(a, v)`, rank 1: word a becomes v; both are always ready
--   `sub` CF `sub`; `sub` SB `upd`; `upd` C `upd`; nothing is seen
use Rattle.std.specs.Prelude.{◌≡◌, ℕ, zero, suc, ◌-◌, ◌^◌, ◌<◌, true, false, List, [], length, replicate, slice_set, slice_index_or}
use Rattle.bsv_bits.specs.Words.{Bits, zero_word}
use Rattle.bsv_bits.specs.declared.operator.Operator.TheVariants.{And, Same}
use Rattle.bsv_prim.specs.QueueState.{QueueState}
use Rattle.bsv_prim.specs.Shape.{Shape, Given, IsCalled, ArgumentOf, Fixed, Both, Chosen}
use Rattle.bsv_prim.specs.Registers.{read_or_write, always}
use Rattle.bsv_prim.specs.Table.{Table, IsWordOf, word_at}
use Rattle.bsv_prim.specs.declared.part.Part.{Part}
use Rattle.bsv_prim.specs.declared.part.Part.TheVariants.{Number, Held, Queue}
use Rattle.bsv_prim.specs.declared.primitive.Rel.{Rel}
use Rattle.bsv_prim.specs.declared.primitive.Rel.TheVariants.{Cf, Sb, Sa, C}

-- the words of a file; none where the part is of another shape
abbrev pub words_of : Part → List Bits
words_of (Number w) = []
words_of (Held o) = []
words_of (Queue q) = q.items

-- exactly so many words of this width
pub record FitsWords (width count : ℕ) (q : QueueState) : Type 0 where
  pub same_depth : q.depth ≡ count
  pub full : length q.items ≡ count
  pub words : (k : ℕ) → k < length q.items → IsWordOf width (word_at q.items k)

abbrev pub FitsFile : ℕ → ℕ → Part → Type 0
FitsFile width count (Number w) = ⊥
FitsFile width count (Held o) = ⊥
FitsFile width count (Queue q) = FitsWords width count q

-- the file whose words are all 0
abbrev pub zero_file : ℕ → ℕ → QueueState
zero_file width count = record { items = replicate count (zero_word width); depth = count }

-- the word that the first argument names; 0 where there is none
abbrev pub word_named : ℕ → List Bits → List Bits → Bits
word_named width words args = slice_index_or words (word_at args 0).value (zero_word width)

-- the words with the second argument in the place that the first one names
abbrev pub with_word : List Bits → List Bits → List Bits
with_word words args = slice_set words (word_at args 0).value (word_at args 1)

abbrev pub file_apply : ℕ → Part → List Bits → Part
file_apply zero p args = p
file_apply (suc m) (Number w) args = Number w
file_apply (suc m) (Held o) args = Held o
file_apply (suc m) (Queue q) args = Queue (record q { items = with_word q.items args })

-- the address comes first, and then the word
abbrev pub file_argument_width : ℕ → ℕ → ℕ → ℕ
file_argument_width width address zero = address
file_argument_width width address (suc k) = width

abbrev pub file_rank : ℕ → ℕ
file_rank = read_or_write 0 1

abbrev pub file_relation : ℕ → ℕ → Rel
file_relation zero zero = Cf
file_relation zero (suc n) = Sb
file_relation (suc m) zero = Sa
file_relation (suc m) (suc n) = C

-- the address in a call of a method is a register's number
abbrev pub names : ℕ → ℕ → ℕ → Shape
names address m r = Both Same (ArgumentOf m 0) (Fixed (record { width = address; value = r }))

-- the register that the address of `sub` names, among those up to a last one
abbrev pub named_register : ℕ → ℕ → Shape
named_register address zero = Given 0
named_register address (suc r) =
    Chosen (names address 0 (suc r)) (Given (suc r)) (named_register address r)

-- the word that a register is updated with, or else its own
abbrev pub next_word : ℕ → ℕ → Shape
next_word address r =
    Chosen (Both And (IsCalled 1) (names address 1 r)) (ArgumentOf 1 1) (Given r)

-- a file of words of a width, which addresses of a width name
abbrev pub file_table : ℕ → ℕ → Table
file_table width address = record {
  methods = 2;
  arity = read_or_write 1 2;
  argument_width = λ m k. file_argument_width width address k;
  result_width = λ m. width;
  is_action = read_or_write false true;
  opening = Queue (zero_file width (2 ^ address));
  Fits = FitsFile width (2 ^ address);
  emptied = λ p. p;
  guarded = λ m. false;
  guard = λ m p. true;
  result = λ m p args. word_named width (words_of p) args;
  apply = file_apply;
  rank = file_rank;
  relation = file_relation;
  sees = λ m n. false;
  registers = 2 ^ address;
  register_width = λ r. width;
  register_start = λ r. zero_word width;
  register_resets = λ r. true;
  Shows = λ p registers. (r : ℕ) → r < 2 ^ address → registers r ≡ word_at (words_of p) r;
  guard_piece = λ m. always;
  result_piece = λ m. named_register address (2 ^ address - 1);
  next_piece = next_word address;
}
