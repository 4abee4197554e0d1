-- Wires (Bluespec reference guide, mkWire, mkDWire, mkRWire and mkPulseWire). Method 0 is the write
-- (`_write`, `wset`, `send`), method 1 the read (`_read`, `wget`).
--
--   Wire    `_write(v)`, rank 1: filled with v; `_read`, ready where filled: v
--   DWire   the same; `_read` always ready, the default where empty
--   RWire   `wset(v)`, rank 1; `wget`: Valid v or Invalid, always ready
--   Pulse   `send`, rank 1; `_read`: True where sent, always ready
--   all     the write C itself, and SB the read, which sees it; empty at each clock's start
use Rattle.std.specs.Prelude.{ℕ, zero, suc, ◌+◌, Bool, true, false, List, Option, Some, None, is_some}
use Rattle.bsv_bits.specs.Words.{Bits, bit, zero_word, word_concat}
use Rattle.bsv_prim.specs.Shape.{Shape, IsCalled, ArgumentOf, Fixed, Chosen, Joined}
use Rattle.bsv_prim.specs.Table.{Table, IsWordOf, word_at}
use Rattle.bsv_prim.specs.Registers.{always}
use Rattle.bsv_prim.specs.declared.part.Part.{Part}
use Rattle.bsv_prim.specs.declared.part.Part.TheVariants.{Number, Held, Queue}
use Rattle.bsv_prim.specs.declared.primitive.Rel.{Rel}
use Rattle.bsv_prim.specs.declared.primitive.Rel.TheVariants.{Cf, Sb, Sa, C}

-- what stands for the write, and what for the read
abbrev pub write_or_read : {A : Type 0} → A → A → ℕ → A
write_or_read write read zero = write
write_or_read write read (suc m) = read

-- what a part holds; nothing where the part is of another shape
abbrev pub held_in : Part → Option Bits
held_in (Number w) = None
held_in (Held o) = o
held_in (Queue q) = None

abbrev pub FitsOption : ℕ → Option Bits → Type 0
FitsOption width None = Unit {0}
FitsOption width (Some w) = IsWordOf width w

abbrev pub FitsHeld : ℕ → Part → Type 0
FitsHeld width (Number w) = ⊥
FitsHeld width (Held o) = FitsOption width o
FitsHeld width (Queue q) = ⊥

-- what a write of this arity fills a wire with: its argument, or the bit 1
abbrev pub sent : ℕ → List Bits → Bits
sent zero args = bit true
sent (suc n) args = word_at args 0

abbrev pub wire_apply : ℕ → ℕ → Part → List Bits → Part
wire_apply arity zero p args = Held (Some (sent arity args))
wire_apply arity (suc m) p args = p

-- a read may need a filled wire
abbrev pub read_guard : Bool → Part → Bool
read_guard true p = is_some (held_in p)
read_guard false p = true

abbrev pub wire_guard : Bool → ℕ → Part → Bool
wire_guard needs zero p = true
wire_guard needs (suc m) p = read_guard needs p

abbrev pub read_piece : Bool → Shape
read_piece true = IsCalled 0
read_piece false = always

abbrev pub wire_rank : ℕ → ℕ
wire_rank = write_or_read 1 0

abbrev pub wire_relation : ℕ → ℕ → Rel
wire_relation zero zero = C
wire_relation zero (suc n) = Sb
wire_relation (suc m) zero = Sa
wire_relation (suc m) (suc n) = Cf

-- in what the wires differ: the width of what one holds, the arity of the write, whether the read
-- needs a filled wire, the width of what it answers, the answer, and its piece
pub record WireRow : Type 0 where
  pub width : ℕ
  pub arity : ℕ
  pub needs : Bool
  pub answer_width : ℕ
  pub answer : Option Bits → Bits
  pub piece : Shape

abbrev pub wire_table : WireRow → Table
wire_table row = record {
  methods = 2;
  arity = write_or_read row.arity 0;
  argument_width = λ m k. row.width;
  result_width = λ m. row.answer_width;
  is_action = write_or_read true false;
  opening = Held None;
  Fits = FitsHeld row.width;
  emptied = λ p. Held None;
  guarded = write_or_read false row.needs;
  guard = wire_guard row.needs;
  result = λ m p args. row.answer (held_in p);
  apply = wire_apply row.arity;
  rank = wire_rank;
  relation = wire_relation;
  sees = λ m n. write_or_read (write_or_read false true n) false m;
  registers = 0;
  register_width = λ r. 1;
  register_start = λ r. zero_word 1;
  register_resets = λ r. false;
  Shows = λ p registers. Unit {0};
  guard_piece = write_or_read always (read_piece row.needs);
  result_piece = λ m. row.piece;
  next_piece = λ r. always;
}

-- the held word, or else another
abbrev pub or_else : Bits → Option Bits → Bits
or_else w None = w
or_else w (Some x) = x

abbrev pub or_else_piece : Bits → Shape
or_else_piece w = Chosen (IsCalled 0) (ArgumentOf 0 0) (Fixed w)

-- Valid of the held word, which is a 1 above it; or else Invalid, whose bits are all 0
abbrev pub valid_or_invalid : ℕ → Option Bits → Bits
valid_or_invalid width None = zero_word (width + 1)
valid_or_invalid width (Some x) = word_concat (bit true) x

abbrev pub valid_piece : ℕ → Shape
valid_piece width = Chosen (IsCalled 0) (Joined (Fixed (bit true)) (ArgumentOf 0 0)) (Fixed (zero_word (width + 1)))

-- True where something is held
abbrev pub is_filled : Option Bits → Bits
is_filled o = bit (is_some o)

abbrev pub wire_row : ℕ → WireRow
wire_row width = record {
  width = width;
  arity = 1;
  needs = true;
  answer_width = width;
  answer = or_else (zero_word width);
  piece = or_else_piece (zero_word width);
}

abbrev pub dwire_row : ℕ → Bits → WireRow
dwire_row width default = record {
  width = width;
  arity = 1;
  needs = false;
  answer_width = width;
  answer = or_else default;
  piece = or_else_piece default;
}

abbrev pub rwire_row : ℕ → WireRow
rwire_row width = record {
  width = width;
  arity = 1;
  needs = false;
  answer_width = width + 1;
  answer = valid_or_invalid width;
  piece = valid_piece width;
}

abbrev pub pulse_row : WireRow
pulse_row = record {
  width = 1;
  arity = 0;
  needs = false;
  answer_width = 1;
  answer = is_filled;
  piece = IsCalled 0;
}
