-- A queue whose methods see no call of the same clock (Bluespec reference guide, mkFIFO, mkSizedFIFO).
--
--   `first` CF `enq`; `enq` CF `deq`
--   `notFull`, `notEmpty` SB `enq`; `first`, `notFull`, `notEmpty` SB `deq`
--   `enq` C `enq`; `deq` C `deq`; each other method SB `clear`; `clear` SBR `clear`
--   ranks: `deq` 1, `enq` 2, `clear` 3
use Rattle.std.specs.Prelude.{ℕ, zero, suc, ◌+◌, false, nat_lt, if◌then◌else◌}
use Rattle.bsv_bits.specs.declared.operator.Operator.TheVariants.{Add, Sub, And, Same}
use Rattle.bsv_prim.specs.Shape.{Shape, Given, IsCalled, ArgumentOf, Both, Chosen}
use Rattle.bsv_prim.specs.Registers.{always}
use Rattle.bsv_prim.specs.Table.{Table}
use Rattle.bsv_prim.specs.declared.primitive.Rel.{Rel}
use Rattle.bsv_prim.specs.declared.primitive.Rel.TheVariants.{Cf, Sb, Sa, Sbr, C}
use Rattle.bsv_fifo.specs.declared.method.Method.{Method}
use Rattle.bsv_fifo.specs.declared.method.Method.TheVariants.{Enq, Deq, First, NotFull, NotEmpty, Clear}
use Rattle.bsv_fifo.specs.QueueTable.{QueueRow, queue_table, count, number, has_room, has_item}

abbrev pub plain_relation : Method → Method → Rel
plain_relation Enq Enq = C
plain_relation Enq Deq = Cf
plain_relation Enq First = Cf
plain_relation Enq NotFull = Sa
plain_relation Enq NotEmpty = Sa
plain_relation Enq Clear = Sb
plain_relation Deq Enq = Cf
plain_relation Deq Deq = C
plain_relation Deq First = Sa
plain_relation Deq NotFull = Sa
plain_relation Deq NotEmpty = Sa
plain_relation Deq Clear = Sb
plain_relation First Enq = Cf
plain_relation First Deq = Sb
plain_relation First Clear = Sb
plain_relation First _ = Cf
plain_relation NotFull Enq = Sb
plain_relation NotFull Deq = Sb
plain_relation NotFull Clear = Sb
plain_relation NotFull _ = Cf
plain_relation NotEmpty Enq = Sb
plain_relation NotEmpty Deq = Sb
plain_relation NotEmpty Clear = Sb
plain_relation NotEmpty _ = Cf
plain_relation Clear Clear = Sbr
plain_relation Clear _ = Sa

abbrev pub plain_rank : Method → ℕ
plain_rank Deq = 1
plain_rank Enq = 2
plain_rank Clear = 3
plain_rank _ = 0

abbrev pub plain_guard_piece : ℕ → Method → Shape
plain_guard_piece depth Enq = has_room depth
plain_guard_piece depth Deq = has_item depth
plain_guard_piece depth First = has_item depth
plain_guard_piece depth _ = always

abbrev pub plain_result_piece : ℕ → Method → Shape
plain_result_piece depth First = Given 1
plain_result_piece depth NotFull = has_room depth
plain_result_piece depth NotEmpty = has_item depth
plain_result_piece depth _ = always

-- one item more, unless the front goes
abbrev pub count_with : ℕ → Shape
count_with depth = Chosen (IsCalled 1) count (Both Add count (number depth 1))

-- one item less, if the front goes
abbrev pub count_without : ℕ → Shape
count_without depth = Chosen (IsCalled 1) (Both Sub count (number depth 1)) count

-- the number of items after the calls
abbrev pub next_count : ℕ → Shape
next_count depth =
    Chosen (IsCalled 5) (number depth 0) (Chosen (IsCalled 0) (count_with depth) (count_without depth))

-- the new item, where it comes and there are so many items; or else the word of a register
abbrev pub filled : ℕ → ℕ → ℕ → Shape
filled depth n register =
    Chosen (Both And (IsCalled 0) (Both Same count (number depth n))) (ArgumentOf 0 0) (Given register)

-- the register of the place after this one, or that of the last place itself
abbrev pub behind : ℕ → ℕ → ℕ
behind depth place = if nat_lt (place + 1) depth then place + 2 else place + 1

-- what is at a place after the calls: where the front goes, each place takes what would have
-- come to the place after it
abbrev pub next_item : ℕ → ℕ → Shape
next_item depth place =
    Chosen (IsCalled 1) (filled depth (place + 1) (behind depth place)) (filled depth place (place + 1))

abbrev pub plain_next_piece : ℕ → ℕ → Shape
plain_next_piece depth zero = next_count depth
plain_next_piece depth (suc place) = next_item depth place

abbrev pub plain_row : ℕ → ℕ → QueueRow
plain_row width depth = record {
  width = width;
  depth = depth;
  relation = plain_relation;
  sees = λ m n. false;
  rank = plain_rank;
  guard_piece = plain_guard_piece depth;
  result_piece = plain_result_piece depth;
  next_piece = plain_next_piece depth;
}

abbrev pub plain_table : ℕ → ℕ → Table
plain_table width depth = queue_table (plain_row width depth)
