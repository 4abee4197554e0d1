-- A queue of depth 1 through which an item passes in one clock (Bluespec reference guide, mkBypassFIFO).
--
--   `notFull` SB `enq`; `notFull` SB `deq`; `enq` SB `first`, `notEmpty`, `deq`
--   `first`, `notEmpty` SB `deq`; `first`, `notEmpty` and `deq` see `enq`
--   `enq` C `enq`; `deq` C `deq`; each other method SB `clear`; `clear` SBR `clear`
--   ranks: `enq` 1, `deq` 2, `clear` 3
use Rattle.std.specs.Prelude.{ℕ, zero, suc, Bool, true, false}
use Rattle.bsv_bits.specs.declared.operator.Operator.TheVariants.{Or}
use Rattle.bsv_prim.specs.Shape.{Shape, Given, IsCalled, ArgumentOf, Both, Chosen}
use Rattle.bsv_prim.specs.Registers.{always}
use Rattle.bsv_prim.specs.Table.{Table}
use Rattle.bsv_prim.specs.declared.primitive.Rel.{Rel}
use Rattle.bsv_prim.specs.declared.primitive.Rel.TheVariants.{Cf, Sb, Sa, Sbr, C}
use Rattle.bsv_fifo.specs.declared.method.Method.{Method}
use Rattle.bsv_fifo.specs.declared.method.Method.TheVariants.{Enq, Deq, First, NotFull, NotEmpty, Clear}
use Rattle.bsv_fifo.specs.QueueTable.{QueueRow, queue_table, count, number, has_room, has_item, newest_item}

abbrev pub bypass_relation : Method → Method → Rel
bypass_relation Enq Enq = C
bypass_relation Enq NotFull = Sa
bypass_relation Enq _ = Sb
bypass_relation Deq Deq = C
bypass_relation Deq Clear = Sb
bypass_relation Deq _ = Sa
bypass_relation First Enq = Sa
bypass_relation First Deq = Sb
bypass_relation First Clear = Sb
bypass_relation First _ = Cf
bypass_relation NotFull Enq = Sb
bypass_relation NotFull Deq = Sb
bypass_relation NotFull Clear = Sb
bypass_relation NotFull _ = Cf
bypass_relation NotEmpty Enq = Sa
bypass_relation NotEmpty Deq = Sb
bypass_relation NotEmpty Clear = Sb
bypass_relation NotEmpty _ = Cf
bypass_relation Clear Clear = Sbr
bypass_relation Clear _ = Sa

abbrev pub bypass_sees : Method → Method → Bool
bypass_sees Enq First = true
bypass_sees Enq NotEmpty = true
bypass_sees Enq Deq = true
bypass_sees _ _ = false

abbrev pub bypass_rank : Method → ℕ
bypass_rank Enq = 1
bypass_rank Deq = 2
bypass_rank Clear = 3
bypass_rank _ = 0

-- there is an item, or one comes
abbrev pub has_or_gets_item : Shape
has_or_gets_item = Both Or (has_item 1) (IsCalled 0)

abbrev pub bypass_guard_piece : Method → Shape
bypass_guard_piece Enq = has_room 1
bypass_guard_piece Deq = has_or_gets_item
bypass_guard_piece First = has_or_gets_item
bypass_guard_piece _ = always

-- the front is the item that was there, or else the one that comes
abbrev pub first_or_newest : Shape
first_or_newest = Chosen (has_item 1) (Given 1) (ArgumentOf 0 0)

abbrev pub bypass_result_piece : Method → Shape
bypass_result_piece First = first_or_newest
bypass_result_piece NotFull = has_room 1
bypass_result_piece NotEmpty = has_or_gets_item
bypass_result_piece _ = always

-- where the front goes, none is left, also where it came in this clock
abbrev pub bypass_next_piece : ℕ → Shape
bypass_next_piece zero =
    Chosen (IsCalled 5) (number 1 0) (Chosen (IsCalled 1) (number 1 0) (Chosen (IsCalled 0) (number 1 1) count))
bypass_next_piece (suc place) = newest_item

abbrev pub bypass_row : ℕ → QueueRow
bypass_row width = record {
  width = width;
  depth = 1;
  relation = bypass_relation;
  sees = bypass_sees;
  rank = bypass_rank;
  guard_piece = bypass_guard_piece;
  result_piece = bypass_result_piece;
  next_piece = bypass_next_piece;
}

abbrev pub bypass_table : ℕ → Table
bypass_table width = queue_table (bypass_row width)
