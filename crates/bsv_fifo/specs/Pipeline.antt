-- A queue of depth 1 that takes an item in the clock in which its item goes (Bluespec reference guide,
-- mkPipelineFIFO).
--
--   `first`, `notEmpty` SB `deq`; `first`, `notEmpty` SB `enq`
--   `deq` SB `notFull`; `deq` SB `enq`; `notFull` SB `enq`; `enq` and `notFull` see `deq`
--   `enq` C `enq`; `deq` C `deq`; each other method SB `clear`; `clear` SBR `clear`
--   ranks: `deq` 1, `enq` 2, `clear` 3
use Rattle.std.specs.Prelude.{ℕ, zero, suc, Bool, true, false}
use Rattle.bsv_bits.specs.declared.operator.Operator.TheVariants.{Or}
use Rattle.bsv_prim.specs.Shape.{Shape, Given, IsCalled, Both, Chosen}
use Rattle.bsv_prim.specs.Registers.{always}
use Rattle.bsv_prim.specs.Table.{Table}
use Rattle.bsv_prim.specs.declared.primitive.Rel.{Rel}
use Rattle.bsv_prim.specs.declared.primitive.Rel.TheVariants.{Cf, Sb, Sa, Sbr, C}
use Rattle.bsv_fifo.specs.declared.method.Method.{Method}
use Rattle.bsv_fifo.specs.declared.method.Method.TheVariants.{Enq, Deq, First, NotFull, NotEmpty, Clear}
use Rattle.bsv_fifo.specs.QueueTable.{QueueRow, queue_table, count, number, has_room, has_item, newest_item}

abbrev pub pipeline_relation : Method → Method → Rel
pipeline_relation Enq Enq = C
pipeline_relation Enq Clear = Sb
pipeline_relation Enq _ = Sa
pipeline_relation Deq Enq = Sb
pipeline_relation Deq Deq = C
pipeline_relation Deq First = Sa
pipeline_relation Deq NotFull = Sb
pipeline_relation Deq NotEmpty = Sa
pipeline_relation Deq Clear = Sb
pipeline_relation First Enq = Sb
pipeline_relation First Deq = Sb
pipeline_relation First Clear = Sb
pipeline_relation First _ = Cf
pipeline_relation NotFull Enq = Sb
pipeline_relation NotFull Deq = Sa
pipeline_relation NotFull Clear = Sb
pipeline_relation NotFull _ = Cf
pipeline_relation NotEmpty Enq = Sb
pipeline_relation NotEmpty Deq = Sb
pipeline_relation NotEmpty Clear = Sb
pipeline_relation NotEmpty _ = Cf
pipeline_relation Clear Clear = Sbr
pipeline_relation Clear _ = Sa

abbrev pub pipeline_sees : Method → Method → Bool
pipeline_sees Deq Enq = true
pipeline_sees Deq NotFull = true
pipeline_sees _ _ = false

abbrev pub pipeline_rank : Method → ℕ
pipeline_rank Deq = 1
pipeline_rank Enq = 2
pipeline_rank Clear = 3
pipeline_rank _ = 0

-- there is room, or the item goes
abbrev pub has_or_gets_room : Shape
has_or_gets_room = Both Or (has_room 1) (IsCalled 1)

abbrev pub pipeline_guard_piece : Method → Shape
pipeline_guard_piece Enq = has_or_gets_room
pipeline_guard_piece Deq = has_item 1
pipeline_guard_piece First = has_item 1
pipeline_guard_piece _ = always

abbrev pub pipeline_result_piece : Method → Shape
pipeline_result_piece First = Given 1
pipeline_result_piece NotFull = has_or_gets_room
pipeline_result_piece NotEmpty = has_item 1
pipeline_result_piece _ = always

-- an item that comes stays, though the earlier one goes
abbrev pub pipeline_next_piece : ℕ → Shape
pipeline_next_piece zero =
    Chosen (IsCalled 5) (number 1 0) (Chosen (IsCalled 0) (number 1 1) (Chosen (IsCalled 1) (number 1 0) count))
pipeline_next_piece (suc place) = newest_item

abbrev pub pipeline_row : ℕ → QueueRow
pipeline_row width = record {
  width = width;
  depth = 1;
  relation = pipeline_relation;
  sees = pipeline_sees;
  rank = pipeline_rank;
  guard_piece = pipeline_guard_piece;
  result_piece = pipeline_result_piece;
  next_piece = pipeline_next_piece;
}

abbrev pub pipeline_table : ℕ → Table
pipeline_table width = queue_table (pipeline_row width)
