-- The table of every queue, and the pieces that several queues have.
use Rattle.std.specs.Prelude.{ℕ, ◌+◌, Bool, true, []}
use Rattle.bsv_bits.specs.Words.{zero_word}
use Rattle.bsv_bits.specs.declared.operator.Operator.TheVariants.{Less}
use Rattle.bsv_prim.specs.Shape.{Shape, Given, IsCalled, ArgumentOf, Fixed, Both, Chosen}
use Rattle.bsv_prim.specs.Table.{Table}
use Rattle.bsv_prim.specs.declared.part.Part.TheVariants.{Queue}
use Rattle.bsv_prim.specs.declared.primitive.Rel.{Rel}
use Rattle.bsv_fifo.specs.declared.method.Method.{Method}
use Rattle.bsv_fifo.specs.Queues.{queue_method, queue_arity, changes, waits, queue_guard, queue_result_width, queue_result, queue_apply, items_of, FitsQueue, count_width, ShowsItems, queue_register_width}

-- in what the queues differ: the width of a word, the depth, how the methods stand to one another,
-- and the pieces
pub record QueueRow : Type 0 where
  pub width : ℕ
  pub depth : ℕ
  pub relation : Method → Method → Rel
  pub sees : Method → Method → Bool
  pub rank : Method → ℕ
  pub guard_piece : Method → Shape
  pub result_piece : Method → Shape
  pub next_piece : ℕ → Shape

abbrev pub queue_table : QueueRow → Table
queue_table row = record {
  methods = 6;
  arity = λ m. queue_arity (queue_method m);
  argument_width = λ m k. row.width;
  result_width = λ m. queue_result_width row.width (queue_method m);
  is_action = λ m. changes (queue_method m);
  opening = Queue (record { items = []; depth = row.depth });
  Fits = FitsQueue row.width row.depth;
  emptied = λ p. p;
  guarded = λ m. waits (queue_method m);
  guard = λ m p. queue_guard row.depth (queue_method m) (items_of p);
  result = λ m p args. queue_result row.width row.depth (queue_method m) (items_of p);
  apply = λ m p args. queue_apply (queue_method m) p args;
  rank = λ m. row.rank (queue_method m);
  relation = λ m n. row.relation (queue_method m) (queue_method n);
  sees = λ m n. row.sees (queue_method m) (queue_method n);
  registers = row.depth + 1;
  register_width = queue_register_width row.width row.depth;
  register_start = λ r. zero_word (queue_register_width row.width row.depth r);
  register_resets = λ r. true;
  Shows = λ p registers. ShowsItems row.depth (items_of p) registers;
  guard_piece = λ m. row.guard_piece (queue_method m);
  result_piece = λ m. row.result_piece (queue_method m);
  next_piece = row.next_piece;
}

-- the number of items
abbrev pub count : Shape
count = Given 0

-- a number as wide as the count
abbrev pub number : ℕ → ℕ → Shape
number depth n = Fixed (record { width = count_width depth; value = n })

-- there are fewer items than the depth
abbrev pub has_room : ℕ → Shape
has_room depth = Both Less count (number depth depth)

-- there are more items than none
abbrev pub has_item : ℕ → Shape
has_item depth = Both Less (number depth 0) count

-- the item that comes, or else that of the first item's register
abbrev pub newest_item : Shape
newest_item = Chosen (IsCalled 0) (ArgumentOf 0 0) (Given 1)
