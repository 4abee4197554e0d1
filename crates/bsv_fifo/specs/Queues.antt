-- Queues (Bluespec reference guide, FIFO and FIFOF): lists with a depth.
--
--   0 `enq(v)`     ready where not full; appends v
--   1 `deq`        ready where not empty; drops the front
--   2 `first`      ready where not empty; gives the front
--   3 `notFull`    always ready
--   4 `notEmpty`   always ready
--   5 `clear`      always ready; drops all items
use Rattle.std.specs.Prelude.{◌≡◌, ℕ, zero, suc, ◌+◌, ◌^◌, ◌<◌, ◌≤◌, Bool, true, false, nat_lt, if◌then◌else◌, List, [], ◌∷◌, ◌++◌, length, drop, slice_index_or}
use Rattle.bsv_bits.specs.Words.{Bits, bit, zero_word}
use Rattle.bsv_prim.specs.Table.{IsWordOf, word_at}
use Rattle.bsv_prim.specs.QueueState.{QueueState}
use Rattle.bsv_prim.specs.declared.part.Part.{Part}
use Rattle.bsv_prim.specs.declared.part.Part.TheVariants.{Number, Held, Queue}
use Rattle.bsv_fifo.specs.declared.method.Method.{Method}
use Rattle.bsv_fifo.specs.declared.method.Method.TheVariants.{Enq, Deq, First, NotFull, NotEmpty, Clear}

-- the methods in the order of their numbers
abbrev pub queue_method : ℕ → Method
queue_method zero = Enq
queue_method (suc zero) = Deq
queue_method (suc (suc zero)) = First
queue_method (suc (suc (suc zero))) = NotFull
queue_method (suc (suc (suc (suc zero)))) = NotEmpty
queue_method (suc (suc (suc (suc (suc m))))) = Clear

abbrev pub queue_arity : Method → ℕ
queue_arity Enq = 1
queue_arity _ = 0

-- the methods that are actions
abbrev pub changes : Method → Bool
changes Enq = true
changes Deq = true
changes First = false
changes NotFull = false
changes NotEmpty = false
changes Clear = true

-- the methods with a guard
abbrev pub waits : Method → Bool
waits Enq = true
waits Deq = true
waits First = true
waits NotFull = false
waits NotEmpty = false
waits Clear = false

abbrev pub queue_guard : ℕ → Method → List Bits → Bool
queue_guard depth Enq items = nat_lt (length items) depth
queue_guard depth Deq items = nat_lt 0 (length items)
queue_guard depth First items = nat_lt 0 (length items)
queue_guard depth NotFull items = true
queue_guard depth NotEmpty items = true
queue_guard depth Clear items = true

abbrev pub queue_result_width : ℕ → Method → ℕ
queue_result_width width First = width
queue_result_width width _ = 1

-- the front, and 0 where there is none
abbrev pub front : ℕ → List Bits → Bits
front width items = slice_index_or items 0 (zero_word width)

-- an action answers nothing, for which a bit 0 stands
abbrev pub queue_result : ℕ → ℕ → Method → List Bits → Bits
queue_result width depth First items = front width items
queue_result width depth NotFull items = bit (nat_lt (length items) depth)
queue_result width depth NotEmpty items = bit (nat_lt 0 (length items))
queue_result width depth Enq items = zero_word 1
queue_result width depth Deq items = zero_word 1
queue_result width depth Clear items = zero_word 1

-- the items after a call
abbrev pub changed : Method → List Bits → List Bits → List Bits
changed Enq items args = items ++ word_at args 0 ∷ []
changed Deq items args = drop 1 items
changed First items args = items
changed NotFull items args = items
changed NotEmpty items args = items
changed Clear items args = []

-- the items of a part; none where the part is of another shape
abbrev pub items_of : Part → List Bits
items_of (Number w) = []
items_of (Held o) = []
items_of (Queue q) = q.items

abbrev pub queue_apply : Method → Part → List Bits → Part
queue_apply m (Number w) args = Number w
queue_apply m (Held o) args = Held o
queue_apply m (Queue q) args = Queue (record q { items = changed m q.items args })

-- a queue of this depth, with words of this width
pub record FitsState (width depth : ℕ) (q : QueueState) : Type 0 where
  pub same_depth : q.depth ≡ depth
  pub within : length q.items ≤ depth
  pub words : (k : ℕ) → k < length q.items → IsWordOf width (word_at q.items k)

abbrev pub FitsQueue : ℕ → ℕ → Part → Type 0
FitsQueue width depth (Number w) = ⊥
FitsQueue width depth (Held o) = ⊥
FitsQueue width depth (Queue q) = FitsState width depth q

-- the least width, from this one on, in which a number is a word; so many more are tried
abbrev pub least_width : ℕ → ℕ → ℕ → ℕ
least_width zero width number = width
least_width (suc more) width number =
    if nat_lt number (2 ^ width) then width else least_width more (width + 1) number

-- the least width that holds a depth, which is at most 64
abbrev pub count_width : ℕ → ℕ
count_width depth = least_width 6 1 depth

-- the first register is the number of items, and the next ones are the items from the front; those
-- after the last item are free
pub record ShowsItems (depth : ℕ) (items : List Bits) (registers : ℕ → Bits) : Type 0 where
  pub count : registers 0 ≡ record { width = count_width depth; value = length items }
  pub item : (i : ℕ) → i < length items → registers (suc i) ≡ word_at items i

abbrev pub queue_register_width : ℕ → ℕ → ℕ → ℕ
queue_register_width width depth zero = count_width depth
queue_register_width width depth (suc i) = width
