-- The registers of a queue with at most one item.
-- Proof alone: it is in specs/ since the `laws` of an impl may cite nothing of proofs/.
use Rattle.std.proofs.Common.{◌≡◌, ℕ, zero, suc, ◌<◌, Bool, true, false, List, [], ◌∷◌, refl, arith, Some}
use Rattle.std.specs.Prelude.{if◌then◌else◌}
use Rattle.bsv_bits.specs.Words.{Bits, bit}
use Rattle.bsv_bits.specs.Operators.{operate}
use Rattle.bsv_bits.specs.declared.operator.Operator.TheVariants.{Or}
use Rattle.bsv_prim.specs.Signals.{Signals, word_of}
use Rattle.bsv_prim.specs.Table.{word_at}
use Rattle.bsv_fifo.specs.Queues.{ShowsItems}
use Rattle.bsv_fifo.specs.QueueTable.{newest_item}
use Rattle.bsv_fifo.specs.QueueLaws.{IsTold}

pub or_bits : (a b : Bool) → operate Or (bit a) (bit b) ≡ bit (if a then true else b)
or_bits true true = refl
or_bits true false = refl
or_bits false true = refl
or_bits false false = refl

pub or_false : (a : Bool) → (if a then true else false) ≡ a
or_false true = refl
or_false false = refl

pub or_true : (a : Bool) → (if a then true else true) ≡ true
or_true true = refl
or_true false = refl

-- the item that comes is taken
pub taken : (args : List Bits) (v : Signals) → IsTold v 0 1 (Some args) → (i : ℕ) → i < 1 → word_of v newest_item ≡ word_at (word_at args 0 ∷ []) i
taken args v w zero h = rw w.0 (w.1 0 (omega arith))
taken args v w (suc i) h = absurd (omega arith)

-- an item stays where none comes
pub kept_item : (x : Bits) (v : Signals) → ShowsItems 1 (x ∷ []) v.register → v.called 0 ≡ false → (i : ℕ) → i < 1 → word_of v newest_item ≡ word_at (x ∷ []) i
kept_item x v s w zero h = rw w (s.item 0 (omega arith))
kept_item x v s w (suc i) h = absurd (omega arith)
