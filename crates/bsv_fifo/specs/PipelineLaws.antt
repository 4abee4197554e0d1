-- A pipeline queue keeps the laws.
-- Proof alone: it is in specs/ since the `laws` of an impl may cite nothing of proofs/.
use Rattle.std.proofs.Common.{◌≡◌, ℕ, zero, suc, ◌<◌, ◌≤◌, true, false, List, [], ◌∷◌, length, refl, ap, ◌∙◌, arith, Option, Some, None}
use Rattle.std.specs.Prelude.{◌⊎◌, nat_lt}
use Rattle.std.proofs.lemmas.Bool.{ltb-true}
use Rattle.bsv_bits.specs.Words.{Bits, bit}
use Rattle.bsv_prim.specs.Signals.{Signals, word_of}
use Rattle.bsv_prim.specs.Speaks.{SpeaksOf}
use Rattle.bsv_prim.specs.Widths.{HasWidth}
use Rattle.bsv_prim.specs.Table.{Table}
use Rattle.bsv_prim.specs.Laws.{Laws}
use Rattle.bsv_fifo.specs.declared.method.Method.{Method}
use Rattle.bsv_fifo.specs.declared.method.Method.TheVariants.{Enq, Deq, First, NotFull, NotEmpty, Clear}
use Rattle.bsv_fifo.specs.Queues.{queue_method, changes, queue_guard, queue_result, queue_result_width, ShowsItems, queue_register_width}
use Rattle.bsv_fifo.specs.Pipeline.{pipeline_row, pipeline_table, pipeline_sees, pipeline_guard_piece, pipeline_result_piece, pipeline_next_piece, has_or_gets_room}
use Rattle.bsv_fifo.specs.QueueLists.{without_front, closed}
use Rattle.bsv_fifo.specs.QueueLaws.{IsQueue, IsTold, Seen, Shown, WereReady, front_shown, queue_laws}
use Rattle.bsv_fifo.specs.QueueWidths.{always_has, number_has, room_has, item_has, newest_has}
use Rattle.bsv_fifo.specs.OneItem.{or_bits, or_false, taken, kept_item}

-- ---- guards and results

-- there is room, or the item goes
gets : (xs : List Bits) (d : Option (List Bits)) (v : Signals) → ShowsItems 1 xs v.register → length xs ≤ 1 → IsTold v 1 0 d → word_of v has_or_gets_room ≡ bit (nat_lt (length (without_front d xs)) 1)
gets xs None v s l w =
    rw (s.count, w) (or_bits (nat_lt (length xs) 1) false ∙ ap bit (or_false (nat_lt (length xs) 1)))
gets [] (Some args) v s l w = rw (s.count, w.0) refl
gets (x ∷ []) (Some args) v s l w = rw (s.count, w.0) refl
gets (x ∷ (y ∷ ys)) (Some args) v s l w = absurd (omega arith)

-- `enq` is never seen, and `deq` by `enq` and `notFull` alone
guards : (width : ℕ) (n : Method) (xs : List Bits) (e d : Option (List Bits)) (v : Signals) → Shown (pipeline_row width) xs e d v → Seen (pipeline_row width) n e d → word_of v (pipeline_guard_piece n) ≡ bit (queue_guard 1 n (closed xs e d None))
guards width Enq xs e d v s u = rw (u.enq refl) (gets xs d v s.items s.within s.deq)
guards width Deq xs e d v s u = rw (u.enq refl, u.deq refl, s.items.count) refl
guards width First xs e d v s u = rw (u.enq refl, u.deq refl, s.items.count) refl
guards width NotFull xs e d v s u = refl
guards width NotEmpty xs e d v s u = refl
guards width Clear xs e d v s u = refl

results : (width : ℕ) (n : Method) (xs : List Bits) (e d : Option (List Bits)) (v : Signals) → Shown (pipeline_row width) xs e d v → Seen (pipeline_row width) n e d → changes n ≡ false → queue_guard 1 n (closed xs e d None) ≡ true
    → word_of v (pipeline_result_piece n) ≡ queue_result width 1 n (closed xs e d None)
results width First xs e d v s u a r =
    rw (u.enq refl, u.deq refl) (front_shown width 1 xs v.register s.items (rw (u.enq refl, u.deq refl) at r))
results width NotFull xs e d v s u a r = rw (u.enq refl) (gets xs d v s.items s.within s.deq)
results width NotEmpty xs e d v s u a r = rw (u.enq refl, u.deq refl, s.items.count) refl
results width Enq xs e d v s u a r = cc
results width Deq xs e d v s u a r = cc
results width Clear xs e d v s u a r = cc

-- ---- the next registers

nexts : (width : ℕ) (xs : List Bits) (e d c : Option (List Bits)) (v : Signals) → Shown (pipeline_row width) xs e d v → IsTold v 5 0 c → WereReady (pipeline_row width) xs e d
    → ShowsItems 1 (closed xs e d c) (λ r. word_of v (pipeline_next_piece r))
nexts width xs e d (Some a) v s tc r = record { count = rw tc.0 refl; item = λ i h. absurd (omega arith) }
nexts width [] None None None v s tc r = record {
  count = rw (tc, s.enq, s.deq) s.items.count;
  item = λ i h. absurd (omega arith);
}
nexts width [] e (Some b) None v s tc r =
    let item : nat_lt 0 0 ≡ true = r.deq (λ f. absurd (let x : ⊥ = cc in x)) in
    absurd (let x : ⊥ = cc in x)
nexts width [] (Some a) None None v s tc r = record { count = rw (tc, s.enq.0) refl; item = taken a v s.enq }
nexts width (x ∷ []) None None None v s tc r = record {
  count = rw (tc, s.enq, s.deq) s.items.count;
  item = kept_item x v s.items s.enq;
}
nexts width (x ∷ []) None (Some b) None v s tc r = record {
  count = rw (tc, s.enq, s.deq.0) refl;
  item = λ i h. absurd (omega arith);
}
nexts width (x ∷ []) (Some a) None None v s tc r =
    let room : nat_lt 1 1 ≡ true = r.enq (λ f. refl) in
    absurd (let n : 1 < 1 = ltb-true 1 1 room in omega arith)
nexts width (x ∷ []) (Some a) (Some b) None v s tc r = record { count = rw (tc, s.enq.0) refl; item = taken a v s.enq }
nexts width (x ∷ (y ∷ ys)) e d None v s tc r = absurd (let l = s.within in omega arith)

-- ---- widths

module _ (width : ℕ) where
  abbrev t : Table
  t = pipeline_table width

  gets_has : HasWidth t has_or_gets_room 1
  gets_has =
      (1, 1, room_has (pipeline_row width) (omega arith) (omega arith), (omega arith, refl), refl, refl)

  guard_has : (n : Method) → HasWidth t (pipeline_guard_piece n) 1
  guard_has Enq = gets_has
  guard_has Deq = item_has (pipeline_row width) (omega arith) (omega arith)
  guard_has First = item_has (pipeline_row width) (omega arith) (omega arith)
  guard_has NotFull = always_has (pipeline_row width) (omega arith) (omega arith)
  guard_has NotEmpty = always_has (pipeline_row width) (omega arith) (omega arith)
  guard_has Clear = always_has (pipeline_row width) (omega arith) (omega arith)

  result_has : (n : Method) → changes n ≡ false → HasWidth t (pipeline_result_piece n) (queue_result_width width n)
  result_has First e = (omega arith, refl)
  result_has NotFull e = gets_has
  result_has NotEmpty e = item_has (pipeline_row width) (omega arith) (omega arith)
  result_has Enq e = cc
  result_has Deq e = cc
  result_has Clear e = cc

  next_has : (r : ℕ) → r < 2 → HasWidth t (pipeline_next_piece r) (queue_register_width width 1 r)
  next_has zero h =
      let zero_has = number_has (pipeline_row width) (omega arith) (omega arith) 0 (omega arith) in
      let one_has = number_has (pipeline_row width) (omega arith) (omega arith) 1 (omega arith) in
      ((omega arith, refl), zero_has, ((omega arith, refl), one_has, ((omega arith, refl), zero_has, (omega arith, refl))))
  next_has (suc i) h = newest_has (pipeline_row width) (omega arith) (omega arith)

-- ---- what the pieces speak of

guard_speaks : (n : Method) → SpeaksOf (λ m. pipeline_sees (queue_method m) n ≡ true) (λ m. pipeline_sees (queue_method m) n ≡ true) (pipeline_guard_piece n)
guard_speaks Enq = ((tt, tt), refl)
guard_speaks Deq = (tt, tt)
guard_speaks First = (tt, tt)
guard_speaks NotFull = tt
guard_speaks NotEmpty = tt
guard_speaks Clear = tt

result_speaks : (y : ℕ) (n : Method) → changes n ≡ false → SpeaksOf (λ m. pipeline_sees (queue_method m) n ≡ true) (λ m. (pipeline_sees (queue_method m) n ≡ true) ⊎ (m ≡ y)) (pipeline_result_piece n)
result_speaks y First e = tt
result_speaks y NotFull e = ((tt, tt), refl)
result_speaks y NotEmpty e = (tt, tt)
result_speaks y Enq e = cc
result_speaks y Deq e = cc
result_speaks y Clear e = cc

is_pipeline : (width : ℕ) → 1 ≤ width → width ≤ 128 → IsQueue (pipeline_row width)
is_pipeline width some most = record {
  some_width = some;
  most_width = most;
  some_depth = omega arith;
  most_depth = omega arith;
  table = record { dual = refl; seen = refl; free = refl; ranked = refl; rising = refl; by_rank = refl };
  once = record { enq = refl; deq = refl; clear = refl };
  calls = record { swapping = refl; unguarded = refl; looking = refl };
  clear_unseen = refl;
  guard = guards width;
  result = results width;
  next = nexts width;
  guard_width = guard_has width;
  result_width = result_has width;
  next_width = next_has width;
  guard_speaks = guard_speaks;
  result_speaks = result_speaks;
}

pub pipeline_laws : (width : ℕ) → 1 ≤ width → width ≤ 128 → Laws (pipeline_table width)
pipeline_laws width some most = queue_laws (pipeline_row width) (is_pipeline width some most)
