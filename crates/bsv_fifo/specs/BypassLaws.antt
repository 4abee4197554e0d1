-- A bypass queue keeps the laws.
-- Proof alone: it is in specs/ since the `laws` of an impl may cite nothing of proofs/.
use Rattle.std.proofs.Common.{◌≡◌, ℕ, zero, suc, ◌<◌, ◌≤◌, true, false, List, [], ◌∷◌, length, refl, ap, sym, ◌∙◌, arith, Option, Some, None, inl}
use Rattle.std.specs.Prelude.{◌⊎◌, nat_lt}
use Rattle.std.proofs.lemmas.Bool.{ltb-true, lt-ltb}
use Rattle.bsv_bits.specs.Words.{Bits, bit}
use Rattle.bsv_prim.specs.Signals.{Signals, word_of}
use Rattle.bsv_prim.specs.Speaks.{SpeaksOf}
use Rattle.bsv_prim.specs.Widths.{HasWidth}
use Rattle.bsv_prim.specs.Table.{Table, word_at}
use Rattle.bsv_prim.specs.Laws.{Laws}
use Rattle.bsv_fifo.specs.declared.method.Method.{Method}
use Rattle.bsv_fifo.specs.declared.method.Method.TheVariants.{Enq, Deq, First, NotFull, NotEmpty, Clear}
use Rattle.bsv_fifo.specs.Queues.{queue_method, changes, queue_guard, queue_result, queue_result_width, ShowsItems, queue_register_width}
use Rattle.bsv_fifo.specs.Bypass.{bypass_row, bypass_table, bypass_sees, bypass_guard_piece, bypass_result_piece, bypass_next_piece, has_or_gets_item}
use Rattle.bsv_fifo.specs.QueueLists.{with_item, closed}
use Rattle.bsv_fifo.specs.QueueCalls.{item_after}
use Rattle.bsv_fifo.specs.QueueLaws.{IsQueue, IsTold, Seen, Shown, WereReady, queue_laws}
use Rattle.bsv_fifo.specs.QueueWidths.{always_has, number_has, room_has, item_has, newest_has}
use Rattle.bsv_fifo.specs.OneItem.{or_bits, or_false, or_true, taken, kept_item}

-- ---- guards and results

-- there is an item, or one comes
gets : (xs : List Bits) (e : Option (List Bits)) (v : Signals) → ShowsItems 1 xs v.register → IsTold v 0 1 e → word_of v has_or_gets_item ≡ bit (nat_lt 0 (length (with_item e xs)))
gets xs None v s w =
    rw (s.count, w) (or_bits (nat_lt 0 (length xs)) false ∙ ap bit (or_false (nat_lt 0 (length xs))))
gets xs (Some args) v s w =
    rw (s.count, w.0)
    (or_bits (nat_lt 0 (length xs)) true ∙ ap bit (or_true (nat_lt 0 (length xs)) ∙ sym (item_after xs (word_at args 0))))

-- `deq` is never seen, and `enq` by `first`, `notEmpty` and `deq` alone
guards : (width : ℕ) (n : Method) (xs : List Bits) (e d : Option (List Bits)) (v : Signals) → Shown (bypass_row width) xs e d v → Seen (bypass_row width) n e d → word_of v (bypass_guard_piece n) ≡ bit (queue_guard 1 n (closed xs e d None))
guards width Enq xs e d v s u = rw (u.enq refl, u.deq refl, s.items.count) refl
guards width Deq xs e d v s u = rw (u.deq refl) (gets xs e v s.items s.enq)
guards width First xs e d v s u = rw (u.deq refl) (gets xs e v s.items s.enq)
guards width NotFull xs e d v s u = refl
guards width NotEmpty xs e d v s u = refl
guards width Clear xs e d v s u = refl

-- the front is the item that was there, or else the one that comes
fronts : (width : ℕ) (xs : List Bits) (e : Option (List Bits)) (v : Signals) → ShowsItems 1 xs v.register → IsTold v 0 1 e → nat_lt 0 (length (with_item e xs)) ≡ true → word_of v (bypass_result_piece First) ≡ queue_result width 1 First (with_item e xs)
fronts width [] None v s w r = cc
fronts width [] (Some args) v s w r = rw s.count (w.1 0 (omega arith))
fronts width (x ∷ xs) None v s w r =
    let there : nat_lt 0 (length (x ∷ xs)) ≡ true = lt-ltb 0 (length (x ∷ xs)) (omega arith) in
    rw (s.count, there) (s.item 0 (omega arith))
fronts width (x ∷ xs) (Some args) v s w r =
    let there : nat_lt 0 (length (x ∷ xs)) ≡ true = lt-ltb 0 (length (x ∷ xs)) (omega arith) in
    rw (s.count, there) (s.item 0 (omega arith))

results : (width : ℕ) (n : Method) (xs : List Bits) (e d : Option (List Bits)) (v : Signals) → Shown (bypass_row width) xs e d v → Seen (bypass_row width) n e d → changes n ≡ false → queue_guard 1 n (closed xs e d None) ≡ true
    → word_of v (bypass_result_piece n) ≡ queue_result width 1 n (closed xs e d None)
results width First xs e d v s u a r = rw (u.deq refl) (fronts width xs e v s.items s.enq (rw (u.deq refl) at r))
results width NotFull xs e d v s u a r = rw (u.enq refl, u.deq refl, s.items.count) refl
results width NotEmpty xs e d v s u a r = rw (u.deq refl) (gets xs e v s.items s.enq)
results width Enq xs e d v s u a r = cc
results width Deq xs e d v s u a r = cc
results width Clear xs e d v s u a r = cc

-- ---- the next registers

nexts : (width : ℕ) (xs : List Bits) (e d c : Option (List Bits)) (v : Signals) → Shown (bypass_row width) xs e d v → IsTold v 5 0 c → WereReady (bypass_row width) xs e d
    → ShowsItems 1 (closed xs e d c) (λ r. word_of v (bypass_next_piece r))
nexts width xs e d (Some a) v s tc r = record { count = rw tc.0 refl; item = λ i h. absurd (omega arith) }
nexts width [] None None None v s tc r = record {
  count = rw (tc, s.deq, s.enq) s.items.count;
  item = λ i h. absurd (omega arith);
}
nexts width [] None (Some b) None v s tc r = record { count = rw (tc, s.deq.0) refl; item = λ i h. absurd (omega arith) }
nexts width [] (Some a) None None v s tc r = record { count = rw (tc, s.deq, s.enq.0) refl; item = taken a v s.enq }
nexts width [] (Some a) (Some b) None v s tc r = record { count = rw (tc, s.deq.0) refl; item = λ i h. absurd (omega arith) }
nexts width (x ∷ []) None None None v s tc r = record {
  count = rw (tc, s.deq, s.enq) s.items.count;
  item = kept_item x v s.items s.enq;
}
nexts width (x ∷ []) None (Some b) None v s tc r = record { count = rw (tc, s.deq.0) refl; item = λ i h. absurd (omega arith) }
nexts width (x ∷ []) (Some a) d None v s tc r =
    let room : nat_lt 1 1 ≡ true = r.enq (λ f. absurd (let x : ⊥ = cc in x)) in
    absurd (let n : 1 < 1 = ltb-true 1 1 room in omega arith)
nexts width (x ∷ (y ∷ ys)) e d None v s tc r = absurd (let l = s.within in omega arith)

-- ---- widths

module _ (width : ℕ) where
  abbrev t : Table
  t = bypass_table width

  gets_has : HasWidth t has_or_gets_item 1
  gets_has = (1, 1, item_has (bypass_row width) (omega arith) (omega arith), (omega arith, refl), refl, refl)

  guard_has : (n : Method) → HasWidth t (bypass_guard_piece n) 1
  guard_has Enq = room_has (bypass_row width) (omega arith) (omega arith)
  guard_has Deq = gets_has
  guard_has First = gets_has
  guard_has NotFull = always_has (bypass_row width) (omega arith) (omega arith)
  guard_has NotEmpty = always_has (bypass_row width) (omega arith) (omega arith)
  guard_has Clear = always_has (bypass_row width) (omega arith) (omega arith)

  result_has : (n : Method) → changes n ≡ false → HasWidth t (bypass_result_piece n) (queue_result_width width n)
  result_has First e =
      (item_has (bypass_row width) (omega arith) (omega arith), (omega arith, refl), (omega arith, omega arith, refl))
  result_has NotFull e = room_has (bypass_row width) (omega arith) (omega arith)
  result_has NotEmpty e = gets_has
  result_has Enq e = cc
  result_has Deq e = cc
  result_has Clear e = cc

  next_has : (r : ℕ) → r < 2 → HasWidth t (bypass_next_piece r) (queue_register_width width 1 r)
  next_has zero h =
      let zero_has = number_has (bypass_row width) (omega arith) (omega arith) 0 (omega arith) in
      let one_has = number_has (bypass_row width) (omega arith) (omega arith) 1 (omega arith) in
      ((omega arith, refl), zero_has, ((omega arith, refl), zero_has, ((omega arith, refl), one_has, (omega arith, refl))))
  next_has (suc i) h = newest_has (bypass_row width) (omega arith) (omega arith)

-- ---- what the pieces speak of

guard_speaks : (n : Method) → SpeaksOf (λ m. bypass_sees (queue_method m) n ≡ true) (λ m. bypass_sees (queue_method m) n ≡ true) (bypass_guard_piece n)
guard_speaks Enq = (tt, tt)
guard_speaks Deq = ((tt, tt), refl)
guard_speaks First = ((tt, tt), refl)
guard_speaks NotFull = tt
guard_speaks NotEmpty = tt
guard_speaks Clear = tt

result_speaks : (y : ℕ) (n : Method) → changes n ≡ false → SpeaksOf (λ m. bypass_sees (queue_method m) n ≡ true) (λ m. (bypass_sees (queue_method m) n ≡ true) ⊎ (m ≡ y)) (bypass_result_piece n)
result_speaks y First e = ((tt, tt), tt, inl refl)
result_speaks y NotFull e = (tt, tt)
result_speaks y NotEmpty e = ((tt, tt), refl)
result_speaks y Enq e = cc
result_speaks y Deq e = cc
result_speaks y Clear e = cc

is_bypass : (width : ℕ) → 1 ≤ width → width ≤ 128 → IsQueue (bypass_row width)
is_bypass width some most = record {
  some_width = some;
  most_width = most;
  some_depth = omega arith;
  most_depth = omega arith;
  table = record { dual = refl; seen = refl; free = refl; ranked = refl; rising = refl; by_rank = refl };
  once = record { enq = refl; deq = refl; clear = refl };
  calls = record { swapping = refl; unguarded = refl; looking = refl };
  clear_unseen = refl;
  guard = guards width;
  result = results width;
  next = nexts width;
  guard_width = guard_has width;
  result_width = result_has width;
  next_width = next_has width;
  guard_speaks = guard_speaks;
  result_speaks = result_speaks;
}

pub bypass_laws : (width : ℕ) → 1 ≤ width → width ≤ 128 → Laws (bypass_table width)
bypass_laws width some most = queue_laws (bypass_row width) (is_bypass width some most)
