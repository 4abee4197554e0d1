-- A plain queue keeps the laws.
-- Proof alone: it is in specs/ since the `laws` of an impl may cite nothing of proofs/.
use Rattle.std.proofs.Common.{◌≡◌, ◌≢◌, ℕ, zero, suc, ◌+◌, ◌-◌, ◌*◌, ◌%◌, ◌^◌, ◌<◌, ◌≤◌, Bool, true, false, List, [], ◌∷◌, ◌++◌, length, drop, refl, ap, sym, ◌∙◌, arith, Option, Some, None, length-append, add-one}
use Rattle.std.specs.Prelude.{◌⊎◌, MatchOption, nat_eq, nat_lt, bit_and, if◌then◌else◌}
use Rattle.std.proofs.lemmas.Bool.{ltb-true, lt-ltb, eqb-true, eqb-false}
use Rattle.std.proofs.Math.ListN.{get_or-append}
use Rattle.std.proofs.Math.Seq.{get_or-append_seam}
use Rattle.std.proofs.Math.Nat.{add-mul-mod_self_left}
use Rattle.bsv_bits.specs.Words.{Bits, bit}
use Rattle.bsv_prim.specs.Signals.{Signals, word_of}
use Rattle.bsv_prim.specs.Speaks.{SpeaksOf}
use Rattle.bsv_prim.specs.Widths.{HasWidth}
use Rattle.bsv_prim.specs.Table.{Table, word_at}
use Rattle.bsv_prim.specs.Laws.{Laws}
use Rattle.bsv_fifo.specs.declared.method.Method.{Method}
use Rattle.bsv_fifo.specs.declared.method.Method.TheVariants.{Enq, Deq, First, NotFull, NotEmpty, Clear}
use Rattle.bsv_fifo.specs.Queues.{changes, queue_guard, queue_result, queue_result_width, count_width, ShowsItems, queue_register_width}
use Rattle.bsv_fifo.specs.QueueTable.{number}
use Rattle.bsv_fifo.specs.Plain.{plain_row, plain_table, plain_guard_piece, plain_result_piece, plain_next_piece, count_with, count_without, next_count, next_item, filled, behind}
use Rattle.bsv_fifo.specs.QueueLists.{with_item, closed}
use Rattle.bsv_fifo.specs.QueueLaws.{IsQueue, IsTold, Seen, Shown, WereReady, front_shown, queue_laws}
use Rattle.bsv_fifo.specs.QueueWidths.{always_has, number_has, count_has, room_has, item_has, place_has}
use Rattle.bsv_fifo.specs.CountWidth.{depth_fits}

less_mod : (n m : ℕ) → n < m → n % m ≡ n
less_mod n m h = grind arith

-- one item less, by the sum that wraps
less_one : (n m : ℕ) → 0 < n → n < m → (n + (m - 1)) % m ≡ n - 1
less_one n m h l =
    let e : n + (m - 1) ≡ (n - 1) + m * 1 = omega arith in
    ap (λ (k : ℕ). k % m) e ∙ add-mul-mod_self_left (n - 1) m 1 ∙ less_mod (n - 1) m (omega arith)

same_length : (xs : List Bits) (x : Bits) → length (drop 1 (xs ++ x ∷ [])) ≡ length xs
same_length [] x = refl
same_length (y ∷ ys) x = length-append ys (x ∷ []) ∙ omega arith

one_less : (xs : List Bits) → length (drop 1 xs) ≡ length xs - 1
one_less [] = refl
one_less (x ∷ xs) = omega arith

longer : (xs : List Bits) (i : ℕ) → i < length (drop 1 xs) → i + 1 < length xs
longer [] i l = absurd (omega arith)
longer (x ∷ xs) i l = omega arith

after_front : (xs : List Bits) (i : ℕ) → word_at xs (i + 1) ≡ word_at (drop 1 xs) i
after_front [] i = refl
after_front (x ∷ xs) i = rw add-one refl

-- ---- guards and results

-- no method of a plain queue sees a call, so none was made
guards : (width depth : ℕ) (n : Method) (xs : List Bits) (e d : Option (List Bits)) (v : Signals) → Shown (plain_row width depth) xs e d v → Seen (plain_row width depth) n e d → word_of v (plain_guard_piece depth n) ≡ bit (queue_guard depth n (closed xs e d None))
guards width depth Enq xs e d v s u = rw (u.enq refl, u.deq refl, s.items.count) refl
guards width depth Deq xs e d v s u = rw (u.enq refl, u.deq refl, s.items.count) refl
guards width depth First xs e d v s u = rw (u.enq refl, u.deq refl, s.items.count) refl
guards width depth NotFull xs e d v s u = refl
guards width depth NotEmpty xs e d v s u = refl
guards width depth Clear xs e d v s u = refl

results : (width depth : ℕ) (n : Method) (xs : List Bits) (e d : Option (List Bits)) (v : Signals) → Shown (plain_row width depth) xs e d v → Seen (plain_row width depth) n e d → changes n ≡ false → queue_guard depth n (closed xs e d None) ≡ true
    → word_of v (plain_result_piece depth n) ≡ queue_result width depth n (closed xs e d None)
results width depth First xs e d v s u a r =
    let ready = r in
    rw (u.enq refl, u.deq refl) (front_shown width depth xs v.register s.items (rw (u.enq refl, u.deq refl) at ready))
results width depth NotFull xs e d v s u a r = rw (u.enq refl, u.deq refl, s.items.count) refl
results width depth NotEmpty xs e d v s u a r = rw (u.enq refl, u.deq refl, s.items.count) refl
results width depth Enq xs e d v s u a r = cc
results width depth Deq xs e d v s u a r = cc
results width depth Clear xs e d v s u a r = cc

-- ---- the next registers

module _ (depth : ℕ) (most : depth ≤ 64) (xs : List Bits) (v : Signals) (s : ShowsItems depth xs v.register) (w : length xs ≤ depth) where
  -- the number of items
  counted : (e d c : Option (List Bits)) → IsTold v 0 1 e → IsTold v 1 0 d → IsTold v 5 0 c
      → MatchOption e (Unit {0}) (λ args. nat_lt (length xs) depth ≡ true) → MatchOption d (Unit {0}) (λ args. nat_lt 0 (length xs) ≡ true)
      → word_of v (next_count depth) ≡ record { width = count_width depth; value = length (closed xs e d c) }
  counted e d (Some args) te td tc re rd = rw tc.0 refl
  counted None None None te td tc re rd = rw (tc, te, td) s.count
  counted (Some args) (Some brgs) None te td tc re rd =
      rw (tc, te.0, td.0)
      (s.count ∙ ap (λ (n : ℕ). record { width = count_width depth; value = n }) (sym (same_length xs (word_at args 0))))
  counted (Some args) None None te td tc re rd =
      rw (tc, te.0, td, s.count)
      (let fits = depth_fits depth most in
      let room : length xs < depth = ltb-true _ _ re in
      ap (λ (n : ℕ). record { width = count_width depth; value = n })
      (less_mod (length xs + 1) (2 ^ count_width depth) (omega arith) ∙ sym (length-append xs (word_at args 0 ∷ []))))
  counted None (Some brgs) None te td tc re rd =
      rw (tc, te, td.0, s.count)
      (let fits = depth_fits depth most in
      let some : 0 < length xs = ltb-true _ _ rd in
      ap (λ (n : ℕ). record { width = count_width depth; value = n })
      (less_one (length xs) (2 ^ count_width depth) some (omega arith) ∙ sym (one_less xs)))

  -- a new item, or what a register has
  placed : (e : Option (List Bits)) (n register : ℕ) → IsTold v 0 1 e → n < length (with_item e xs) → (n < length xs → v.register register ≡ word_at xs n) → word_of v (filled depth n register) ≡ word_at (with_item e xs) n
  placed None n register te l h = rw te (h l)
  placed (Some args) n register te l h =
      rw (te.0, s.count) (cases (nat_eq (length xs) n) refl)
    where
      cases : (b : Bool) → nat_eq (length xs) n ≡ b → (if nat_eq (bit_and 1 (if b then 1 else 0)) 1 then v.argument 0 0 else v.register register) ≡ word_at (xs ++ word_at args 0 ∷ []) n
      cases true q =
          te.1 0 (omega arith) ∙ sym (get_or-append_seam xs (word_at args 0) [] (record { width = 1; value = 0 }))
          ∙ ap (λ (k : ℕ). word_at (xs ++ word_at args 0 ∷ []) k) (eqb-true (length xs) n q)
      cases false q =
          let other : length xs ≢ n = eqb-false (length xs) n q in
          let all : length (xs ++ word_at args 0 ∷ []) ≡ length xs + 1 = length-append xs (word_at args 0 ∷ []) in
          let below : n < length xs = omega arith in
          h below ∙ sym (get_or-append xs (word_at args 0 ∷ []) (record { width = 1; value = 0 }) n below)

  moved : (i : ℕ) → i + 1 < length xs → v.register (behind depth i) ≡ word_at xs (i + 1)
  moved i h =
      rw (lt-ltb (i + 1) depth (omega arith))
      (let e : i + 2 ≡ suc (i + 1) = omega arith in ap v.register e ∙ s.item (i + 1) h)

  items : (e d c : Option (List Bits)) → IsTold v 0 1 e → IsTold v 1 0 d → IsTold v 5 0 c → (i : ℕ) → i < length (closed xs e d c) → word_of v (next_item depth i) ≡ word_at (closed xs e d c) i
  items e d (Some args) te td tc i l = absurd (omega arith)
  items e None None te td tc i l =
      rw td (placed e i (i + 1) te l (λ h. ap v.register (add-one i) ∙ s.item i h))
  items e (Some brgs) None te td tc i l =
      rw td.0
      (placed e (i + 1) (behind depth i) te (longer (with_item e xs) i l) (λ h. moved i h)
      ∙ after_front (with_item e xs) i)

nexts : (width depth : ℕ) → depth ≤ 64 → (xs : List Bits) (e d c : Option (List Bits)) (v : Signals) → Shown (plain_row width depth) xs e d v → IsTold v 5 0 c → WereReady (plain_row width depth) xs e d
    → ShowsItems depth (closed xs e d c) (λ r. word_of v (plain_next_piece depth r))
nexts width depth most xs e d c v s tc r = record {
  count = counted depth most xs v s.items s.within e d c s.enq s.deq tc (r.enq (λ f. cc)) (r.deq (λ f. cc));
  item = items depth most xs v s.items s.within e d c s.enq s.deq tc;
}

-- ---- widths

after_below : (depth place : ℕ) → place < depth → (0 < behind depth place) × (behind depth place < depth + 1)
after_below depth place h = cases (nat_lt (place + 1) depth) refl
  where
    cases : (b : Bool) → nat_lt (place + 1) depth ≡ b → (0 < (if b then place + 2 else place + 1)) × ((if b then place + 2 else place + 1) < depth + 1)
    cases true e = let l : place + 1 < depth = ltb-true (place + 1) depth e in (omega arith, omega arith)
    cases false e = (omega arith, omega arith)

module _ (width depth : ℕ) (some : 1 ≤ depth) (most : depth ≤ 64) where
  abbrev t : Table
  t = plain_table width depth

  guard_has : (n : Method) → HasWidth t (plain_guard_piece depth n) 1
  guard_has Enq = room_has (plain_row width depth) some most
  guard_has Deq = item_has (plain_row width depth) some most
  guard_has First = item_has (plain_row width depth) some most
  guard_has NotFull = always_has (plain_row width depth) some most
  guard_has NotEmpty = always_has (plain_row width depth) some most
  guard_has Clear = always_has (plain_row width depth) some most

  result_has : (n : Method) → changes n ≡ false → HasWidth t (plain_result_piece depth n) (queue_result_width width n)
  result_has First e = place_has (plain_row width depth) some most 1 (omega arith) (omega arith)
  result_has NotFull e = room_has (plain_row width depth) some most
  result_has NotEmpty e = item_has (plain_row width depth) some most
  result_has Enq e = cc
  result_has Deq e = cc
  result_has Clear e = cc

  one_has : HasWidth t (number depth 1) (count_width depth)
  one_has = number_has (plain_row width depth) some most 1 some

  with_has : HasWidth t (count_with depth) (count_width depth)
  with_has =
      let c = count_has (plain_row width depth) some most in
      ((omega arith, refl), c, (count_width depth, count_width depth, c, one_has, refl, refl))

  without_has : HasWidth t (count_without depth) (count_width depth)
  without_has =
      let c = count_has (plain_row width depth) some most in
      ((omega arith, refl), (count_width depth, count_width depth, c, one_has, refl, refl), c)

  next_count_has : HasWidth t (next_count depth) (count_width depth)
  next_count_has =
      ((omega arith, refl), number_has (plain_row width depth) some most 0 (omega arith), ((omega arith, refl), with_has, without_has))

  filled_has : (n r : ℕ) → n ≤ depth → 0 < r → r < depth + 1 → HasWidth t (filled depth n r) width
  filled_has n r h p l =
      let c = count_has (plain_row width depth) some most in
      let k = number_has (plain_row width depth) some most n h in
      ((1, 1, (omega arith, refl), (count_width depth, count_width depth, c, k, refl, refl), refl, refl), (omega arith, omega arith, refl), place_has (plain_row width depth) some most r p l)

  next_has : (r : ℕ) → r < depth + 1 → HasWidth t (plain_next_piece depth r) (queue_register_width width depth r)
  next_has zero h = next_count_has
  next_has (suc i) h =
      let b = after_below depth i (omega arith) in
      ((omega arith, refl), filled_has (i + 1) (behind depth i) (omega arith) b.0 b.1, filled_has i (i + 1) (omega arith) (omega arith) (omega arith))

-- ---- what the pieces speak of

guard_speaks : (depth : ℕ) (n : Method) → SpeaksOf (λ m. false ≡ true) (λ m. false ≡ true) (plain_guard_piece depth n)
guard_speaks depth Enq = (tt, tt)
guard_speaks depth Deq = (tt, tt)
guard_speaks depth First = (tt, tt)
guard_speaks depth NotFull = tt
guard_speaks depth NotEmpty = tt
guard_speaks depth Clear = tt

result_speaks : (depth y : ℕ) (n : Method) → changes n ≡ false → SpeaksOf (λ m. false ≡ true) (λ m. (false ≡ true) ⊎ (m ≡ y)) (plain_result_piece depth n)
result_speaks depth y First e = tt
result_speaks depth y NotFull e = (tt, tt)
result_speaks depth y NotEmpty e = (tt, tt)
result_speaks depth y Enq e = cc
result_speaks depth y Deq e = cc
result_speaks depth y Clear e = cc

is_plain : (width depth : ℕ) → 1 ≤ width → width ≤ 128 → 1 ≤ depth → depth ≤ 64 → IsQueue (plain_row width depth)
is_plain width depth some_width most_width some most = record {
  some_width = some_width;
  most_width = most_width;
  some_depth = some;
  most_depth = most;
  table = record { dual = refl; seen = refl; free = refl; ranked = refl; rising = refl; by_rank = refl };
  once = record { enq = refl; deq = refl; clear = refl };
  calls = record { swapping = refl; unguarded = refl; looking = refl };
  clear_unseen = refl;
  guard = guards width depth;
  result = results width depth;
  next = nexts width depth most;
  guard_width = guard_has width depth some most;
  result_width = result_has width depth some most;
  next_width = next_has width depth some most;
  guard_speaks = guard_speaks depth;
  result_speaks = result_speaks depth;
}

pub plain_laws : (width depth : ℕ) → 1 ≤ width → width ≤ 128 → 1 ≤ depth → depth ≤ 64 → Laws (plain_table width depth)
plain_laws width depth some_width most_width some most =
    queue_laws (plain_row width depth) (is_plain width depth some_width most_width some most)
