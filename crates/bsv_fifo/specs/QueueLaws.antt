-- What a queue's row needs, that its table keeps the laws.
-- Proof alone, with the words of the proof: it is in specs/ since the `laws` of an impl may cite
-- nothing of proofs/.
use Rattle.std.proofs.Common.{◌≡◌, ℕ, zero, suc, ◌+◌, ◌<◌, ◌≤◌, true, false, List, [], ◌∷◌, length, replicate, refl, ap, sym, ◌∙◌, arith, Option, None}
use Rattle.std.specs.Prelude.{◌⊎◌, MatchOption, not, nat_lt}
use Rattle.std.specs.List.{AllByRecursion}
use Rattle.std.proofs.lemmas.Bool.Decides.{nat_tests}
use Rattle.std.proofs.lemmas.Bool.{not-true}
use Rattle.bsv_bits.specs.Words.{Bits, bit, zero_word}
use Rattle.bsv_prim.specs.Signals.{Signals, word_of}
use Rattle.bsv_prim.specs.Speaks.{SpeaksOf}
use Rattle.bsv_prim.specs.Table.{Table, Call, IsWordOf, word_at}
use Rattle.bsv_prim.specs.Calls.{IsOrderly, IsReadyInLooks, after_calls, latest, Tells}
use Rattle.bsv_prim.specs.Widths.{HasWidth}
use Rattle.bsv_prim.specs.Laws.{Laws, PieceLaw, NextLaw}
use Rattle.bsv_prim.specs.declared.part.Part.{Part}
use Rattle.bsv_prim.specs.declared.part.Part.TheVariants.{Number, Held, Queue}
use Rattle.bsv_fifo.specs.declared.method.Method.{Method}
use Rattle.bsv_fifo.specs.declared.method.Method.TheVariants.{Enq, Deq, First, NotFull, NotEmpty, Clear}
use Rattle.bsv_fifo.specs.Queues.{queue_method, changes, waits, queue_guard, queue_result, queue_result_width, items_of, FitsQueue, count_width, ShowsItems, queue_register_width, front}
use Rattle.bsv_fifo.specs.QueueTable.{QueueRow, queue_table}
use Rattle.bsv_fifo.specs.ByTable.{IsTable, every, every_at, is_seen_action, unseen_by_itself, queue_table_laws}
use Rattle.bsv_fifo.specs.QueueLists.{closed}
use Rattle.bsv_fifo.specs.QueueRuns.{IsOnce, called_unseen, none_seen, ready_at_start, applied, items_closed, fits_within}
use Rattle.bsv_fifo.specs.QueueCalls.{AreCallsRight, unguarded_ready, queue_commute, queue_look}
use Rattle.bsv_fifo.specs.CountWidth.{some_count_width, few_count_width}
use Rattle.bsv_prim.specs.WireKinds.{bit_is_word, zero_is_word}

-- the signals tell of the last call of a method
abbrev pub IsTold : Signals → ℕ → ℕ → Option (List Bits) → Type 0
IsTold v m arity o =
    MatchOption o (v.called m ≡ false) (λ args. (v.called m ≡ true) × ((k : ℕ) → k < arity → v.argument m k ≡ word_at args k))

-- an `enq` and a `deq` that a method sees, if there are any; those that it does not see are not made
pub record Seen (row : QueueRow) (n : Method) (e d : Option (List Bits)) : Type 0 where
  pub enq : row.sees Enq n ≡ false → e ≡ None
  pub deq : row.sees Deq n ≡ false → d ≡ None

-- the registers show a queue, and the signals tell of an `enq` and a `deq`
pub record Shown (row : QueueRow) (xs : List Bits) (e d : Option (List Bits)) (v : Signals) : Type 0 where
  pub items : ShowsItems row.depth xs v.register
  pub within : length xs ≤ row.depth
  pub enq : IsTold v 0 1 e
  pub deq : IsTold v 1 0 d

-- where none of the other is called that it sees, an `enq` that was called had room, and a `deq` an item
pub record WereReady (row : QueueRow) (xs : List Bits) (e d : Option (List Bits)) : Type 0 where
  pub enq : (row.sees Deq Enq ≡ true → d ≡ None) → MatchOption e (Unit {0}) (λ args. nat_lt (length xs) row.depth ≡ true)
  pub deq : (row.sees Enq Deq ≡ true → e ≡ None) → MatchOption d (Unit {0}) (λ args. nat_lt 0 (length xs) ≡ true)

pub record IsQueue (row : QueueRow) : Type 0 where
  pub some_width : 1 ≤ row.width
  pub most_width : row.width ≤ 128
  pub some_depth : 1 ≤ row.depth
  pub most_depth : row.depth ≤ 64
  pub table : IsTable row
  pub once : IsOnce row
  pub calls : AreCallsRight row
  pub clear_unseen : every (λ n. not (row.sees Clear n)) ≡ true
  pub guard : (n : Method) (xs : List Bits) (e d : Option (List Bits)) (v : Signals) → Shown row xs e d v → Seen row n e d → word_of v (row.guard_piece n) ≡ bit (queue_guard row.depth n (closed xs e d None))
  pub result : (n : Method) (xs : List Bits) (e d : Option (List Bits)) (v : Signals) → Shown row xs e d v → Seen row n e d → changes n ≡ false → queue_guard row.depth n (closed xs e d None) ≡ true
      → word_of v (row.result_piece n) ≡ queue_result row.width row.depth n (closed xs e d None)
  pub next : (xs : List Bits) (e d c : Option (List Bits)) (v : Signals) → Shown row xs e d v → IsTold v 5 0 c → WereReady row xs e d → ShowsItems row.depth (closed xs e d c) (λ r. word_of v (row.next_piece r))
  pub guard_width : (n : Method) → HasWidth (queue_table row) (row.guard_piece n) 1
  pub result_width : (n : Method) → changes n ≡ false → HasWidth (queue_table row) (row.result_piece n) (queue_result_width row.width n)
  pub next_width : (r : ℕ) → r < row.depth + 1 → HasWidth (queue_table row) (row.next_piece r) (queue_register_width row.width row.depth r)
  pub guard_speaks : (n : Method) → SpeaksOf (λ m. row.sees (queue_method m) n ≡ true) (λ m. row.sees (queue_method m) n ≡ true) (row.guard_piece n)
  pub result_speaks : (y : ℕ) (n : Method) → changes n ≡ false → SpeaksOf (λ m. row.sees (queue_method m) n ≡ true) (λ m. (row.sees (queue_method m) n ≡ true) ⊎ (m ≡ y)) (row.result_piece n)

-- the front is in the first item's register
pub front_shown : (width depth : ℕ) (xs : List Bits) (registers : ℕ → Bits) → ShowsItems depth xs registers → nat_lt 0 (length xs) ≡ true → registers 1 ≡ queue_result width depth First xs
front_shown width depth [] registers s r = cc
front_shown width depth (x ∷ xs) registers s r = s.item 0 (omega arith)

-- ---- words

module _ (row : QueueRow) (is : IsQueue row) where
  abbrev t : Table
  t = queue_table row

  front_is_word : (xs : List Bits) → ((k : ℕ) → k < length xs → IsWordOf row.width (word_at xs k)) → IsWordOf row.width (front row.width xs)
  front_is_word [] h = zero_is_word row.width is.some_width is.most_width
  front_is_word (x ∷ xs) h = h 0 (omega arith)

  words_in : (p : Part) → FitsQueue row.width row.depth p → (k : ℕ) → k < length (items_of p) → IsWordOf row.width (word_at (items_of p) k)
  words_in (Number w) f = absurd f
  words_in (Held o) f = absurd f
  words_in (Queue q) f = f.words

  result_is_word : (n : Method) (p : Part) → FitsQueue row.width row.depth p → changes n ≡ false → IsWordOf (queue_result_width row.width n) (queue_result row.width row.depth n (items_of p))
  result_is_word First p f e = front_is_word (items_of p) (words_in p f)
  result_is_word NotFull p f e = bit_is_word (nat_lt (length (items_of p)) row.depth)
  result_is_word NotEmpty p f e = bit_is_word (nat_lt 0 (length (items_of p)))
  result_is_word Enq p f e = cc
  result_is_word Deq p f e = cc
  result_is_word Clear p f e = cc

  start_is_word : (r : ℕ) → IsWordOf (queue_register_width row.width row.depth r) (zero_word (queue_register_width row.width row.depth r))
  start_is_word zero =
      let few = few_count_width row.depth is.most_depth in
      zero_is_word (count_width row.depth) (some_count_width row.depth) (omega arith)
  start_is_word (suc i) = zero_is_word row.width is.some_width is.most_width

  -- ---- guards: a full queue of zeros makes `enq` wait, and an empty one `deq` and `first`

  zeros : ℕ → List Bits
  zeros n = replicate n (zero_word row.width)

  length_zeros : (n : ℕ) → length (zeros n) ≡ n
  unfolding zeros
  length_zeros zero = refl
  length_zeros (suc n) = ap suc (length_zeros n)

  zeros_fit : (n k : ℕ) → k < length (zeros n) → IsWordOf row.width (word_at (zeros n) k)
  unfolding zeros
  zeros_fit zero k h = absurd (omega arith)
  zeros_fit (suc n) zero h = zero_is_word row.width is.some_width is.most_width
  zeros_fit (suc n) (suc k) h = zeros_fit n k (omega arith)

  not_below : (n : ℕ) → nat_lt n n ≡ false
  not_below n = grind (arith, nat_tests)

  full : nat_lt (length (zeros row.depth)) row.depth ≡ false
  full = rw (length_zeros row.depth) (not_below row.depth)

  full_fits : FitsQueue row.width row.depth (Queue (record { items = zeros row.depth; depth = row.depth }))
  full_fits = record { same_depth = refl; within = omega (arith, length_zeros row.depth); words = zeros_fit row.depth }

  empty_fits : FitsQueue row.width row.depth (Queue (record { items = []; depth = row.depth }))
  empty_fits = record { same_depth = refl; within = omega arith; words = λ k l. absurd (omega arith) }

  sometimes : (n : Method) → waits n ≡ true → (p : Part) × FitsQueue row.width row.depth p × (queue_guard row.depth n (items_of p) ≡ false)
  sometimes Enq e = (Queue (record { items = zeros row.depth; depth = row.depth }), full_fits, full)
  sometimes Deq e = (Queue (record { items = []; depth = row.depth }), empty_fits, refl)
  sometimes First e = (Queue (record { items = []; depth = row.depth }), empty_fits, refl)
  sometimes NotFull e = absurd (let x : ⊥ = cc in x)
  sometimes NotEmpty e = absurd (let x : ⊥ = cc in x)
  sometimes Clear e = absurd (let x : ⊥ = cc in x)

  -- ---- pieces

  no_clear : (n : ℕ) → t.sees 5 n ≡ false
  no_clear n =
      not-true (row.sees Clear (queue_method n)) (every_at (λ m. not (row.sees Clear m)) is.clear_unseen (queue_method n))

  seen : (n : ℕ) (cs : List Call) → AllByRecursion (λ c. t.sees c.method n ≡ true) cs → Seen row (queue_method n) (latest 0 None cs) (latest 1 None cs)
  seen n cs h = record { enq = called_unseen t n 0 cs h; deq = called_unseen t n 1 cs h }

  -- the items after calls that a method sees
  items_seen : (n : ℕ) (p : Part) (cs : List Call) → FitsQueue row.width row.depth p → IsOrderly t p cs → AllByRecursion (λ c. t.sees c.method n ≡ true) cs → items_of (after_calls t p cs) ≡ closed (items_of p) (latest 0 None cs) (latest 1 None cs) None
  items_seen n p cs f o h =
      items_closed row is.once p cs f o
      ∙ ap (λ (c : Option (List Bits)). closed (items_of p) (latest 0 None cs) (latest 1 None cs) c) (called_unseen t n 5 cs h (no_clear n))

  shown : (p : Part) (cs : List Call) (v : Signals) → FitsQueue row.width row.depth p → ShowsItems row.depth (items_of p) v.register → Tells t v cs → Shown row (items_of p) (latest 0 None cs) (latest 1 None cs) v
  shown p cs v f s w = record {
    items = s;
    within = fits_within row is.once p f;
    enq = w 0 (omega arith);
    deq = w 1 (omega arith);
  }

  queue_pieces : PieceLaw t
  queue_pieces = record {
    guard = λ p cs m v f e s o k h w.
        is.guard (queue_method m) (items_of p) (latest 0 None cs) (latest 1 None cs) v (shown p cs v f s w) (seen m cs h)
        ∙ ap (λ (xs : List Bits). bit (queue_guard row.depth (queue_method m) xs)) (sym (items_seen m p cs f o h));
    result = λ p cs y v f e s o k h w z a r.
        let same = items_seen y.method p cs f o h in
        is.result (queue_method y.method) (items_of p) (latest 0 None cs) (latest 1 None cs) v (shown p cs v f s w) (seen y.method cs h) a (ap (λ (xs : List Bits). queue_guard row.depth (queue_method y.method) xs) (sym same) ∙ r)
        ∙ ap (λ (xs : List Bits). queue_result row.width row.depth (queue_method y.method) xs) (sym same);
  }

  -- ---- the next registers

  -- what an `enq` may see is a `deq`, and what a `deq` may see is an `enq`
  seen_by_enq : (cs : List Call) → (row.sees Deq Enq ≡ true → latest 1 None cs ≡ None) → (m : ℕ) → t.sees m 0 ≡ true → latest m None cs ≡ None
  seen_by_enq cs h zero s = absurd (let u = unseen_by_itself row is.table Enq in let x : ⊥ = cc in x)
  seen_by_enq cs h (suc zero) s = h s
  seen_by_enq cs h (suc (suc zero)) s = absurd (let a = is_seen_action row is.table First Enq s in let x : ⊥ = cc in x)
  seen_by_enq cs h (suc (suc (suc zero))) s = absurd (let a = is_seen_action row is.table NotFull Enq s in let x : ⊥ = cc in x)
  seen_by_enq cs h (suc (suc (suc (suc zero)))) s = absurd (let a = is_seen_action row is.table NotEmpty Enq s in let x : ⊥ = cc in x)
  seen_by_enq cs h (suc (suc (suc (suc (suc m))))) s = absurd (let u = no_clear 0 in let x : ⊥ = cc in x)

  seen_by_deq : (cs : List Call) → (row.sees Enq Deq ≡ true → latest 0 None cs ≡ None) → (m : ℕ) → t.sees m 1 ≡ true → latest m None cs ≡ None
  seen_by_deq cs h zero s = h s
  seen_by_deq cs h (suc zero) s = absurd (let u = unseen_by_itself row is.table Deq in let x : ⊥ = cc in x)
  seen_by_deq cs h (suc (suc zero)) s = absurd (let a = is_seen_action row is.table First Deq s in let x : ⊥ = cc in x)
  seen_by_deq cs h (suc (suc (suc zero))) s = absurd (let a = is_seen_action row is.table NotFull Deq s in let x : ⊥ = cc in x)
  seen_by_deq cs h (suc (suc (suc (suc zero)))) s = absurd (let a = is_seen_action row is.table NotEmpty Deq s in let x : ⊥ = cc in x)
  seen_by_deq cs h (suc (suc (suc (suc (suc m))))) s = absurd (let u = no_clear 1 in let x : ⊥ = cc in x)

  were_ready : (p : Part) (cs : List Call) → IsReadyInLooks t p [] cs → WereReady row (items_of p) (latest 0 None cs) (latest 1 None cs)
  were_ready p cs r = record {
    enq = λ h. ready_at_start t 0 p [] cs None refl (none_seen t 0 cs (seen_by_enq cs h)) r tt;
    deq = λ h. ready_at_start t 1 p [] cs None refl (none_seen t 1 cs (seen_by_deq cs h)) r tt;
  }

  queue_next : NextLaw t
  queue_next p cs v f s o r w =
      rw (items_closed row is.once p cs f o)
      (is.next (items_of p) (latest 0 None cs) (latest 1 None cs) (latest 5 None cs) v (shown p cs v f s w) (w 5 (omega arith)) (were_ready p cs r))

pub queue_laws : (row : QueueRow) → IsQueue row → Laws (queue_table row)
queue_laws row is = record {
  table = queue_table_laws row is.table;
  fit = record {
    opening = empty_fits row is;
    emptied = λ p f. f;
    emptied_twice = λ p f. refl;
    opening_empty = refl;
    applied = λ p c f k r. applied row is.once c.method p c.args f k.args r;
  };
  guards = record {
    never = λ m p g. unguarded_ready row.depth (queue_method m) (items_of p) g;
    sometimes = λ m g. sometimes row is (queue_method m) g;
  };
  shows = record {
    opening = record { count = refl; item = λ i h. absurd (omega arith) };
    emptied = λ p registers f s. s;
  };
  widths = record {
    argument = λ m k l a. (is.some_width, is.most_width);
    result = λ p c f k a. result_is_word row is (queue_method c.method) p f a;
    start = λ r l. start_is_word row is r;
    guard_piece = λ m l. is.guard_width (queue_method m);
    result_piece = λ m l a. is.result_width (queue_method m) a;
    next_piece = λ r l. is.next_width r l;
  };
  speaks = record {
    guard = λ y l. is.guard_speaks (queue_method y);
    result = λ y l a. is.result_speaks y (queue_method y) a;
  };
  commute = queue_commute row is.once is.calls;
  look = queue_look row is.once is.calls;
  pieces = queue_pieces row is;
  next = queue_next row is;
}
