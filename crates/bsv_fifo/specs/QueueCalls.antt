-- What a call of a queue does to another one: the two laws on calls, from tests of the table.
-- Proof alone, with the words of the proof: it is in specs/ since the `laws` of an impl may cite
-- nothing of proofs/.
use Rattle.std.proofs.Common.{◌≡◌, ℕ, Bool, true, false, List, [], ◌∷◌, ◌++◌, length, drop, refl, ap, sym, ◌∙◌, arith, length-append, inl, inr}
use Rattle.std.specs.Prelude.{◌⊎◌, ◌&&◌, ◌||◌, not, nat_lt}
use Rattle.std.specs.List.{AllByRecursion}
use Rattle.std.proofs.lemmas.Bool.{ltb-true, lt-ltb, and_parts, not-true, or_cases}
use Rattle.bsv_bits.specs.Words.{Bits}
use Rattle.bsv_prim.specs.Table.{Table, Call, word_at, goes_before}
use Rattle.bsv_prim.specs.Calls.{IsOrderly, MayPrecede, after_call, after_calls, look, seen_by}
use Rattle.bsv_prim.specs.Laws.{CommuteLaw, LookLaw}
use Rattle.bsv_prim.specs.CallLists.{look_whole, all_weaker}
use Rattle.bsv_prim.specs.declared.part.Part.{Part}
use Rattle.bsv_prim.specs.declared.part.Part.TheVariants.{Number, Held, Queue}
use Rattle.bsv_prim.specs.declared.primitive.Rel.TheVariants.{Cf, Sb}
use Rattle.bsv_fifo.specs.declared.method.Method.{Method}
use Rattle.bsv_fifo.specs.declared.method.Method.TheVariants.{Enq, Deq, First, NotFull, NotEmpty, Clear}
use Rattle.bsv_fifo.specs.Queues.{queue_method, changes, waits, queue_guard, queue_result, changed, items_of, queue_apply, FitsQueue}
use Rattle.bsv_fifo.specs.QueueTable.{QueueRow, queue_table}
use Rattle.bsv_fifo.specs.ByTable.{implies, implied, implied_not, every, every_at, every_pair, pair_at, same_rel, is_same}
use Rattle.bsv_fifo.specs.QueueLists.{items_after, leaves_items, leaves, drop_append, length_drop}
use Rattle.bsv_fifo.specs.QueueRuns.{IsOnce, items_follow}

-- ---- the tests

-- an item may come while the front goes or is read
abbrev pub swaps : Method → Method → Bool
swaps Enq Deq = true
swaps Enq First = true
swaps _ _ = false

-- two value methods may swap too
abbrev pub may_swap : Method → Method → Bool
may_swap m n = swaps m n || (swaps n m || (not (changes m) && not (changes n)))

-- calls that are free of each other may swap
abbrev pub is_swapping : QueueRow → Method → Method → Bool
is_swapping row m n = implies (same_rel (row.relation m n) Cf) (may_swap m n)

-- an action that is SB to a method with a guard is seen by it
abbrev pub is_unguarded : QueueRow → Method → Method → Bool
is_unguarded row m n =
    implies (changes m) (implies (same_rel (row.relation m n) Sb) (implies (not (row.sees m n)) (not (waits n))))

-- a call of the first leaves the second ready, with the same result
abbrev pub keeps : Method → Method → Bool
keeps m Clear = true
keeps Enq Deq = true
keeps Deq Enq = true
keeps Enq First = true
keeps m _ = not (changes m)

-- a method sees none, and all that may precede it keep it ready
abbrev pub looks_past : QueueRow → Method → Bool
looks_past row n = every (λ m. not (row.sees m n) && implies (goes_before (row.relation m n)) (keeps m n))

-- all that may precede a method are seen, or do nothing
abbrev pub looks_through : QueueRow → Method → Bool
looks_through row n = every (λ m. implies (goes_before (row.relation m n)) (row.sees m n || not (changes m)))

abbrev pub is_looking : QueueRow → Method → Bool
is_looking row n = looks_past row n || looks_through row n

-- each test gives true over the whole table
pub record AreCallsRight (row : QueueRow) : Type 0 where
  pub swapping : every_pair (is_swapping row) ≡ true
  pub unguarded : every_pair (is_unguarded row) ≡ true
  pub looking : every (is_looking row) ≡ true

-- ---- calls on lists

pub unguarded_ready : (depth : ℕ) (n : Method) (xs : List Bits) → waits n ≡ false → queue_guard depth n xs ≡ true
unguarded_ready depth NotFull xs w = refl
unguarded_ready depth NotEmpty xs w = refl
unguarded_ready depth Clear xs w = refl
unguarded_ready depth Enq xs w = cc
unguarded_ready depth Deq xs w = cc
unguarded_ready depth First xs w = cc

-- an item that goes leaves room where there was some, and one that comes leaves an item
room_after : (depth : ℕ) (xs : List Bits) → nat_lt (length xs) depth ≡ true → nat_lt (length (drop 1 xs)) depth ≡ true
room_after depth xs h =
    lt-ltb _ _ (omega (arith, length_drop xs, ltb-true (length xs) depth h))

pub item_after : (xs : List Bits) (x : Bits) → nat_lt 0 (length (xs ++ x ∷ [])) ≡ true
item_after xs x = lt-ltb _ _ (omega (arith, length-append xs (x ∷ [])))

-- two calls in either order
record Swap (depth : ℕ) (m n : Method) (xs args brgs : List Bits) : Type 0 where
  second : queue_guard depth n (changed m xs args) ≡ true
  first : queue_guard depth m (changed n xs brgs) ≡ true
  same : changed n (changed m xs args) brgs ≡ changed m (changed n xs brgs) args

turned : (depth : ℕ) (m n : Method) (xs args brgs : List Bits) → Swap depth n m xs brgs args → Swap depth m n xs args brgs
turned depth m n xs args brgs s = record { second = s.first; first = s.second; same = sym s.same }

-- an action against `deq` or `first`
swap_enq : (depth : ℕ) (m n : Method) (xs args brgs : List Bits) → swaps m n ≡ true → queue_guard depth m xs ≡ true → queue_guard depth n xs ≡ true → Swap depth m n xs args brgs
swap_enq depth Enq Deq xs args brgs e g h = record { second = item_after xs (word_at args 0); first = room_after depth xs g; same = drop_append xs (word_at args 0) h }
swap_enq depth Enq First xs args brgs e g h = record { second = item_after xs (word_at args 0); first = g; same = refl }
swap_enq depth Enq Enq xs args brgs e g h = absurd (let x : ⊥ = cc in x)
swap_enq depth Enq NotFull xs args brgs e g h = absurd (let x : ⊥ = cc in x)
swap_enq depth Enq NotEmpty xs args brgs e g h = absurd (let x : ⊥ = cc in x)
swap_enq depth Enq Clear xs args brgs e g h = absurd (let x : ⊥ = cc in x)
swap_enq depth Deq n xs args brgs e g h = absurd (let x : ⊥ = cc in x)
swap_enq depth First n xs args brgs e g h = absurd (let x : ⊥ = cc in x)
swap_enq depth NotFull n xs args brgs e g h = absurd (let x : ⊥ = cc in x)
swap_enq depth NotEmpty n xs args brgs e g h = absurd (let x : ⊥ = cc in x)
swap_enq depth Clear n xs args brgs e g h = absurd (let x : ⊥ = cc in x)

swap_values : (depth : ℕ) (m n : Method) (xs args brgs : List Bits) → changes m ≡ false → changes n ≡ false → queue_guard depth m xs ≡ true → queue_guard depth n xs ≡ true → Swap depth m n xs args brgs
swap_values depth m n xs args brgs a b g h =
    let one = leaves_items m xs args a in
    let two = leaves_items n xs brgs b in
    record {
      second = rw one h;
      first = rw two g;
      same = rw (one, two, one) refl;
    }

swap : (depth : ℕ) (m n : Method) (xs args brgs : List Bits) → may_swap m n ≡ true → queue_guard depth m xs ≡ true → queue_guard depth n xs ≡ true → Swap depth m n xs args brgs
swap depth m n xs args brgs e g h =
    elim (or_cases (swaps m n) (swaps n m || (not (changes m) && not (changes n))) e) [
      | inl s ↦ swap_enq depth m n xs args brgs s g h
      | inr r ↦ elim (or_cases (swaps n m) (not (changes m) && not (changes n)) r) [
        | inl s ↦ turned depth m n xs args brgs (swap_enq depth n m xs brgs args s h g)
        | inr v ↦ let both = and_parts (not (changes m)) (not (changes n)) v in
            swap_values depth m n xs args brgs (not-true (changes m) both.0) (not-true (changes n) both.1) g h
      ]
    ]

-- what comes before a method changes nothing that it asks or answers
record Keeps (width depth : ℕ) (n : Method) (xs ys : List Bits) : Type 0 where
  ready : queue_guard depth n xs ≡ true → queue_guard depth n ys ≡ true
  same : changes n ≡ false → queue_guard depth n xs ≡ true → queue_result width depth n ys ≡ queue_result width depth n xs

kept : (width depth : ℕ) (n : Method) (xs ys : List Bits) → ys ≡ xs → Keeps width depth n xs ys
kept width depth n xs ys e = record { ready = λ r. rw e r; same = λ a r. rw e refl }

front_append : (width depth : ℕ) (xs : List Bits) (x : Bits) → nat_lt 0 (length xs) ≡ true → queue_result width depth First (xs ++ x ∷ []) ≡ queue_result width depth First xs
front_append width depth [] x h = cc
front_append width depth (y ∷ ys) x h = refl

keep : (width depth : ℕ) (m n : Method) (xs args : List Bits) → keeps m n ≡ true → Keeps width depth n xs (changed m xs args)
keep width depth m Clear xs args e = record { ready = λ r. refl; same = λ a r. cc }
keep width depth Deq Enq xs args e = record { ready = room_after depth xs; same = λ a r. cc }
keep width depth Enq Deq xs args e = record { ready = λ r. item_after xs (word_at args 0); same = λ a r. cc }
keep width depth Enq First xs args e = record { ready = λ r. item_after xs (word_at args 0); same = λ a r. front_append width depth xs (word_at args 0) r }
keep width depth Enq Enq xs args e = absurd (let x : ⊥ = cc in x)
keep width depth Enq NotFull xs args e = absurd (let x : ⊥ = cc in x)
keep width depth Enq NotEmpty xs args e = absurd (let x : ⊥ = cc in x)
keep width depth Deq Deq xs args e = absurd (let x : ⊥ = cc in x)
keep width depth Deq First xs args e = absurd (let x : ⊥ = cc in x)
keep width depth Deq NotFull xs args e = absurd (let x : ⊥ = cc in x)
keep width depth Deq NotEmpty xs args e = absurd (let x : ⊥ = cc in x)
keep width depth Clear Enq xs args e = absurd (let x : ⊥ = cc in x)
keep width depth Clear Deq xs args e = absurd (let x : ⊥ = cc in x)
keep width depth Clear First xs args e = absurd (let x : ⊥ = cc in x)
keep width depth Clear NotFull xs args e = absurd (let x : ⊥ = cc in x)
keep width depth Clear NotEmpty xs args e = absurd (let x : ⊥ = cc in x)
keep width depth First n xs args e = kept width depth n xs xs refl
keep width depth NotFull n xs args e = kept width depth n xs xs refl
keep width depth NotEmpty n xs args e = kept width depth n xs xs refl

keep_all : (width depth : ℕ) (n : Method) (xs : List Bits) (cs : List Call) → AllByRecursion (λ c. keeps (queue_method c.method) n ≡ true) cs → Keeps width depth n xs (items_after xs cs)
keep_all width depth n xs [] h = kept width depth n xs xs refl
keep_all width depth n xs (c ∷ cs) h =
    let now = keep width depth (queue_method c.method) n xs c.args h.0 in
    let later = keep_all width depth n (changed (queue_method c.method) xs c.args) cs h.1 in
    record {
      ready = λ r. later.ready (now.ready r);
      same = λ a r. later.same a (now.ready r) ∙ now.same a r;
    }

-- ---- the laws

module _ (row : QueueRow) (once : IsOnce row) (is : AreCallsRight row) where
  abbrev t : Table
  t = queue_table row

  either_order : (m n : Method) (p : Part) (args brgs : List Bits) → FitsQueue row.width row.depth p → row.relation m n ≡ Cf → queue_guard row.depth m (items_of p) ≡ true → queue_guard row.depth n (items_of p) ≡ true
      → (queue_guard row.depth n (items_of (queue_apply m p args)) ≡ true) × (queue_guard row.depth m (items_of (queue_apply n p brgs)) ≡ true) × (queue_apply n (queue_apply m p args) brgs ≡ queue_apply m (queue_apply n p brgs) args)
  either_order m n (Number w) args brgs f e g h = absurd f
  either_order m n (Held o) args brgs f e g h = absurd f
  either_order m n (Queue q) args brgs f e g h =
      let may = implied (same_rel (row.relation m n) Cf) (may_swap m n) (pair_at (is_swapping row) is.swapping m n) (is_same (row.relation m n) Cf e) in
      let c = swap row.depth m n q.items args brgs may g h in
      (c.second, c.first, ap (λ (xs : List Bits). Queue (record q { items = xs })) c.same)

  stays_ready : (m n : Method) (xs : List Bits) → changes m ≡ true → row.relation m n ≡ Sb → row.sees m n ≡ false → queue_guard row.depth n xs ≡ true
  stays_ready m n xs a e s =
      let one = implied (changes m) _ (pair_at (is_unguarded row) is.unguarded m n) a in
      let two = implied (same_rel (row.relation m n) Sb) _ one (is_same (row.relation m n) Sb e) in
      let three = implied_not (row.sees m n) (not (waits n)) two s in
      unguarded_ready row.depth n xs (not-true (waits n) three)

  pub queue_commute : CommuteLaw t
  queue_commute = record {
    either_order = λ p x y f k l e r s. either_order (queue_method x.method) (queue_method y.method) p x.args y.args f e r s;
    stays_ready = λ p x y f k l a e s u r q. stays_ready (queue_method x.method) (queue_method y.method) (items_of (after_call t p x)) a e s;
  }

  -- a method that sees none looks at the part itself
  sees_none : (y : ℕ) (cs : List Call) → ((m : Method) → row.sees m (queue_method y) ≡ false) → seen_by t y cs ≡ []
  sees_none y [] h = refl
  sees_none y (c ∷ cs) h = rw (h (queue_method c.method)) (sees_none y cs h)

  past : (p : Part) (cs : List Call) (y : Call) → FitsQueue row.width row.depth p → IsOrderly t p cs → AllByRecursion (λ c. MayPrecede t c y) cs → looks_past row (queue_method y.method) ≡ true
      → Keeps row.width row.depth (queue_method y.method) (items_of (look t y.method p cs)) (items_of (after_calls t p cs))
  past p cs y f o h test =
      let n = queue_method y.method in
      let at = every_at (λ m. not (row.sees m (queue_method y.method)) && implies (goes_before (row.relation m (queue_method y.method))) (keeps m (queue_method y.method))) test in
      let unseen = λ (m : Method). not-true (row.sees m (queue_method y.method)) (and_parts _ _ (at m)).0 in
      let kept_by = all_weaker {P = λ c. MayPrecede t c y} {Q = λ c. keeps (queue_method c.method) (queue_method y.method) ≡ true} (λ c e. implied (goes_before (row.relation (queue_method c.method) (queue_method y.method))) (keeps (queue_method c.method) (queue_method y.method)) (and_parts _ _ (at (queue_method c.method))).1 e) cs h in
      rw (items_follow row once p cs f o, sees_none y.method cs unseen) (keep_all row.width row.depth (queue_method y.method) (items_of p) cs kept_by)

  through : (p : Part) (cs : List Call) (y : Call) → AllByRecursion (λ c. MayPrecede t c y) cs → looks_through row (queue_method y.method) ≡ true
      → Keeps row.width row.depth (queue_method y.method) (items_of (look t y.method p cs)) (items_of (after_calls t p cs))
  through p cs y h test =
      kept row.width row.depth (queue_method y.method) (items_of (look t y.method p cs)) (items_of (after_calls t p cs))
      (ap items_of (sym (look_whole t y.method p cs
      (all_weaker {P = λ c. MayPrecede t c y} {Q = λ c. (t.sees c.method y.method ≡ true) ⊎ ((q : Part) → after_call t q c ≡ q)} (λ c e. seen_or_idle c (or_cases _ _ (implied (goes_before (row.relation (queue_method c.method) (queue_method y.method))) _ (at (queue_method c.method)) e))) cs h))))
    where
      at : (m : Method) → implies (goes_before (row.relation m (queue_method y.method))) (row.sees m (queue_method y.method) || not (changes m)) ≡ true
      at = every_at (λ m. implies (goes_before (row.relation m (queue_method y.method))) (row.sees m (queue_method y.method) || not (changes m))) test

      seen_or_idle : (c : Call) → (row.sees (queue_method c.method) (queue_method y.method) ≡ true) ⊎ (not (changes (queue_method c.method)) ≡ true) → (t.sees c.method y.method ≡ true) ⊎ ((q : Part) → after_call t q c ≡ q)
      seen_or_idle c (inl s) = inl s
      seen_or_idle c (inr i) = inr (λ q. leaves (queue_method c.method) q c.args (not-true (changes (queue_method c.method)) i))

  looks : (p : Part) (cs : List Call) (y : Call) → FitsQueue row.width row.depth p → IsOrderly t p cs → AllByRecursion (λ c. MayPrecede t c y) cs
      → Keeps row.width row.depth (queue_method y.method) (items_of (look t y.method p cs)) (items_of (after_calls t p cs))
  looks p cs y f o h =
      elim (or_cases (looks_past row (queue_method y.method)) (looks_through row (queue_method y.method)) (every_at (is_looking row) is.looking (queue_method y.method))) [
        | inl test ↦ past p cs y f o h test
        | inr test ↦ through p cs y h test
      ]

  pub queue_look : LookLaw t
  queue_look = record {
    ready = λ p cs y f o k h r. (looks p cs y f o h).ready r;
    result = λ p cs y f o k h a r. (looks p cs y f o h).same a r;
  }
