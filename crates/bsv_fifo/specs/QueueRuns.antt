-- What holds of an orderly list of calls on any queue.
-- Proof alone, with the words of the proof: it is in specs/ since the `laws` of an impl may cite
-- nothing of proofs/.
use Rattle.std.proofs.Common.{◌≡◌, ℕ, zero, suc, ◌<◌, ◌≤◌, Bool, true, false, List, [], ◌∷◌, ◌++◌, length, refl, ap, sym, ◌∙◌, arith, Option, Some, None, length-append}
use Rattle.std.specs.Prelude.{MatchOption, cond, nat_eq, if◌then◌else◌}
use Rattle.std.specs.List.{AllByRecursion}
use Rattle.std.proofs.lemmas.Bool.{ltb-true, eqb-true}
use Rattle.std.proofs.lemmas.Bool.Decides.{nat_tests}
use Rattle.bsv_bits.specs.Words.{Bits}
use Rattle.bsv_prim.specs.Table.{Table, Call, ArgsFit, word_at, goes_before}
use Rattle.bsv_prim.specs.Calls.{IsOrderly, IsReadyInLooks, after_calls, seen_by, latest}
use Rattle.bsv_prim.specs.CallLists.{all_weaker, latest_none}
use Rattle.bsv_prim.specs.declared.part.Part.{Part}
use Rattle.bsv_prim.specs.declared.part.Part.TheVariants.{Number, Held, Queue}
use Rattle.bsv_fifo.specs.declared.method.Method.{Method}
use Rattle.bsv_fifo.specs.declared.method.Method.TheVariants.{Enq, Deq, First, NotFull, NotEmpty, Clear}
use Rattle.bsv_fifo.specs.Queues.{queue_method, queue_guard, changed, items_of, queue_apply, FitsQueue}
use Rattle.bsv_fifo.specs.QueueTable.{QueueRow, queue_table}
use Rattle.bsv_fifo.specs.QueueLists.{items_after, items-apply, latest_some, drop_with, words_append, words_drop, length_drop, with_item, without_front, after_clear, closed, cleared_latest}

-- at most one `enq` and one `deq`, and nothing comes after a `clear`
pub record IsOnce (row : QueueRow) : Type 0 where
  pub enq : goes_before (row.relation Enq Enq) ≡ false
  pub deq : goes_before (row.relation Deq Deq) ≡ false
  pub clear : goes_before (row.relation Clear Enq) ≡ false

-- ---- which methods are called

-- a method that is not seen is not among calls that are
pub called_unseen : (t : Table) (n m : ℕ) (cs : List Call) → AllByRecursion (λ c. t.sees c.method n ≡ true) cs → t.sees m n ≡ false → latest m None cs ≡ None
called_unseen t n m cs h u =
    latest_none m None cs
    (all_weaker {P = λ c. t.sees c.method n ≡ true} {Q = λ c. nat_eq c.method m ≡ false} (λ c e. another c e (nat_eq c.method m) refl) cs h)
  where
    another : (c : Call) → t.sees c.method n ≡ true → (b : Bool) → nat_eq c.method m ≡ b → b ≡ false
    another c e true q =
        let same : c.method ≡ m = eqb-true c.method m q in
        let seen : t.sees m n ≡ true = (rw same at e) in
        absurd (let x : ⊥ = cc in x)
    another c e false q = refl

-- no call of a list is seen where each method that is seen is not called
pub none_seen : (t : Table) (n : ℕ) (cs : List Call) → ((m : ℕ) → t.sees m n ≡ true → latest m None cs ≡ None) → AllByRecursion (λ c. t.sees c.method n ≡ false) cs
none_seen t n [] h = tt
none_seen t n (c ∷ cs) h = (first (t.sees c.method n) refl, none_seen t n cs later)
  where
    itself : (m : ℕ) → nat_eq m m ≡ true
    itself m = grind (arith, nat_tests)

    first : (b : Bool) → t.sees c.method n ≡ b → b ≡ false
    first true e =
        let none = h c.method e in
        absurd (latest_some c.method c.args cs (rw (itself c.method) at none))
    first false e = refl

    later : (m : ℕ) → t.sees m n ≡ true → latest m None cs ≡ None
    later m e = cases (nat_eq c.method m) (h m e)
      where
        cases : (b : Bool) → latest m (if b then Some c.args else None) cs ≡ None → latest m None cs ≡ None
        cases true none = absurd (latest_some m c.args cs none)
        cases false none = none

unseen_snoc : (t : Table) (n : ℕ) (before : List Call) (c : Call) → seen_by t n before ≡ [] → t.sees c.method n ≡ false → seen_by t n (before ++ c ∷ []) ≡ []
unseen_snoc t n [] c h u = rw u refl
unseen_snoc t n (d ∷ ds) c h u = cases (t.sees d.method n) h (λ e. unseen_snoc t n ds c e u)
  where
    cases : (b : Bool) → cond b (d ∷ seen_by t n ds) (seen_by t n ds) ≡ [] → (seen_by t n ds ≡ [] → seen_by t n (ds ++ c ∷ []) ≡ []) → cond b (d ∷ seen_by t n (ds ++ c ∷ [])) (seen_by t n (ds ++ c ∷ [])) ≡ []
    cases true e later = cc
    cases false e later = later e

-- a method that sees none of the calls was ready before them all
pub ready_at_start : (t : Table) (n : ℕ) (p : Part) (before cs : List Call) (o : Option (List Bits)) → seen_by t n before ≡ [] → AllByRecursion (λ c. t.sees c.method n ≡ false) cs → IsReadyInLooks t p before cs → MatchOption o (Unit {0}) (λ args. t.guard n p ≡ true)
    → MatchOption (latest n o cs) (Unit {0}) (λ args. t.guard n p ≡ true)
ready_at_start t n p before [] o e u r h = h
ready_at_start t n p before (c ∷ cs) o e u r h =
    ready_at_start t n p (before ++ c ∷ []) cs (if nat_eq c.method n then Some c.args else o) (unseen_snoc t n before c e u.0) u.1 r.1 (now (nat_eq c.method n) refl)
  where
    now : (b : Bool) → nat_eq c.method n ≡ b → MatchOption (if b then Some c.args else o) (Unit {0}) (λ args. t.guard n p ≡ true)
    now true q =
        let same : c.method ≡ n = eqb-true c.method n q in
        let ready = r.0 in
        (rw (same, e) at ready)
    now false q = h

-- ---- what the calls come to

module _ (row : QueueRow) (once : IsOnce row) where
  abbrev t : Table
  t = queue_table row

  no_enq : (c : Call) → goes_before (row.relation Enq (queue_method c.method)) ≡ true → nat_eq c.method 0 ≡ false
  no_enq c h = cases c.method h
    where
      cases : (m : ℕ) → goes_before (row.relation Enq (queue_method m)) ≡ true → nat_eq m 0 ≡ false
      cases zero h = let e = once.enq in cc
      cases (suc m) h = grind (arith, nat_tests)

  no_deq : (c : Call) → goes_before (row.relation Deq (queue_method c.method)) ≡ true → nat_eq c.method 1 ≡ false
  no_deq c h = cases c.method h
    where
      cases : (m : ℕ) → goes_before (row.relation Deq (queue_method m)) ≡ true → nat_eq m 1 ≡ false
      cases zero h = refl
      cases (suc zero) h = let e = once.deq in cc
      cases (suc (suc m)) h = grind (arith, nat_tests)

  stays_clear : (cs : List Call) → AllByRecursion (λ c. goes_before (row.relation Clear (queue_method c.method)) ≡ true) cs → items_after [] cs ≡ []
  stays_clear [] h = refl
  stays_clear (c ∷ cs) h = ap (λ (xs : List Bits). items_after xs cs) (cases (queue_method c.method) h.0) ∙ stays_clear cs h.1
    where
      cases : (m : Method) → goes_before (row.relation Clear m) ≡ true → changed m [] c.args ≡ []
      cases Enq h = let e = once.clear in cc
      cases Deq h = refl
      cases First h = refl
      cases NotFull h = refl
      cases NotEmpty h = refl
      cases Clear h = refl

  -- one call in front
  step : (m : ℕ) (xs args : List Bits) (cs : List Call) → m < 6 → queue_guard row.depth (queue_method m) xs ≡ true → AllByRecursion (λ c. goes_before (row.relation (queue_method m) (queue_method c.method)) ≡ true) cs
      → items_after (changed (queue_method m) xs args) cs ≡ closed (changed (queue_method m) xs args) (latest 0 None cs) (latest 1 None cs) (latest 5 None cs)
      → items_after (changed (queue_method m) xs args) cs ≡ closed xs (latest 0 (if nat_eq m 0 then Some args else None) cs) (latest 1 (if nat_eq m 1 then Some args else None) cs) (latest 5 (if nat_eq m 5 then Some args else None) cs)
  step zero xs args cs l g h ih =
      let none = all_weaker {P = λ c. goes_before (row.relation Enq (queue_method c.method)) ≡ true} {Q = λ c. nat_eq c.method 0 ≡ false} no_enq cs h in
      ih ∙ ap (λ (o : Option (List Bits)). closed (xs ++ word_at args 0 ∷ []) o (latest 1 None cs) (latest 5 None cs)) (latest_none 0 None cs none)
      ∙ sym (ap (λ (o : Option (List Bits)). closed xs o (latest 1 None cs) (latest 5 None cs)) (latest_none 0 (Some args) cs none))
  step (suc zero) xs args cs l g h ih =
      let none = all_weaker {P = λ c. goes_before (row.relation Deq (queue_method c.method)) ≡ true} {Q = λ c. nat_eq c.method 1 ≡ false} no_deq cs h in
      ih ∙ ap (λ (o : Option (List Bits)). closed (changed Deq xs args) (latest 0 None cs) o (latest 5 None cs)) (latest_none 1 None cs none)
      ∙ ap (λ (ys : List Bits). after_clear (latest 5 None cs) ys) (drop_with (latest 0 None cs) xs g)
      ∙ sym (ap (λ (o : Option (List Bits)). closed xs (latest 0 None cs) o (latest 5 None cs)) (latest_none 1 (Some args) cs none))
  step (suc (suc zero)) xs args cs l g h ih = ih
  step (suc (suc (suc zero))) xs args cs l g h ih = ih
  step (suc (suc (suc (suc zero)))) xs args cs l g h ih = ih
  step (suc (suc (suc (suc (suc zero))))) xs args cs l g h ih =
      stays_clear cs h ∙ sym (cleared_latest 5 args (without_front (latest 1 None cs) (with_item (latest 0 None cs) xs)) cs)
  step (suc (suc (suc (suc (suc (suc m)))))) xs args cs l g h ih = absurd (omega arith)

  pub applied : (m : ℕ) (p : Part) (args : List Bits) → FitsQueue row.width row.depth p → ArgsFit t m args → queue_guard row.depth (queue_method m) (items_of p) ≡ true → FitsQueue row.width row.depth (queue_apply (queue_method m) p args)
  applied m (Number w) args f a r = absurd f
  applied m (Held o) args f a r = absurd f
  applied zero (Queue q) args f a r = record {
    same_depth = f.same_depth;
    within = (let l : length q.items < row.depth = ltb-true _ _ r in omega (arith, length-append q.items (word_at args 0 ∷ [])));
    words = words_append row.width q.items (word_at args 0) f.words (a.widths 0 (omega arith));
  }
  applied (suc zero) (Queue q) args f a r = record {
    same_depth = f.same_depth;
    within = omega (arith, length_drop q.items, f.within);
    words = words_drop row.width q.items f.words;
  }
  applied (suc (suc zero)) (Queue q) args f a r = f
  applied (suc (suc (suc zero))) (Queue q) args f a r = f
  applied (suc (suc (suc (suc zero)))) (Queue q) args f a r = f
  applied (suc (suc (suc (suc (suc m))))) (Queue q) args f a r = record {
    same_depth = f.same_depth;
    within = omega arith;
    words = λ k l. absurd (omega arith);
  }

  -- the items of a part after calls
  pub items_follow : (p : Part) (cs : List Call) → FitsQueue row.width row.depth p → IsOrderly t p cs → items_of (after_calls t p cs) ≡ items_after (items_of p) cs
  items_follow p [] f o = refl
  items_follow p (c ∷ cs) f o =
      items_follow (queue_apply (queue_method c.method) p c.args) cs (applied c.method p c.args f o.0.args o.1) o.3
      ∙ ap (λ (xs : List Bits). items_after xs cs) (items-apply row.width row.depth (queue_method c.method) p c.args f)

  run : (p : Part) (cs : List Call) → FitsQueue row.width row.depth p → IsOrderly t p cs → items_after (items_of p) cs ≡ closed (items_of p) (latest 0 None cs) (latest 1 None cs) (latest 5 None cs)
  run p [] f o = refl
  run p (c ∷ cs) f o =
      step c.method (items_of p) c.args cs o.0.method o.1 o.2
      (ap (λ (xs : List Bits). items_after xs cs) (sym (items-apply row.width row.depth (queue_method c.method) p c.args f))
      ∙ run (queue_apply (queue_method c.method) p c.args) cs (applied c.method p c.args f o.0.args o.1) o.3
      ∙ ap (λ (xs : List Bits). closed xs (latest 0 None cs) (latest 1 None cs) (latest 5 None cs)) (items-apply row.width row.depth (queue_method c.method) p c.args f))

  -- the closed form of the end of an orderly list
  pub items_closed : (p : Part) (cs : List Call) → FitsQueue row.width row.depth p → IsOrderly t p cs → items_of (after_calls t p cs) ≡ closed (items_of p) (latest 0 None cs) (latest 1 None cs) (latest 5 None cs)
  items_closed p cs f o = items_follow p cs f o ∙ run p cs f o

  pub fits_within : (p : Part) → FitsQueue row.width row.depth p → length (items_of p) ≤ row.depth
  fits_within (Number w) f = absurd f
  fits_within (Held o) f = absurd f
  fits_within (Queue q) f = f.within
