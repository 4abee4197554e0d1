-- A register keeps the laws.
-- Proof alone: it is in specs/ since the `laws` of an impl may cite nothing of proofs/.
use Rattle.std.proofs.Common.{◌≡◌, ℕ, zero, suc, ◌*◌, ◌%◌, ◌^◌, ◌<◌, ◌≤◌, Bool, true, false, List, [], ◌∷◌, refl, ap, sym, ◌∙◌, arith, Option, Some, None}
use Rattle.std.specs.Prelude.{nat_eq, if◌then◌else◌, MatchOption}
use Rattle.std.specs.List.{AllByRecursion}
use Rattle.bsv_bits.specs.Words.{Bits, IsWord, bit}
use Rattle.bsv_prim.specs.Signals.{Signals, is_one}
use Rattle.bsv_prim.specs.Table.{Table, Call, ArgsFit, IsWordOf, word_at, goes_before, in_one_element, converse}
use Rattle.bsv_prim.specs.Calls.{IsOrderly, MayPrecede, after_calls, latest}
use Rattle.bsv_prim.specs.Laws.{Laws}
use Rattle.std.proofs.Math.Nat.{pow-succ'}
use Rattle.std.proofs.lemmas.Nat.{mod_below, mul-le}
use Rattle.bsv_prim.specs.Registers.{reg_table, regu_table, unset_start, odd_bits, register_table, register_rank, read_or_write, register_apply, register_relation, FitsNumber, number_in}
use Rattle.bsv_prim.specs.declared.part.Part.{Part}
use Rattle.bsv_prim.specs.declared.part.Part.TheVariants.{Number, Held, Queue}
use Rattle.bsv_prim.specs.declared.primitive.Rel.TheVariants.{Cf, Sb}
use Rattle.bsv_prim.specs.CallLists.{filter_none}

dual : (m n : ℕ) → register_relation n m ≡ converse (register_relation m n)
dual zero zero = refl
dual zero (suc n) = refl
dual (suc m) zero = refl
dual (suc m) (suc n) = refl

value_rank : (m : ℕ) → read_or_write false true m ≡ false → register_rank m ≡ 0
value_rank zero e = refl
value_rank (suc m) e = cc

action_rank : (m : ℕ) → read_or_write false true m ≡ true → 1 ≤ register_rank m
action_rank zero e = absurd (let x : ⊥ = cc in x)
action_rank (suc m) e = omega arith

values_free : (m n : ℕ) → read_or_write false true m ≡ false → read_or_write false true n ≡ false → register_relation m n ≡ Cf
values_free zero zero a b = refl
values_free zero (suc n) a b = cc
values_free (suc m) n a b = cc

value_leaves : (m : ℕ) (p : Part) (args : List Bits) → read_or_write false true m ≡ false → register_apply m p args ≡ p
value_leaves zero p args e = refl
value_leaves (suc m) p args e = cc

rank_rises : (m n : ℕ) → read_or_write false true m ≡ true → read_or_write false true n ≡ true → register_relation m n ≡ Sb → register_rank m < register_rank n
rank_rises zero n a b e = absurd (let x : ⊥ = cc in x)
rank_rises (suc m) zero a b e = absurd (let x : ⊥ = cc in x)
rank_rises (suc m) (suc n) a b e = absurd (let x : ⊥ = cc in x)

by_rank : (m n : ℕ) → in_one_element (register_relation m n) ≡ true → register_rank m ≤ register_rank n → goes_before (register_relation m n) ≡ true
by_rank zero zero e r = refl
by_rank zero (suc n) e r = refl
by_rank (suc m) zero e r = absurd (let x : 1 ≤ 0 = r in omega arith)
by_rank (suc m) (suc n) e r = cc

module _ (width : ℕ) (start : Bits) (resets : Bool) where
  abbrev t : Table
  t = register_table width start resets

  applied : (m : ℕ) (p : Part) (args : List Bits) → FitsNumber width p → ArgsFit t m args → FitsNumber width (register_apply m p args)
  applied zero p args f a = f
  applied (suc m) p args f a = a.widths 0 (omega arith)

  number_fits : (p : Part) → FitsNumber width p → IsWordOf width (number_in width p)
  number_fits (Number w) f = f
  number_fits (Held o) f = absurd f
  number_fits (Queue q) f = absurd f

  commutes : (m n : ℕ) (p : Part) (args brgs : List Bits) → register_relation m n ≡ Cf → register_apply n (register_apply m p args) brgs ≡ register_apply m (register_apply n p brgs) args
  commutes zero n p args brgs e = refl
  commutes (suc m) zero p args brgs e = refl
  commutes (suc m) (suc n) p args brgs e = cc

  -- nothing before a read writes
  before_read : (m n : ℕ) (p : Part) (args : List Bits) → (n ≡ 0) → goes_before (register_relation m n) ≡ true → register_apply m p args ≡ p
  before_read zero n p args z e = refl
  before_read (suc m) zero p args z e = cc
  before_read (suc m) (suc n) p args z e = cc

  reads : (p : Part) (y : Call) (cs : List Call) → y.method ≡ 0 → AllByRecursion (λ c. MayPrecede t c y) cs → after_calls t p cs ≡ p
  reads p y [] z h = refl
  reads p y (c ∷ cs) z h =
      ap (λ (q : Part). after_calls t q cs) (before_read c.method y.method p c.args z h.0) ∙ reads p y cs z h.1

  -- the number after the last write
  written : Bits → Option (List Bits) → Bits
  written w None = w
  written w (Some args) = word_at args 0

  step : (w : Bits) (o : Option (List Bits)) (p : Part) (m : ℕ) (args : List Bits) → m < 2 → number_in width p ≡ written w o → number_in width (register_apply m p args) ≡ written w (if nat_eq m 1 then Some args else o)
  unfolding written
  step w o p zero args h e = e
  step w o p (suc zero) args h e = refl
  step w o p (suc (suc m)) args h e = absurd (omega arith)

  run : (w : Bits) (o : Option (List Bits)) (p : Part) (cs : List Call) → IsOrderly t p cs → number_in width p ≡ written w o → number_in width (after_calls t p cs) ≡ written w (latest 1 o cs)
  run w o p [] h e = e
  run w o p (c ∷ cs) h e =
      run w (if nat_eq c.method 1 then Some c.args else o) (register_apply c.method p c.args) cs h.3 (step w o p c.method c.args h.0.method e)

  next_word : (w : Bits) (o : Option (List Bits)) (v : Signals) → v.register 0 ≡ w → MatchOption o (v.called 1 ≡ false) (λ args. (v.called 1 ≡ true) × ((k : ℕ) → k < 1 → v.argument 1 k ≡ word_at args k))
      → (if is_one (bit (v.called 1)) then v.argument 1 0 else v.register 0) ≡ written w o
  unfolding written
  next_word w None v e h = rw h e
  next_word w (Some args) v e h = rw h.0 (h.1 0 (omega arith))

  start_written : (p : Part) → number_in width p ≡ written (number_in width p) None
  unfolding written
  start_written p = refl

  -- there is nothing to see
  sees_none : (p : Part) (cs : List Call) → AllByRecursion (λ c. false ≡ true) cs → p ≡ after_calls t p cs
  sees_none p [] h = refl
  sees_none p (c ∷ cs) h = let h0 = h.0 in cc

value_is_no_write : (m : ℕ) → read_or_write false true m ≡ false → nat_eq m 1 ≡ false
value_is_no_write zero e = refl
value_is_no_write (suc m) e = cc

is_read : (m : ℕ) → m < 2 → nat_eq m 1 ≡ false → m ≡ 0
is_read zero h e = refl
is_read (suc zero) h e = cc
is_read (suc (suc m)) h e = absurd (omega arith)

pub bit_is_word : IsWord (bit true)
bit_is_word = record { some = omega arith; most = omega arith; below = omega arith }

pub register_laws : (width : ℕ) (start : Bits) (resets : Bool) → IsWordOf width start → Laws (register_table width start resets)
register_laws width start resets h = record {
  table = record {
    dual = dual;
    seen_is_action = λ m n e. cc;
    seen_sees_none = λ k m n e. refl;
    seen_before = λ m n e. cc;
    value_rank = value_rank;
    values_free = values_free;
    value_leaves = value_leaves;
    action_rank = action_rank;
    rank_rises = rank_rises;
    by_rank = λ m n e s s' r. by_rank m n e r;
  };
  fit = record {
    opening = h;
    emptied = λ p f. f;
    emptied_twice = λ p f. refl;
    opening_empty = refl;
    applied = λ p c f k r. applied width start resets c.method p c.args f k.args;
  };
  guards = record {
    never = λ m p g. refl;
    sometimes = λ m g. absurd (let x : ⊥ = cc in x);
  };
  shows = record { opening = refl; emptied = λ p registers f s. s };
  widths = record {
    argument = λ m k l a. (rw (← h.same_width) h.word.some, rw (← h.same_width) h.word.most);
    result = λ p c f k a. number_fits width start resets p f;
    start = λ r l. h;
    guard_piece = λ m l. (bit_is_word, refl);
    result_piece = λ m l a. (omega arith, refl);
    next_piece = λ r l. ((omega arith, refl), (omega arith, omega arith, refl), (omega arith, refl));
  };
  speaks = record { guard = λ y l. tt; result = λ y l a. tt };
  commute = record {
    either_order = λ p x y f k l e r s. (refl, refl, commutes width start resets x.method y.method p x.args y.args e);
    stays_ready = λ p x y f k l a e s s' r q. refl;
  };
  look = record {
    ready = λ p cs y f o k b r. refl;
    result = λ p cs y f o k b a r. ap (number_in width) (reads width start resets p y cs (is_read y.method k.method (value_is_no_write y.method a)) b ∙ sym (ap (after_calls (register_table width start resets) p) (filter_none cs)));
  };
  pieces = record {
    guard = λ p cs m v f e s o k b d. refl;
    result = λ p cs y v f e s o k b d w a r. s ∙ ap (number_in width) (sees_none width start resets p cs b);
  };
  next = λ p cs v f s o r d. next_word width start resets (number_in width p) (latest 1 None cs) v s (d 1 (omega arith)) ∙ sym (run width start resets (number_in width p) None p cs o (start_written width start resets p));
}

pub reg_laws : (width : ℕ) (start : Bits) → IsWordOf width start → Laws (reg_table width start)
reg_laws width start h = register_laws width start true h

-- the number with odd bits fits
odd_bits_below : (width : ℕ) → odd_bits width < 2 ^ width
odd_bits_below zero = omega arith
odd_bits_below (suc i) =
    let twice : 2 ^ suc i ≡ 2 * 2 ^ i = pow-succ' 2 i in
    let one : i % 2 ≤ 1 = omega (arith, mod_below i 2 (omega arith)) in
    let most : i % 2 * 2 ^ i ≤ 1 * 2 ^ i = mul-le (i % 2) (2 ^ i) 1 (2 ^ i) one (omega arith) in
    omega (arith, odd_bits_below i)

pub regu_laws : (width : ℕ) → 1 ≤ width → width ≤ 128 → Laws (regu_table width)
regu_laws width some most =
    register_laws width (unset_start width) false
    (record { word = record { some = some; most = most; below = odd_bits_below width }; same_width = refl })
