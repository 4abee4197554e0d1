-- A wire keeps the laws.
-- Proof alone, with the words of the proof: it is in specs/ since the `laws` of an impl may cite
-- nothing of proofs/.
use Rattle.std.proofs.Common.{◌≡◌, ℕ, zero, suc, ◌<◌, ◌≤◌, Bool, true, false, List, [], ◌∷◌, refl, ap, sym, ◌∙◌, arith, Option, Some, None, inl, inr}
use Rattle.std.specs.Prelude.{◌⊎◌, nat_eq, if◌then◌else◌, MatchOption}
use Rattle.std.specs.List.{AllByRecursion}
use Rattle.std.proofs.lemmas.Bool.Decides.{nat_tests}
use Rattle.bsv_bits.specs.Words.{Bits, bit}
use Rattle.bsv_prim.specs.Signals.{Signals, word_of}
use Rattle.bsv_prim.specs.Widths.{HasWidth}
use Rattle.bsv_prim.specs.Speaks.{SpeaksOf}
use Rattle.bsv_prim.specs.Table.{Table, Call, ArgsFit, IsWordOf, word_at, goes_before, in_one_element, converse}
use Rattle.bsv_prim.specs.Calls.{IsOrderly, IsReady, MayPrecede, after_call, after_calls, look, latest, Tells}
use Rattle.bsv_prim.specs.Laws.{Laws}
use Rattle.bsv_prim.specs.Registers.{always}
use Rattle.bsv_prim.specs.WireTables.{WireRow, wire_table, wire_rank, wire_apply, wire_guard, read_guard, wire_relation, read_piece, FitsHeld, FitsOption, held_in, sent, write_or_read}
use Rattle.bsv_prim.specs.CallLists.{look_whole, all_weaker}
use Rattle.bsv_prim.specs.declared.part.Part.{Part}
use Rattle.bsv_prim.specs.declared.part.Part.TheVariants.{Number, Held, Queue}
use Rattle.bsv_prim.specs.declared.primitive.Rel.TheVariants.{Cf, Sb}
use Rattle.bsv_prim.specs.RegisterLaws.{bit_is_word}

-- what a wire holds after a write, if there is one
abbrev pub filled_by : ℕ → Option (List Bits) → Option Bits
filled_by arity None = None
filled_by arity (Some args) = Some (sent arity args)

-- the signals tell of the write
abbrev pub IsWritten : Signals → ℕ → Option (List Bits) → Type 0
IsWritten v arity o =
    MatchOption o (v.called 0 ≡ false) (λ args. (v.called 0 ≡ true) × ((k : ℕ) → k < arity → v.argument 0 k ≡ word_at args k))

-- what a wire's row needs, that its table keeps the laws
pub record IsWire (row : WireRow) : Type 0 where
  pub some : 1 ≤ row.width
  pub most : row.width ≤ 128
  pub sent_fits : (args : List Bits) → ArgsFit (wire_table row) 0 args → IsWordOf row.width (sent row.arity args)
  pub answers : (v : Signals) (o : Option (List Bits)) → IsWritten v row.arity o → word_of v row.piece ≡ row.answer (filled_by row.arity o)
  pub answer_width : (o : Option Bits) → FitsOption row.width o → IsWordOf row.answer_width (row.answer o)
  pub piece_width : HasWidth (wire_table row) row.piece row.answer_width
  pub speaks : (y : ℕ) → SpeaksOf (λ m. (wire_table row).sees m (suc y) ≡ true) (λ m. ((wire_table row).sees m (suc y) ≡ true) ⊎ (m ≡ suc y)) row.piece

dual : (m n : ℕ) → wire_relation n m ≡ converse (wire_relation m n)
dual zero zero = refl
dual zero (suc n) = refl
dual (suc m) zero = refl
dual (suc m) (suc n) = refl

abbrev seen : ℕ → ℕ → Bool
seen m n = write_or_read (write_or_read false true n) false m

seen_is_action : (m n : ℕ) → seen m n ≡ true → write_or_read true false m ≡ true
seen_is_action zero n e = refl
seen_is_action (suc m) n e = cc

seen_sees_none : (k m n : ℕ) → seen m n ≡ true → seen k m ≡ false
seen_sees_none zero zero n e = refl
seen_sees_none (suc k) zero n e = refl
seen_sees_none k (suc m) n e = absurd (let x : ⊥ = cc in x)

seen_before : (m n : ℕ) → seen m n ≡ true → wire_relation m n ≡ Sb
seen_before zero zero e = cc
seen_before zero (suc n) e = refl
seen_before (suc m) n e = absurd (let x : ⊥ = cc in x)

value_rank : (m : ℕ) → write_or_read true false m ≡ false → wire_rank m ≡ 0
value_rank zero e = cc
value_rank (suc m) e = refl

action_rank : (m : ℕ) → write_or_read true false m ≡ true → 1 ≤ wire_rank m
action_rank zero e = omega arith
action_rank (suc m) e = absurd (let x : ⊥ = cc in x)

values_free : (m n : ℕ) → write_or_read true false m ≡ false → write_or_read true false n ≡ false → wire_relation m n ≡ Cf
values_free zero n a b = cc
values_free (suc m) zero a b = cc
values_free (suc m) (suc n) a b = refl

value_leaves : (arity m : ℕ) (p : Part) (args : List Bits) → write_or_read true false m ≡ false → wire_apply arity m p args ≡ p
value_leaves arity zero p args e = cc
value_leaves arity (suc m) p args e = refl

rank_rises : (m n : ℕ) → write_or_read true false m ≡ true → write_or_read true false n ≡ true → wire_relation m n ≡ Sb → wire_rank m < wire_rank n
rank_rises zero zero a b e = absurd (let x : ⊥ = cc in x)
rank_rises zero (suc n) a b e = absurd (let x : ⊥ = cc in x)
rank_rises (suc m) n a b e = absurd (let x : ⊥ = cc in x)

by_rank : (m n : ℕ) → in_one_element (wire_relation m n) ≡ true → seen n m ≡ false → wire_rank m ≤ wire_rank n → goes_before (wire_relation m n) ≡ true
by_rank zero zero e s r = cc
by_rank zero (suc n) e s r = refl
by_rank (suc m) zero e s r = absurd (let x : ⊥ = cc in x)
by_rank (suc m) (suc n) e s r = refl

module _ (row : WireRow) (is : IsWire row) where
  abbrev t : Table
  t = wire_table row

  commutes : (m n : ℕ) (p : Part) (args brgs : List Bits) → wire_relation m n ≡ Cf → wire_guard row.needs m p ≡ true → wire_guard row.needs n p ≡ true
      → (wire_guard row.needs n (wire_apply row.arity m p args) ≡ true) × (wire_guard row.needs m (wire_apply row.arity n p brgs) ≡ true) × (wire_apply row.arity n (wire_apply row.arity m p args) brgs ≡ wire_apply row.arity m (wire_apply row.arity n p brgs) args)
  commutes zero zero p args brgs e g h = absurd (let x : ⊥ = cc in x)
  commutes zero (suc n) p args brgs e g h = absurd (let x : ⊥ = cc in x)
  commutes (suc m) zero p args brgs e g h = absurd (let x : ⊥ = cc in x)
  commutes (suc m) (suc n) p args brgs e g h = (h, g, refl)

  stays : (m n : ℕ) (p : Part) (args : List Bits) → wire_relation m n ≡ Sb → seen m n ≡ false → wire_guard row.needs n (wire_apply row.arity m p args) ≡ true
  stays zero zero p args e s = cc
  stays zero (suc n) p args e s = cc
  stays (suc m) zero p args e s = cc
  stays (suc m) (suc n) p args e s = cc

  -- what may precede a call is seen or does nothing
  seen_or_idle : (m n : ℕ) (args : List Bits) → goes_before (wire_relation m n) ≡ true → (seen m n ≡ true) ⊎ ((q : Part) → wire_apply row.arity m q args ≡ q)
  seen_or_idle zero zero args e = absurd (let x : ⊥ = cc in x)
  seen_or_idle zero (suc n) args e = inl refl
  seen_or_idle (suc m) n args e = inr (λ q. refl)

  whole : (p : Part) (cs : List Call) (y : Call) → AllByRecursion (λ c. MayPrecede t c y) cs → look t y.method p cs ≡ after_calls t p cs
  whole p cs y h =
      look_whole t y.method p cs
      (all_weaker {P = λ c. MayPrecede t c y} {Q = λ c. (t.sees c.method y.method ≡ true) ⊎ ((q : Part) → after_call t q c ≡ q)} (λ c e. seen_or_idle c.method y.method c.args e) cs h)

  applied : (m : ℕ) (p : Part) (args : List Bits) → FitsHeld row.width p → ArgsFit t m args → FitsHeld row.width (wire_apply row.arity m p args)
  applied zero p args f a = is.sent_fits args a
  applied (suc m) p args f a = f

  -- what is held after writes
  held_step : (m : ℕ) (p : Part) (args : List Bits) (o : Option (List Bits)) → m < 2 → held_in p ≡ filled_by row.arity o → held_in (wire_apply row.arity m p args) ≡ filled_by row.arity (if nat_eq m 0 then Some args else o)
  held_step zero p args o l h = refl
  held_step (suc m) p args o l h = rw (not_zero m) h
    where
      not_zero : (m : ℕ) → nat_eq (suc m) 0 ≡ false
      not_zero m = grind (arith, nat_tests)

  held_run : (p : Part) (cs : List Call) (o : Option (List Bits)) → IsOrderly t p cs → held_in p ≡ filled_by row.arity o → held_in (after_calls t p cs) ≡ filled_by row.arity (latest 0 o cs)
  held_run p [] o h e = e
  held_run p (c ∷ cs) o h e =
      held_run (wire_apply row.arity c.method p c.args) cs (if nat_eq c.method 0 then Some c.args else o) h.3 (held_step c.method p c.args o h.0.method e)

  empty : (p : Part) → Held None ≡ p → held_in p ≡ filled_by row.arity None
  empty p e = sym (ap held_in e)

  guards : (m : ℕ) (p : Part) (v : Signals) (o : Option (List Bits)) → IsWritten v row.arity o → held_in p ≡ filled_by row.arity o → word_of v (write_or_read always (read_piece row.needs) m) ≡ bit (wire_guard row.needs m p)
  guards zero p v o w h = refl
  guards (suc m) p v o w h = reads row.needs o w h
    where
      reads : (b : Bool) (o : Option (List Bits)) → IsWritten v row.arity o → held_in p ≡ filled_by row.arity o → word_of v (read_piece b) ≡ bit (read_guard b p)
      reads false o w h = refl
      reads true None w h = rw (w, h) refl
      reads true (Some args) w h = rw (w.0, h) refl

  -- an empty wire is what a read may be guarded against
  never : (m : ℕ) (p : Part) → write_or_read false row.needs m ≡ false → wire_guard row.needs m p ≡ true
  never zero p e = refl
  never (suc m) p e = rw e refl

  sometimes : (m : ℕ) → write_or_read false row.needs m ≡ true → (p : Part) × FitsHeld row.width p × (wire_guard row.needs m p ≡ false)
  sometimes zero e = absurd (let x : ⊥ = cc in x)
  sometimes (suc m) e = (Held None, tt, rw e refl)

  held_fits : (p : Part) → FitsHeld row.width p → FitsOption row.width (held_in p)
  held_fits (Number w) f = absurd f
  held_fits (Held o) f = f
  held_fits (Queue q) f = absurd f

  guard_width : (m : ℕ) → HasWidth t (write_or_read always (read_piece row.needs) m) 1
  guard_width zero = (bit_is_word, refl)
  guard_width (suc m) = reads row.needs
    where
      reads : (b : Bool) → HasWidth t (read_piece b) 1
      reads true = (omega arith, refl)
      reads false = (bit_is_word, refl)

  guard_speaks : (y : ℕ) → SpeaksOf (λ m. t.sees m y ≡ true) (λ m. t.sees m y ≡ true) (write_or_read always (read_piece row.needs) y)
  guard_speaks zero = tt
  guard_speaks (suc y) = reads row.needs
    where
      reads : (b : Bool) → SpeaksOf (λ m. t.sees m (suc y) ≡ true) (λ m. t.sees m (suc y) ≡ true) (read_piece b)
      reads true = refl
      reads false = tt

  result_speaks : (y : ℕ) → write_or_read true false y ≡ false → SpeaksOf (λ m. t.sees m y ≡ true) (λ m. (t.sees m y ≡ true) ⊎ (m ≡ y)) row.piece
  result_speaks zero e = absurd (let x : ⊥ = cc in x)
  result_speaks (suc y) e = is.speaks y

  argument_width : (m k : ℕ) → (1 ≤ row.width) × (row.width ≤ 128)
  argument_width m k = (is.some, is.most)

  look_ready : (p : Part) (cs : List Call) (y : Call) → AllByRecursion (λ c. MayPrecede t c y) cs → IsReady t (look t y.method p cs) y → IsReady t (after_calls t p cs) y
  look_ready p cs y h r = ap (λ (q : Part). wire_guard row.needs y.method q) (sym (whole p cs y h)) ∙ r

  look_result : (p : Part) (cs : List Call) (y : Call) → AllByRecursion (λ c. MayPrecede t c y) cs → row.answer (held_in (after_calls t p cs)) ≡ row.answer (held_in (look t y.method p cs))
  look_result p cs y h = ap (λ (q : Part). row.answer (held_in q)) (sym (whole p cs y h))

  guard_piece : (p : Part) (cs : List Call) (m : ℕ) (v : Signals) → Held None ≡ p → IsOrderly t p cs → Tells t v cs → word_of v (t.guard_piece m) ≡ bit (t.guard m (after_calls t p cs))
  guard_piece p cs m v e o w = guards m (after_calls t p cs) v (latest 0 None cs) (w 0 (omega arith)) (held_run p cs None o (empty p e))

  result_piece : (p : Part) (cs : List Call) (v : Signals) → Held None ≡ p → IsOrderly t p cs → Tells t v cs → word_of v row.piece ≡ row.answer (held_in (after_calls t p cs))
  result_piece p cs v e o w = is.answers v (latest 0 None cs) (w 0 (omega arith)) ∙ ap row.answer (sym (held_run p cs None o (empty p e)))

pub wire_laws : (row : WireRow) → IsWire row → Laws (wire_table row)
wire_laws row is = record {
  table = record {
    dual = dual;
    seen_is_action = seen_is_action;
    seen_sees_none = seen_sees_none;
    seen_before = seen_before;
    value_rank = value_rank;
    values_free = values_free;
    value_leaves = value_leaves row.arity;
    action_rank = action_rank;
    rank_rises = rank_rises;
    by_rank = λ m n e s s' r. by_rank m n e s' r;
  };
  fit = record {
    opening = tt;
    emptied = λ p f. tt;
    emptied_twice = λ p f. refl;
    opening_empty = refl;
    applied = λ p c f k r. applied row is c.method p c.args f k.args;
  };
  guards = record { never = λ m p g. never row is m p g; sometimes = sometimes row is };
  shows = record { opening = tt; emptied = λ p registers f s. tt };
  widths = record {
    argument = λ m k l a. argument_width row is m k;
    result = λ p c f k a. is.answer_width (held_in p) (held_fits row is p f);
    start = λ r l. absurd (omega arith);
    guard_piece = λ m l. guard_width row is m;
    result_piece = λ m l a. is.piece_width;
    next_piece = λ r l. absurd (omega arith);
  };
  speaks = record { guard = λ y l. guard_speaks row is y; result = λ y l a. result_speaks row is y a };
  commute = record {
    either_order = λ p x y f k l e r s. commutes row is x.method y.method p x.args y.args e r s;
    stays_ready = λ p x y f k l a e s s' r q. stays row is x.method y.method p x.args e s;
  };
  look = record {
    ready = λ p cs y f o k h r. look_ready row is p cs y h r;
    result = λ p cs y f o k h a r. look_result row is p cs y h;
  };
  pieces = record {
    guard = λ p cs m v f e s o k h w. guard_piece row is p cs m v e o w;
    result = λ p cs y v f e s o k h w z a r. result_piece row is p cs v e o w;
  };
  next = λ p cs v f s o r w. tt;
}
