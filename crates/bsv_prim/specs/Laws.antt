-- The laws that each kind of primitive keeps. Code above may use these and the tables alone.
use Rattle.std.specs.Prelude.{◌≡◌, ℕ, ◌<◌, ◌≤◌, true, false, List, [], ◌⊎◌}
use Rattle.std.specs.List.{AllByRecursion}
use Rattle.bsv_bits.specs.Words.{Bits, bit}
use Rattle.bsv_prim.specs.Signals.{Signals, word_of}
use Rattle.bsv_prim.specs.Table.{Table, Call, CallFits, IsWordOf, goes_before, in_one_element, converse, word_at}
use Rattle.bsv_prim.specs.Calls.{after_call, after_calls, IsReady, MayPrecede, IsOrderly, look, IsReadyInLooks, Tells}
use Rattle.bsv_prim.specs.Widths.{HasWidth}
use Rattle.bsv_prim.specs.Speaks.{SpeaksOf}
use Rattle.bsv_prim.specs.declared.part.Part.{Part}
use Rattle.bsv_prim.specs.declared.primitive.Rel.TheVariants.{Cf, Sb}

-- the table's own sentences
pub record TableLaws (t : Table) : Type 0 where
  -- x SB y exactly where y SA x; the other relations hold both ways
  pub dual : (m n : ℕ) → t.relation n m ≡ converse (t.relation m n)
  -- a method that is seen is an action, sees none itself, and is SB to the one that sees it
  pub seen_is_action : (m n : ℕ) → t.sees m n ≡ true → t.is_action m ≡ true
  pub seen_sees_none : (k m n : ℕ) → t.sees m n ≡ true → t.sees k m ≡ false
  pub seen_before : (m n : ℕ) → t.sees m n ≡ true → t.relation m n ≡ Sb
  -- value methods have rank 0, are free of each other, and leave the part
  pub value_rank : (m : ℕ) → t.is_action m ≡ false → t.rank m ≡ 0
  pub values_free : (m n : ℕ) → t.is_action m ≡ false → t.is_action n ≡ false → t.relation m n ≡ Cf
  pub value_leaves : (m : ℕ) (p : Part) (args : List Bits) → t.is_action m ≡ false → t.apply m p args ≡ p
  -- actions have a rank above 0, which is the lower one where one is SB to the other
  pub action_rank : (m : ℕ) → t.is_action m ≡ true → 1 ≤ t.rank m
  pub rank_rises : (m n : ℕ) → t.is_action m ≡ true → t.is_action n ≡ true → t.relation m n ≡ Sb → t.rank m < t.rank n
  -- two calls that may be in one element may precede each other as their ranks stand
  pub by_rank : (m n : ℕ) → in_one_element (t.relation m n) ≡ true → t.sees m n ≡ false → t.sees n m ≡ false → t.rank m ≤ t.rank n → goes_before (t.relation m n) ≡ true

-- parts fit from the opening on
pub record FitLaws (t : Table) : Type 0 where
  pub opening : t.Fits t.opening
  pub emptied : (p : Part) → t.Fits p → t.Fits (t.emptied p)
  pub emptied_twice : (p : Part) → t.Fits p → t.emptied (t.emptied p) ≡ t.emptied p
  pub opening_empty : t.emptied t.opening ≡ t.opening
  pub applied : (p : Part) (c : Call) → t.Fits p → CallFits t c → IsReady t p c → t.Fits (after_call t p c)

-- guarded is true exactly where the guard is false on some fitting part; the guard of a method
-- that is not guarded is true on every part
pub record GuardLaws (t : Table) : Type 0 where
  pub never : (m : ℕ) (p : Part) → t.guarded m ≡ false → t.guard m p ≡ true
  pub sometimes : (m : ℕ) → t.guarded m ≡ true → (p : Part) × t.Fits p × (t.guard m p ≡ false)

-- the registers that show a part
pub record ShowLaws (t : Table) : Type 0 where
  pub opening : t.Shows t.opening t.register_start
  pub emptied : (p : Part) (registers : ℕ → Bits) → t.Fits p → t.Shows p registers → t.Shows (t.emptied p) registers

-- words have their widths, and pieces are well formed
pub record WidthLaws (t : Table) : Type 0 where
  pub argument : (m k : ℕ) → m < t.methods → k < t.arity m → (1 ≤ t.argument_width m k) × (t.argument_width m k ≤ 128)
  pub result : (p : Part) (c : Call) → t.Fits p → CallFits t c → t.is_action c.method ≡ false → IsWordOf (t.result_width c.method) (t.result c.method p c.args)
  pub start : (r : ℕ) → r < t.registers → IsWordOf (t.register_width r) (t.register_start r)
  pub guard_piece : (m : ℕ) → m < t.methods → HasWidth t (t.guard_piece m) 1
  pub result_piece : (m : ℕ) → m < t.methods → t.is_action m ≡ false → HasWidth t (t.result_piece m) (t.result_width m)
  pub next_piece : (r : ℕ) → r < t.registers → HasWidth t (t.next_piece r) (t.register_width r)

-- a guard's piece speaks of the methods that its method sees, and a result's piece takes its
-- method's own arguments too
pub record SpeakLaws (t : Table) : Type 0 where
  pub guard : (y : ℕ) → y < t.methods → SpeaksOf (λ m. t.sees m y ≡ true) (λ m. t.sees m y ≡ true) (t.guard_piece y)
  pub result : (y : ℕ) → y < t.methods → t.is_action y ≡ false → SpeaksOf (λ m. t.sees m y ≡ true) (λ m. (t.sees m y ≡ true) ⊎ (m ≡ y)) (t.result_piece y)

-- the first law: two CF calls that are both ready may be applied in either order with the same end,
-- and neither makes the other unready; an action that is SB to another call, where neither sees
-- the other, leaves it ready
pub record CommuteLaw (t : Table) : Type 0 where
  pub either_order : (p : Part) (x y : Call) → t.Fits p → CallFits t x → CallFits t y → t.relation x.method y.method ≡ Cf → IsReady t p x → IsReady t p y
      → IsReady t (after_call t p x) y × IsReady t (after_call t p y) x × (after_call t (after_call t p x) y ≡ after_call t (after_call t p y) x)
  pub stays_ready : (p : Part) (x y : Call) → t.Fits p → CallFits t x → CallFits t y → t.is_action x.method ≡ true → t.relation x.method y.method ≡ Sb → t.sees x.method y.method ≡ false → t.sees y.method x.method ≡ false → IsReady t p x → IsReady t p y
      → IsReady t (after_call t p x) y

-- the second law: a call that is ready in its look, after an orderly list of calls that all may
-- precede it, is ready after the whole list, with the same result
pub record LookLaw (t : Table) : Type 0 where
  pub ready : (p : Part) (cs : List Call) (y : Call) → t.Fits p → IsOrderly t p cs → CallFits t y → AllByRecursion (λ c. MayPrecede t c y) cs → IsReady t (look t y.method p cs) y
      → IsReady t (after_calls t p cs) y
  pub result : (p : Part) (cs : List Call) (y : Call) → t.Fits p → IsOrderly t p cs → CallFits t y → AllByRecursion (λ c. MayPrecede t c y) cs → t.is_action y.method ≡ false → IsReady t (look t y.method p cs) y
      → t.result y.method (after_calls t p cs) y.args ≡ t.result y.method (look t y.method p cs) y.args

-- the third law: the registers show an emptied part, and the signals tell an orderly list of calls
-- that a method sees. The guard's piece is 1 exactly where the guard holds after that list, and the
-- result's piece is then the result
pub record PieceLaw (t : Table) : Type 0 where
  pub guard : (p : Part) (cs : List Call) (m : ℕ) (v : Signals) → t.Fits p → t.emptied p ≡ p → t.Shows p v.register → IsOrderly t p cs → m < t.methods → AllByRecursion (λ c. t.sees c.method m ≡ true) cs → Tells t v cs
      → word_of v (t.guard_piece m) ≡ bit (t.guard m (after_calls t p cs))
  pub result : (p : Part) (cs : List Call) (y : Call) (v : Signals) → t.Fits p → t.emptied p ≡ p → t.Shows p v.register → IsOrderly t p cs → CallFits t y → AllByRecursion (λ c. t.sees c.method y.method ≡ true) cs → Tells t v cs
      → ((k : ℕ) → k < t.arity y.method → v.argument y.method k ≡ word_at y.args k) → t.is_action y.method ≡ false → IsReady t (after_calls t p cs) y
      → word_of v (t.result_piece y.method) ≡ t.result y.method (after_calls t p cs) y.args

-- the fourth law: the registers show a part, and the signals tell an orderly list in which each call
-- is ready after the earlier ones that it sees. The next pieces show the part after that list
abbrev pub NextLaw : Table → Type 0
NextLaw t =
    (p : Part) (cs : List Call) (v : Signals) → t.Fits p → t.Shows p v.register → IsOrderly t p cs → IsReadyInLooks t p [] cs → Tells t v cs
    → t.Shows (after_calls t p cs) (λ r. word_of v (t.next_piece r))

pub record Laws (t : Table) : Type 0 where
  pub table : TableLaws t
  pub fit : FitLaws t
  pub guards : GuardLaws t
  pub shows : ShowLaws t
  pub widths : WidthLaws t
  pub speaks : SpeakLaws t
  pub commute : CommuteLaw t
  pub look : LookLaw t
  pub pieces : PieceLaw t
  pub next : NextLaw t
