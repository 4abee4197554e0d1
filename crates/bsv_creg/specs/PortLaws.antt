-- A register with ports keeps the laws.
-- Proof alone: it is in specs/ since the `laws` of an impl may cite nothing of proofs/.
use Rattle.std.proofs.Common.{◌≡◌, ℕ, zero, suc, ◌+◌, ◌*◌, ◌<◌, ◌≤◌, Bool, true, false, List, refl, ap, sym, ◌∙◌, subst, arith, inl, inr}
use Rattle.std.specs.Prelude.{◌⊎◌, nat_eq, nat_lt, if◌then◌else◌}
use Rattle.std.specs.List.{AllByRecursion}
use Rattle.std.proofs.lemmas.Bool.{ltb-true, lt-ltb}
use Rattle.bsv_bits.specs.Words.{Bits}
use Rattle.bsv_prim.specs.Signals.{Signals, word_of}
use Rattle.bsv_prim.specs.Speaks.{SpeaksOf}
use Rattle.bsv_prim.specs.Widths.{HasWidth}
use Rattle.bsv_prim.specs.Table.{Table, Call, ArgsFit, IsWordOf, goes_before}
use Rattle.bsv_prim.specs.Calls.{IsOrderly, MayPrecede, Tells, after_call, after_calls, look}
use Rattle.bsv_prim.specs.CallLists.{look_whole, all_weaker}
use Rattle.bsv_prim.specs.Laws.{Laws}
use Rattle.bsv_prim.specs.RegisterLaws.{bit_is_word}
use Rattle.bsv_prim.specs.Registers.{FitsNumber, number_in}
use Rattle.bsv_prim.specs.declared.part.Part.{Part}
use Rattle.bsv_prim.specs.declared.part.Part.TheVariants.{Number, Held, Queue}
use Rattle.bsv_prim.specs.declared.primitive.Rel.TheVariants.{Cf, Sb, Sa, C}
use Rattle.bsv_creg.specs.declared.method.Method.{Method}
use Rattle.bsv_creg.specs.declared.method.Method.TheVariants.{Read, Write}
use Rattle.bsv_creg.specs.Ports.{port_method, writes, port_apply, port_relation, port_sees, port_of, number_below, creg_table}
use Rattle.bsv_creg.specs.PortRules.{decoded, write_number, creg_rules}
use Rattle.bsv_creg.specs.PortCalls.{IsBelow, run, told, within, has_argument}

-- the port of a method that reads
reads : (m : ℕ) → writes (port_method m) ≡ false → (i : ℕ) × (port_method m ≡ Read i)
reads m a = cases (decoded m)
  where
    cases : ((k : ℕ) × (m ≡ 2 * k) × (port_method m ≡ Read k)) ⊎ ((k : ℕ) × (m ≡ 2 * k + 1) × (port_method m ≡ Write k)) → (i : ℕ) × (port_method m ≡ Read i)
    cases (inl r) = (r.0, r.2)
    cases (inr s) = absurd (let x : true ≡ false = sym (ap writes s.2) ∙ a in cc)

-- only reads are free of each other
commutes : (m n : Method) (p : Part) (args brgs : List Bits) → port_relation m n ≡ Cf → port_apply n (port_apply m p args) brgs ≡ port_apply m (port_apply n p brgs) args
commutes (Read i) n p args brgs e = refl
commutes (Write i) (Read j) p args brgs e = refl
commutes (Write i) (Write j) p args brgs e = absurd (cases (nat_eq i j) (nat_lt i j) e)
  where
    cases : (a b : Bool) → (if a then C else (if b then Sb else Sa)) ≡ Cf → ⊥
    cases true b e = cc
    cases false true e = cc
    cases false false e = cc

module _ (width ports : ℕ) (start : Bits) (h : IsWordOf width start) where
  abbrev t : Table
  t = creg_table width ports start

  fits-apply : (m : ℕ) (p : Part) (args : List Bits) → FitsNumber width p → ArgsFit t m args → FitsNumber width (port_apply (port_method m) p args)
  fits-apply m p args f a = cases (port_method m) refl
    where
      cases : (n : Method) → port_method m ≡ n → FitsNumber width (port_apply n p args)
      cases (Read i) e = f
      cases (Write i) e = a.widths 0 (rw e (omega arith))

  number_fits : (p : Part) → FitsNumber width p → IsWordOf width (number_in width p)
  number_fits (Number w) f = f
  number_fits (Held o) f = absurd f
  number_fits (Queue q) f = absurd f

  -- ---- the pieces

  below_has : (n : ℕ) → n ≤ ports → HasWidth t (number_below n) width
  below_has zero l = (omega arith, refl)
  below_has (suc j) l =
      ((omega arith, refl), (omega arith, has_argument width ports start j, refl), below_has j (omega arith))

  port_within : (m : ℕ) → m < 2 * ports → port_of (port_method m) ≤ ports
  port_within m l = cases (decoded m)
    where
      cases : ((k : ℕ) × (m ≡ 2 * k) × (port_method m ≡ Read k)) ⊎ ((k : ℕ) × (m ≡ 2 * k + 1) × (port_method m ≡ Write k)) → port_of (port_method m) ≤ ports
      cases (inl r) = rw r.2 (omega arith)
      cases (inr s) = rw s.2 (omega arith)

  below_speaks : (y i n : ℕ) → port_method y ≡ Read i → n ≤ i → SpeaksOf (λ m. t.sees m y ≡ true) (λ m. (t.sees m y ≡ true) ⊎ (m ≡ y)) (number_below n)
  below_speaks y i zero e l = tt
  below_speaks y i (suc j) e l =
      let seen : t.sees (2 * j + 1) y ≡ true = rw (write_number j, e) (lt-ltb j i (omega arith)) in
      (seen, inl seen, below_speaks y i j e (omega arith))

  result_speaks : (y : ℕ) → writes (port_method y) ≡ false → SpeaksOf (λ m. t.sees m y ≡ true) (λ m. (t.sees m y ≡ true) ⊎ (m ≡ y)) (number_below (port_of (port_method y)))
  result_speaks y a =
      let read = reads y a in
      subst (λ (n : ℕ). SpeaksOf (λ m. t.sees m y ≡ true) (λ m. (t.sees m y ≡ true) ⊎ (m ≡ y)) (number_below n))
      (sym (ap port_of read.1)) (below_speaks y read.0 read.0 read.1 (omega arith))

  -- ---- what a read sees

  -- what may precede a read is seen by it or does nothing
  seen_or_idle : (i : ℕ) (y c : Call) → port_method y.method ≡ Read i → MayPrecede t c y → (t.sees c.method y.method ≡ true) ⊎ ((q : Part) → after_call t q c ≡ q)
  seen_or_idle i y c e before = cases (port_method c.method) (rw e at before)
    where
      lower : (k : ℕ) (b : Bool) → goes_before (if b then Sb else Sa) ≡ true → b ≡ true
      lower k true g = refl
      lower k false g = cc

      cases : (n : Method) → goes_before (port_relation n (Read i)) ≡ true → (port_sees n (port_method y.method) ≡ true) ⊎ ((q : Part) → port_apply n q c.args ≡ q)
      cases (Read k) g = inr (λ q. refl)
      cases (Write k) g = inl (rw e (lower k (nat_lt k i) g))

  whole : (p : Part) (cs : List Call) (y : Call) → writes (port_method y.method) ≡ false → AllByRecursion (λ c. MayPrecede t c y) cs → look t y.method p cs ≡ after_calls t p cs
  whole p cs y a before =
      let read = reads y.method a in
      look_whole t y.method p cs
      (all_weaker {P = λ c. MayPrecede t c y} {Q = λ c. (t.sees c.method y.method ≡ true) ⊎ ((q : Part) → after_call t q c ≡ q)} (λ c e. seen_or_idle read.0 y c read.1 e) cs before)

  -- it sees writes of lower ports alone
  seen_below : (i : ℕ) (y : ℕ) (c : Call) → port_method y ≡ Read i → t.sees c.method y ≡ true → IsBelow i c
  seen_below i y c e s k odd =
      let write : port_method c.method ≡ Write k = ap port_method odd ∙ write_number k in
      ltb-true k i (rw (write, e) at s)

  result_piece : (p : Part) (cs : List Call) (y : Call) (v : Signals) → v.register 0 ≡ number_in width p → IsOrderly t p cs → y.method < 2 * ports → AllByRecursion (λ c. t.sees c.method y.method ≡ true) cs → Tells t v cs → writes (port_method y.method) ≡ false
      → word_of v (number_below (port_of (port_method y.method))) ≡ number_in width (after_calls t p cs)
  result_piece p cs y v s o l b d a =
      let read = reads y.method a in
      let most : read.0 ≤ ports = rw read.1 at (port_within y.method l) in
      ap (λ n. word_of v (number_below (port_of n))) read.1
      ∙ told width ports start v cs (number_in width p) read.0 s d most
      ∙ sym (run width ports start read.0 p cs o
      (all_weaker {P = λ c. t.sees c.method y.method ≡ true} {Q = IsBelow read.0} (λ c e. seen_below read.0 y.method c read.1 e) cs b))

pub creg_laws : (width ports : ℕ) (start : Bits) → IsWordOf width start → Laws (creg_table width ports start)
creg_laws width ports start h = record {
  table = creg_rules width ports start;
  fit = record {
    opening = h;
    emptied = λ p f. f;
    emptied_twice = λ p f. refl;
    opening_empty = refl;
    applied = λ p c f k r. fits-apply width ports start h c.method p c.args f k.args;
  };
  guards = record {
    never = λ m p g. refl;
    sometimes = λ m g. absurd (let x : ⊥ = cc in x);
  };
  shows = record { opening = refl; emptied = λ p registers f s. s };
  widths = record {
    argument = λ m k l a. (rw (← h.same_width) h.word.some, rw (← h.same_width) h.word.most);
    result = λ p c f k a. number_fits width ports start h p f;
    start = λ r l. h;
    guard_piece = λ m l. (bit_is_word, refl);
    result_piece = λ m l a. below_has width ports start h (port_of (port_method m)) (port_within width ports start h m l);
    next_piece = λ r l. below_has width ports start h ports (omega arith);
  };
  speaks = record { guard = λ y l. tt; result = λ y l a. result_speaks width ports start h y a };
  commute = record {
    either_order = λ p x y f k l e r s. (refl, refl, commutes (port_method x.method) (port_method y.method) p x.args y.args e);
    stays_ready = λ p x y f k l a e s s' r q. refl;
  };
  look = record {
    ready = λ p cs y f o k b r. refl;
    result = λ p cs y f o k b a r. ap (number_in width) (sym (whole width ports start h p cs y a b));
  };
  pieces = record {
    guard = λ p cs m v f e s o k b d. refl;
    result = λ p cs y v f e s o k b d w a r. result_piece width ports start h p cs y v s o k.method b d a;
  };
  next = λ p cs v f s o r d. told width ports start v cs (number_in width p) ports s d (omega arith) ∙ sym (run width ports start ports p cs o (within width ports start p cs o));
}
