-- What calls come to on a register with ports.
-- Proof alone, with the words of the proof: it is in specs/ since the `laws` of an impl may cite
-- nothing of proofs/.
use Rattle.std.proofs.Common.{◌≡◌, ℕ, zero, suc, ◌+◌, ◌*◌, ◌<◌, ◌≤◌, Bool, true, false, List, [], ◌∷◌, refl, ap, sym, ◌∙◌, arith, Option, Some, None, inl, inr}
use Rattle.std.specs.Prelude.{◌⊎◌, nat_eq, nat_lt, if◌then◌else◌, MatchOption}
use Rattle.std.specs.List.{AllByRecursion}
use Rattle.std.proofs.lemmas.Bool.{ltb-true, eqb-true}
use Rattle.std.proofs.lemmas.Bool.Decides.{nat_tests}
use Rattle.bsv_bits.specs.Words.{Bits, bit}
use Rattle.bsv_prim.specs.Signals.{Signals, is_one, word_of}
use Rattle.bsv_prim.specs.Table.{Table, Call, word_at, goes_before}
use Rattle.bsv_prim.specs.Calls.{IsOrderly, MayPrecede, Tells, after_calls, latest}
use Rattle.bsv_prim.specs.CallLists.{all_weaker, latest_none}
use Rattle.bsv_prim.specs.Registers.{number_in}
use Rattle.bsv_prim.specs.declared.part.Part.{Part}
use Rattle.bsv_prim.specs.declared.primitive.Rel.TheVariants.{Sb, Sa, C}
use Rattle.bsv_creg.specs.declared.method.Method.TheVariants.{Read, Write}
use Rattle.bsv_creg.specs.Ports.{port_method, port_arity, port_apply, port_relation, number_below, creg_table}
use Rattle.bsv_creg.specs.PortRules.{decoded, write_number}

-- what was written, or else a number
abbrev pub or_number : Option (List Bits) → Bits → Bits
or_number None w = w
or_number (Some args) w = word_at args 0

-- what the calls write through the highest port below this one, or else a number
abbrev pub highest : ℕ → Bits → List Call → Bits
highest zero w cs = w
highest (suc j) w cs = or_number (latest (2 * j + 1) None cs) (highest j w cs)

-- a call writes through no port below this one
abbrev pub IsAbove : ℕ → Call → Type 0
IsAbove n c = (j : ℕ) → j < n → nat_eq c.method (2 * j + 1) ≡ false

-- a call that writes does so through a port below this one
abbrev pub IsBelow : ℕ → Call → Type 0
IsBelow n c = (k : ℕ) → c.method ≡ 2 * k + 1 → k < n

-- ---- lists of calls

fewer_above : (n m : ℕ) → m ≤ n → (cs : List Call) → AllByRecursion (IsAbove n) cs → AllByRecursion (IsAbove m) cs
fewer_above n m l cs h =
    all_weaker {P = IsAbove n} {Q = IsAbove m} (λ c e. λ j i. e j (omega arith)) cs h

-- no call writes through a port that all are above
not_through : (n j : ℕ) → j < n → (o : Option (List Bits)) (cs : List Call) → AllByRecursion (IsAbove n) cs → latest (2 * j + 1) o cs ≡ o
not_through n j l o cs h =
    latest_none (2 * j + 1) o cs
    (all_weaker {P = IsAbove n} {Q = λ c. nat_eq c.method (2 * j + 1) ≡ false} (λ c e. e j l) cs h)

quiet : (n : ℕ) (w : Bits) (cs : List Call) → AllByRecursion (IsAbove n) cs → highest n w cs ≡ w
quiet zero w cs h = refl
quiet (suc j) w cs h =
    rw (not_through (suc j) j (omega arith) None cs h) (quiet j w cs (fewer_above (suc j) j (omega arith) cs h))

-- a call in front that writes through no port below this one
past : (n : ℕ) (w : Bits) (c : Call) (cs : List Call) → IsAbove n c → highest n w (c ∷ cs) ≡ highest n w cs
past zero w c cs h = refl
past (suc j) w c cs h =
    rw (h j (omega arith))
    (ap (or_number (latest (2 * j + 1) None cs)) (past j w c cs (λ k l. h k (omega arith))))

-- a write in front, through a port below all later ones
written : (n k : ℕ) (w : Bits) (c : Call) (cs : List Call) → c.method ≡ 2 * k + 1 → k < n → AllByRecursion (IsAbove (suc k)) cs → highest n w (c ∷ cs) ≡ highest n (word_at c.args 0) cs
written zero k w c cs e l h = absurd (omega arith)
written (suc j) k w c cs e l h = cases (nat_eq k j) refl (written j k w c cs e)
  where
    cases : (b : Bool) → nat_eq k j ≡ b → (k < j → AllByRecursion (IsAbove (suc k)) cs → highest j w (c ∷ cs) ≡ highest j (word_at c.args 0) cs)
        → highest (suc j) w (c ∷ cs) ≡ highest (suc j) (word_at c.args 0) cs
    cases true q later =
        let same : k ≡ j = eqb-true k j q in
        let here : nat_eq c.method (2 * j + 1) ≡ true = grind (arith, nat_tests) in
        let above = fewer_above (suc k) (suc j) (omega arith) cs h in
        rw here
        (rw (not_through (suc j) j (omega arith) (Some c.args) cs above) (sym (quiet (suc j) (word_at c.args 0) cs above)))
    cases false q later =
        let below : k < j = grind (arith, nat_tests) in
        let other : nat_eq c.method (2 * j + 1) ≡ false = grind (arith, nat_tests) in
        rw other (ap (or_number (latest (2 * j + 1) None cs)) (later below h))

-- ---- the end of an orderly list

not_before : (k j : ℕ) → j ≤ k → goes_before (port_relation (Write k) (Write j)) ≡ true → ⊥
not_before k j l h = cases (nat_eq k j) (nat_lt k j) refl h
  where
    cases : (a b : Bool) → nat_lt k j ≡ b → (goes_before (if a then C else (if b then Sb else Sa))) ≡ true → ⊥
    cases true b e h = cc
    cases false true e h = let below : k < j = ltb-true k j e in omega arith
    cases false false e h = cc

module _ (width ports : ℕ) (start : Bits) where
  abbrev t : Table
  t = creg_table width ports start

  -- the calls that a write may precede
  above : (k : ℕ) (c d : Call) → port_method c.method ≡ Write k → MayPrecede t c d → IsAbove (suc k) d
  above k c d e h j l = cases (nat_eq d.method (2 * j + 1)) refl
    where
      cases : (b : Bool) → nat_eq d.method (2 * j + 1) ≡ b → b ≡ false
      cases false q = refl
      cases true q =
          let same : d.method ≡ 2 * j + 1 = eqb-true d.method (2 * j + 1) q in
          let write : port_method d.method ≡ Write j = ap port_method same ∙ write_number j in
          absurd (not_before k j (omega arith) (rw (e, write) at h))

  read_above : (n k : ℕ) (c : Call) → c.method ≡ 2 * k → IsAbove n c
  read_above n k c e j l = grind (arith, nat_tests)

  -- the number after an orderly list whose writes go through ports below this one
  pub run : (n : ℕ) (p : Part) (cs : List Call) → IsOrderly t p cs → AllByRecursion (IsBelow n) cs → number_in width (after_calls t p cs) ≡ highest n (number_in width p) cs
  run n p [] o h = sym (quiet n (number_in width p) [] tt)
  run n p (c ∷ cs) o h =
      run n (port_apply (port_method c.method) p c.args) cs o.3 h.1 ∙ sym (front (decoded c.method))
    where
      front : ((k : ℕ) × (c.method ≡ 2 * k) × (port_method c.method ≡ Read k)) ⊎ ((k : ℕ) × (c.method ≡ 2 * k + 1) × (port_method c.method ≡ Write k))
          → highest n (number_in width p) (c ∷ cs) ≡ highest n (number_in width (port_apply (port_method c.method) p c.args)) cs
      front (inl r) =
          past n (number_in width p) c cs (read_above n r.0 c r.1)
          ∙ sym (ap (λ m. highest n (number_in width (port_apply m p c.args)) cs) r.2)
      front (inr s) =
          written n s.0 (number_in width p) c cs s.1 (h.0 s.0 s.1)
          (all_weaker {P = MayPrecede t c} {Q = IsAbove (suc s.0)} (λ d e. above s.0 c d s.2 e) cs o.2)
          ∙ sym (ap (λ m. highest n (number_in width (port_apply m p c.args)) cs) s.2)

  pub has_argument : (j : ℕ) → 0 < port_arity (port_method (2 * j + 1))
  has_argument j = rw (write_number j) (omega arith)

  -- the piece gives what the calls write
  pub told : (v : Signals) (cs : List Call) (w : Bits) (n : ℕ) → v.register 0 ≡ w → Tells t v cs → n ≤ ports → word_of v (number_below n) ≡ highest n w cs
  told v cs w zero s d l = s
  told v cs w (suc j) s d l =
      step (latest (2 * j + 1) None cs) (d (2 * j + 1) (omega arith)) (told v cs w j s d (omega arith))
    where
      step : (o : Option (List Bits)) → MatchOption o (v.called (2 * j + 1) ≡ false) (λ args. (v.called (2 * j + 1) ≡ true) × ((k : ℕ) → k < port_arity (port_method (2 * j + 1)) → v.argument (2 * j + 1) k ≡ word_at args k))
          → word_of v (number_below j) ≡ highest j w cs
          → (if is_one (bit (v.called (2 * j + 1))) then v.argument (2 * j + 1) 0 else word_of v (number_below j)) ≡ or_number o (highest j w cs)
      step None c before = rw c before
      step (Some args) c before = rw c.0 (c.1 0 (has_argument j))

  -- each call of an orderly list writes through a port that there is
  pub within : (p : Part) (cs : List Call) → IsOrderly t p cs → AllByRecursion (IsBelow ports) cs
  within p [] o = tt
  within p (c ∷ cs) o =
      let fits = o.0.method in
      ((λ k e. omega arith), within (port_apply (port_method c.method) p c.args) cs o.3)
