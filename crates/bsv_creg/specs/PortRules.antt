-- The rules that the table of a register with ports keeps.
-- Proof alone: it is in specs/ since the `laws` of an impl may cite nothing of proofs/.
use Rattle.std.proofs.Common.{◌≡◌, ℕ, ◌+◌, ◌*◌, ◌/◌, ◌%◌, ◌<◌, ◌≤◌, ◌≢◌, Bool, true, false, List, refl, arith, inl, inr}
use Rattle.std.specs.Prelude.{◌⊎◌, nat_eq, nat_lt, if◌then◌else◌}
use Rattle.std.proofs.lemmas.Bool.{ltb-true, eqb-true, eqb-false}
use Rattle.std.proofs.lemmas.Bool.Decides.{nat_tests}
use Rattle.bsv_bits.specs.Words.{Bits}
use Rattle.bsv_prim.specs.Table.{goes_before, in_one_element, converse}
use Rattle.bsv_prim.specs.Laws.{TableLaws}
use Rattle.bsv_prim.specs.declared.part.Part.{Part}
use Rattle.bsv_prim.specs.declared.primitive.Rel.TheVariants.{Cf, Sb, Sa, C}
use Rattle.bsv_creg.specs.declared.method.Method.{Method}
use Rattle.bsv_creg.specs.declared.method.Method.TheVariants.{Read, Write}
use Rattle.bsv_creg.specs.Ports.{port_method, writes, port_apply, port_rank, port_relation, port_sees, creg_table}

dual : (m n : Method) → port_relation n m ≡ converse (port_relation m n)
dual (Read i) (Read j) = refl
dual (Read i) (Write j) = turned (nat_lt j i)
  where
    turned : (b : Bool) → (if b then Sb else Sa) ≡ converse (if b then Sa else Sb)
    turned true = refl
    turned false = refl
dual (Write j) (Read i) = turned (nat_lt j i)
  where
    turned : (b : Bool) → (if b then Sa else Sb) ≡ converse (if b then Sb else Sa)
    turned true = refl
    turned false = refl
dual (Write i) (Write j) = turned (nat_eq i j) (nat_eq j i) (nat_lt i j) (nat_lt j i) refl refl refl refl
  where
    turned : (a b c d : Bool) → nat_eq i j ≡ a → nat_eq j i ≡ b → nat_lt i j ≡ c → nat_lt j i ≡ d
        → (if b then C else (if d then Sb else Sa)) ≡ converse (if a then C else (if c then Sb else Sa))
    turned true true c d e f g h = refl
    turned true false c d e f g h = absurd (grind (arith, nat_tests))
    turned false true c d e f g h = absurd (grind (arith, nat_tests))
    turned false false true true e f g h = absurd (grind (arith, nat_tests))
    turned false false true false e f g h = refl
    turned false false false true e f g h = refl
    turned false false false false e f g h = absurd (grind (arith, nat_tests))

seen_is_action : (m n : Method) → port_sees m n ≡ true → writes m ≡ true
seen_is_action (Read j) n e = cc
seen_is_action (Write j) n e = refl

seen_sees_none : (k m n : Method) → port_sees m n ≡ true → port_sees k m ≡ false
seen_sees_none (Read k) (Write j) n e = refl
seen_sees_none (Write k) (Write j) n e = refl
seen_sees_none k (Read j) n e = absurd (let x : ⊥ = cc in x)

seen_before : (m n : Method) → port_sees m n ≡ true → port_relation m n ≡ Sb
seen_before (Read j) n e = absurd (let x : ⊥ = cc in x)
seen_before (Write j) (Read i) e = rw e refl
seen_before (Write j) (Write i) e = cc

value_rank : (m : Method) → writes m ≡ false → port_rank m ≡ 0
value_rank (Read i) e = refl
value_rank (Write i) e = cc

values_free : (m n : Method) → writes m ≡ false → writes n ≡ false → port_relation m n ≡ Cf
values_free (Read i) (Read j) a b = refl
values_free (Read i) (Write j) a b = cc
values_free (Write i) n a b = absurd (let x : ⊥ = cc in x)

value_leaves : (m : Method) (p : Part) (args : List Bits) → writes m ≡ false → port_apply m p args ≡ p
value_leaves (Read i) p args e = refl
value_leaves (Write i) p args e = cc

action_rank : (m : Method) → writes m ≡ true → 1 ≤ port_rank m
action_rank (Read i) e = absurd (let x : ⊥ = cc in x)
action_rank (Write i) e = omega arith

rank_rises : (m n : Method) → writes m ≡ true → writes n ≡ true → port_relation m n ≡ Sb → port_rank m < port_rank n
rank_rises (Read i) n a b e = absurd (let x : ⊥ = cc in x)
rank_rises (Write i) (Read j) a b e = absurd (let x : ⊥ = cc in x)
rank_rises (Write i) (Write j) a b e = cases (nat_eq i j) (nat_lt i j) refl e
  where
    cases : (c d : Bool) → nat_lt i j ≡ d → (if c then C else (if d then Sb else Sa)) ≡ Sb → i + 1 < j + 1
    cases true d f g = absurd (let x : ⊥ = cc in x)
    cases false true f g = let below : i < j = ltb-true i j f in omega arith
    cases false false f g = absurd (let x : ⊥ = cc in x)

by_rank : (m n : Method) → in_one_element (port_relation m n) ≡ true → port_sees n m ≡ false → port_rank m ≤ port_rank n → goes_before (port_relation m n) ≡ true
by_rank (Read i) (Read j) e s r = refl
by_rank (Read i) (Write j) e s r = rw s refl
by_rank (Write i) (Read j) e s r = absurd (let l : i + 1 ≤ 0 = r in omega arith)
by_rank (Write i) (Write j) e s r = cases (nat_eq i j) (nat_lt i j) refl refl e
  where
    cases : (c d : Bool) → nat_eq i j ≡ c → nat_lt i j ≡ d → in_one_element (if c then C else (if d then Sb else Sa)) ≡ true → goes_before (if c then C else (if d then Sb else Sa)) ≡ true
    cases true d f g h = cc
    cases false true f g h = refl
    cases false false f g h = absurd (let l : i + 1 ≤ j + 1 = r in grind (arith, nat_tests))

-- ---- the numbers of the methods

-- a number is that of a read or of a write
pub decoded : (m : ℕ) → ((k : ℕ) × (m ≡ 2 * k) × (port_method m ≡ Read k)) ⊎ ((k : ℕ) × (m ≡ 2 * k + 1) × (port_method m ≡ Write k))
decoded m = cases (nat_eq (m % 2) 0) refl
  where
    cases : (b : Bool) → nat_eq (m % 2) 0 ≡ b → ((k : ℕ) × (m ≡ 2 * k) × ((if b then Read (m / 2) else Write (m / 2)) ≡ Read k)) ⊎ ((k : ℕ) × (m ≡ 2 * k + 1) × ((if b then Read (m / 2) else Write (m / 2)) ≡ Write k))
    cases true e = inl (m / 2, (let even : m % 2 ≡ 0 = eqb-true (m % 2) 0 e in omega arith), refl)
    cases false e = inr (m / 2, (let odd : m % 2 ≢ 0 = eqb-false (m % 2) 0 e in omega arith), refl)

pub write_number : (j : ℕ) → port_method (2 * j + 1) ≡ Write j
write_number j =
    let rest : (2 * j + 1) % 2 ≡ 1 = omega arith in
    let half : (2 * j + 1) / 2 ≡ j = omega arith in
    rw (rest, half) refl

pub creg_rules : (width ports : ℕ) (start : Bits) → TableLaws (creg_table width ports start)
creg_rules width ports start = record {
  dual = λ m n. dual (port_method m) (port_method n);
  seen_is_action = λ m n e. seen_is_action (port_method m) (port_method n) e;
  seen_sees_none = λ k m n e. seen_sees_none (port_method k) (port_method m) (port_method n) e;
  seen_before = λ m n e. seen_before (port_method m) (port_method n) e;
  value_rank = λ m a. value_rank (port_method m) a;
  values_free = λ m n a b. values_free (port_method m) (port_method n) a b;
  value_leaves = λ m p args a. value_leaves (port_method m) p args a;
  action_rank = λ m a. action_rank (port_method m) a;
  rank_rises = λ m n a b e. rank_rises (port_method m) (port_method n) a b e;
  by_rank = λ m n e s u r. by_rank (port_method m) (port_method n) e u r;
}
