-- The rules that a queue's table keeps, each by a test of every pair of methods that is computed
-- over the whole table, and a lemma that turns the test into the rule at each pair.
-- Proof alone, with the words of the proof: it is in specs/ since the `laws` of an impl may cite
-- nothing of proofs/.
use Rattle.std.proofs.Common.{◌≡◌, ◌<◌, ◌≤◌, Bool, true, false, refl, sym, ◌∙◌, arith}
use Rattle.std.specs.Prelude.{◌&&◌, not, nat_eq, nat_lt, nat_le, if◌then◌else◌}
use Rattle.std.proofs.lemmas.Bool.{ltb-true, eqb-true, and_parts, not-true}
use Rattle.std.proofs.lemmas.Bool.Decides.{nat_tests}
use Rattle.bsv_prim.specs.Table.{goes_before, in_one_element, converse}
use Rattle.bsv_prim.specs.Laws.{TableLaws}
use Rattle.bsv_prim.specs.declared.primitive.Rel.{Rel}
use Rattle.bsv_prim.specs.declared.primitive.Rel.TheVariants.{Cf, Sb, Sa, Sbr, C}
use Rattle.bsv_fifo.specs.declared.method.Method.{Method}
use Rattle.bsv_fifo.specs.declared.method.Method.TheVariants.{Enq, Deq, First, NotFull, NotEmpty, Clear}
use Rattle.bsv_fifo.specs.Queues.{queue_method, changes}
use Rattle.bsv_fifo.specs.QueueLists.{leaves}
use Rattle.bsv_fifo.specs.QueueTable.{QueueRow, queue_table}

-- ---- tests of every method

-- what a test says, where its condition holds
abbrev pub implies : Bool → Bool → Bool
implies a b = if a then b else true

pub implied : (a b : Bool) → implies a b ≡ true → a ≡ true → b ≡ true
implied true b h e = h
implied false b h e = cc

pub implied_not : (a b : Bool) → implies (not a) b ≡ true → a ≡ false → b ≡ true
implied_not true b h e = cc
implied_not false b h e = h

abbrev last_two : (Method → Bool) → Bool
last_two f = f NotEmpty && f Clear

abbrev last_three : (Method → Bool) → Bool
last_three f = f NotFull && last_two f

abbrev last_four : (Method → Bool) → Bool
last_four f = f First && last_three f

abbrev last_five : (Method → Bool) → Bool
last_five f = f Deq && last_four f

abbrev pub every : (Method → Bool) → Bool
every f = f Enq && last_five f

pub every_at : (f : Method → Bool) → every f ≡ true → (m : Method) → f m ≡ true
every_at f h m =
    let five = and_parts (f Enq) (last_five f) h in
    let four = and_parts (f Deq) (last_four f) five.1 in
    let three = and_parts (f First) (last_three f) four.1 in
    let two = and_parts (f NotFull) (last_two f) three.1 in
    let one = and_parts (f NotEmpty) (f Clear) two.1 in
    elim m as (λ n. f n ≡ true) [ Enq ↦ five.0 | Deq ↦ four.0 | First ↦ three.0 | NotFull ↦ two.0 | NotEmpty ↦ one.0 | Clear ↦ one.1 ]

-- a test of every pair
abbrev pub every_pair : (Method → Method → Bool) → Bool
every_pair f = every (λ m. every (f m))

pub pair_at : (f : Method → Method → Bool) → every_pair f ≡ true → (m n : Method) → f m n ≡ true
pair_at f h m n = every_at (f m) (every_at (λ k. every (f k)) h m) n

abbrev pub same_rel : Rel → Rel → Bool
same_rel Cf Cf = true
same_rel Sb Sb = true
same_rel Sa Sa = true
same_rel Sbr Sbr = true
same_rel C C = true
same_rel _ _ = false

same_rel_is : (a b : Rel) → same_rel a b ≡ true → a ≡ b
same_rel_is Cf Cf e = refl
same_rel_is Sb Sb e = refl
same_rel_is Sa Sa e = refl
same_rel_is Sbr Sbr e = refl
same_rel_is C C e = refl
same_rel_is _ _ e = cc

pub is_same : (a b : Rel) → a ≡ b → same_rel a b ≡ true
is_same a b e = rw e (itself b)
  where
    itself : (b : Rel) → same_rel b b ≡ true
    itself Cf = refl
    itself Sb = refl
    itself Sa = refl
    itself Sbr = refl
    itself C = refl

-- ---- the rules, as tests

-- y to x is the converse of x to y
abbrev pub is_dual : QueueRow → Method → Method → Bool
is_dual row m n = same_rel (row.relation n m) (converse (row.relation m n))

-- a method that is seen is an action, sees none itself, and is SB to the one that sees it
abbrev pub is_seen_rightly : QueueRow → Method → Method → Bool
is_seen_rightly row m n =
    implies (row.sees m n) (changes m && (every (λ k. not (row.sees k m)) && same_rel (row.relation m n) Sb))

-- value methods are free of each other
abbrev pub is_free : QueueRow → Method → Method → Bool
is_free row m n = implies (not (changes m)) (implies (not (changes n)) (same_rel (row.relation m n) Cf))

-- value methods have rank 0, and actions a higher one
abbrev pub is_ranked : QueueRow → Method → Bool
is_ranked row m = if changes m then nat_lt 0 (row.rank m) else nat_eq (row.rank m) 0

-- of two actions, the one that is SB to the other has the lower rank
abbrev pub is_rising : QueueRow → Method → Method → Bool
is_rising row m n =
    implies (changes m) (implies (changes n) (implies (same_rel (row.relation m n) Sb) (nat_lt (row.rank m) (row.rank n))))

-- two calls that may be in one element may precede each other as their ranks stand
abbrev pub is_by_rank : QueueRow → Method → Method → Bool
is_by_rank row m n =
    implies (in_one_element (row.relation m n)) (implies (not (row.sees m n)) (implies (not (row.sees n m)) (implies (nat_le (row.rank m) (row.rank n)) (goes_before (row.relation m n)))))

-- each test gives true over the whole table
pub record IsTable (row : QueueRow) : Type 0 where
  pub dual : every_pair (is_dual row) ≡ true
  pub seen : every_pair (is_seen_rightly row) ≡ true
  pub free : every_pair (is_free row) ≡ true
  pub ranked : every (is_ranked row) ≡ true
  pub rising : every_pair (is_rising row) ≡ true
  pub by_rank : every_pair (is_by_rank row) ≡ true

-- ---- the rules at each pair

module _ (row : QueueRow) (is : IsTable row) where
  dual : (m n : Method) → row.relation n m ≡ converse (row.relation m n)
  dual m n = same_rel_is _ _ (pair_at (is_dual row) is.dual m n)

  record Seen (m n : Method) : Type 0 where
    action : changes m ≡ true
    sees_none : (k : Method) → row.sees k m ≡ false
    before : row.relation m n ≡ Sb

  seen : (m n : Method) → row.sees m n ≡ true → Seen m n
  seen m n e =
      let all = implied (row.sees m n) (changes m && (every (λ k. not (row.sees k m)) && same_rel (row.relation m n) Sb)) (pair_at (is_seen_rightly row) is.seen m n) e in
      let action = and_parts (changes m) (every (λ k. not (row.sees k m)) && same_rel (row.relation m n) Sb) all in
      let rest = and_parts (every (λ k. not (row.sees k m))) (same_rel (row.relation m n) Sb) action.1 in
      record {
        action = action.0;
        sees_none = λ k. not-true (row.sees k m) (every_at (λ j. not (row.sees j m)) rest.0 k);
        before = same_rel_is (row.relation m n) Sb rest.1;
      }

  values_free : (m n : Method) → changes m ≡ false → changes n ≡ false → row.relation m n ≡ Cf
  values_free m n a b =
      same_rel_is (row.relation m n) Cf
      (implied_not (changes n) (same_rel (row.relation m n) Cf) (implied_not (changes m) (implies (not (changes n)) (same_rel (row.relation m n) Cf)) (pair_at (is_free row) is.free m n) a) b)

  value_rank : (m : Method) → changes m ≡ false → row.rank m ≡ 0
  value_rank m a =
      let h = every_at (is_ranked row) is.ranked m in
      eqb-true (row.rank m) 0 (rw a at h)

  action_rank : (m : Method) → changes m ≡ true → 1 ≤ row.rank m
  action_rank m a =
      let h = every_at (is_ranked row) is.ranked m in
      let above : 0 < row.rank m = ltb-true 0 (row.rank m) (rw a at h) in
      omega arith

  rank_rises : (m n : Method) → changes m ≡ true → changes n ≡ true → row.relation m n ≡ Sb → row.rank m < row.rank n
  rank_rises m n a b e =
      let h = pair_at (is_rising row) is.rising m n in
      ltb-true (row.rank m) (row.rank n) (rw (a, b, e) at h)

  by_rank : (m n : Method) → in_one_element (row.relation m n) ≡ true → row.sees m n ≡ false → row.sees n m ≡ false → row.rank m ≤ row.rank n → goes_before (row.relation m n) ≡ true
  by_rank m n e s u r =
      let below : nat_le (row.rank m) (row.rank n) ≡ true = grind (arith, nat_tests) in
      let one = implied (in_one_element (row.relation m n)) _ (pair_at (is_by_rank row) is.by_rank m n) e in
      let two = implied_not (row.sees m n) _ one s in
      let three = implied_not (row.sees n m) _ two u in
      implied (nat_le (row.rank m) (row.rank n)) (goes_before (row.relation m n)) three below

pub is_seen_action : (row : QueueRow) → IsTable row → (m n : Method) → row.sees m n ≡ true → changes m ≡ true
is_seen_action row is m n e = (seen row is m n e).action

-- a method does not see itself
pub unseen_by_itself : (row : QueueRow) → IsTable row → (m : Method) → row.sees m m ≡ false
unseen_by_itself row is m = cases (row.sees m m) refl
  where
    cases : (b : Bool) → row.sees m m ≡ b → b ≡ false
    cases true e = sym e ∙ (seen row is m m e).sees_none m
    cases false e = refl

pub queue_table_laws : (row : QueueRow) → IsTable row → TableLaws (queue_table row)
queue_table_laws row is = record {
  dual = λ m n. dual row is (queue_method m) (queue_method n);
  seen_is_action = λ m n e. (seen row is (queue_method m) (queue_method n) e).action;
  seen_sees_none = λ k m n e. (seen row is (queue_method m) (queue_method n) e).sees_none (queue_method k);
  seen_before = λ m n e. (seen row is (queue_method m) (queue_method n) e).before;
  value_rank = λ m a. value_rank row is (queue_method m) a;
  values_free = λ m n a b. values_free row is (queue_method m) (queue_method n) a b;
  value_leaves = λ m p args a. leaves (queue_method m) p args a;
  action_rank = λ m a. action_rank row is (queue_method m) a;
  rank_rises = λ m n a b e. rank_rises row is (queue_method m) (queue_method n) a b e;
  by_rank = λ m n e s u r. by_rank row is (queue_method m) (queue_method n) e s u r;
}
