-- A register file keeps the laws.
-- Proof alone: it is in specs/ since the `laws` of an impl may cite nothing of proofs/.
use Rattle.std.proofs.Common.{◌≡◌, ◌≢◌, ℕ, zero, suc, ◌-◌, ◌^◌, ◌<◌, ◌≤◌, Bool, true, false, List, [], ◌∷◌, length, refl, ap, sym, ◌∙◌, arith, Option, Some, None, inr}
use Rattle.std.specs.Prelude.{◌⊎◌, nat_eq, if◌then◌else◌, slice_set, slice_index_or, MatchOption}
use Rattle.std.specs.List.{AllByRecursion}
use Rattle.std.proofs.lemmas.Bool.{eqb-true, eqb-false}
use Rattle.std.proofs.lemmas.List.{length-replicate, get_or-replicate, length-set, get_or-set_other, get_or_default}
use Rattle.std.proofs.lemmas.Grind.{get_or-set_at}
use Rattle.std.proofs.lemmas.Nat.{pow_pos}
use Rattle.bsv_bits.specs.Words.{Bits, bit, zero_word}
use Rattle.bsv_bits.specs.Operators.{operate}
use Rattle.bsv_bits.specs.declared.operator.Operator.TheVariants.{And}
use Rattle.bsv_prim.specs.Signals.{Signals, is_one, word_of}
use Rattle.bsv_prim.specs.Speaks.{SpeaksOf}
use Rattle.bsv_prim.specs.Widths.{HasWidth}
use Rattle.bsv_prim.specs.Table.{Table, Call, ArgsFit, IsWordOf, word_at, goes_before, in_one_element, converse}
use Rattle.bsv_prim.specs.Calls.{IsOrderly, MayPrecede, after_calls, latest}
use Rattle.bsv_prim.specs.CallLists.{filter_none}
use Rattle.bsv_prim.specs.Laws.{Laws, TableLaws}
use Rattle.bsv_prim.specs.RegisterLaws.{bit_is_word}
use Rattle.bsv_prim.specs.Registers.{read_or_write}
use Rattle.bsv_prim.specs.declared.part.Part.{Part}
use Rattle.bsv_prim.specs.declared.part.Part.TheVariants.{Number, Held, Queue}
use Rattle.bsv_prim.specs.declared.primitive.Rel.TheVariants.{Cf, Sb}
use Rattle.bsv_creg.specs.Files.{words_of, FitsFile, zero_file, word_named, with_word, file_apply, file_rank, file_argument_width, file_relation, names, named_register, next_word, file_table}

-- ---- the rules of the table

abbrev acts : ℕ → Bool
acts = read_or_write false true

dual : (m n : ℕ) → file_relation n m ≡ converse (file_relation m n)
dual zero zero = refl
dual zero (suc n) = refl
dual (suc m) zero = refl
dual (suc m) (suc n) = refl

value_rank : (m : ℕ) → acts m ≡ false → file_rank m ≡ 0
value_rank zero e = refl
value_rank (suc m) e = cc

action_rank : (m : ℕ) → acts m ≡ true → 1 ≤ file_rank m
action_rank zero e = absurd (let x : ⊥ = cc in x)
action_rank (suc m) e = omega arith

values_free : (m n : ℕ) → acts m ≡ false → acts n ≡ false → file_relation m n ≡ Cf
values_free zero zero a b = refl
values_free zero (suc n) a b = cc
values_free (suc m) n a b = absurd (let x : ⊥ = cc in x)

value_leaves : (m : ℕ) (p : Part) (args : List Bits) → acts m ≡ false → file_apply m p args ≡ p
value_leaves zero p args e = refl
value_leaves (suc m) p args e = absurd (let x : ⊥ = cc in x)

rank_rises : (m n : ℕ) → acts m ≡ true → acts n ≡ true → file_relation m n ≡ Sb → file_rank m < file_rank n
rank_rises zero n a b e = absurd (let x : ⊥ = cc in x)
rank_rises (suc m) zero a b e = absurd (let x : ⊥ = cc in x)
rank_rises (suc m) (suc n) a b e = absurd (let x : ⊥ = cc in x)

by_rank : (m n : ℕ) → in_one_element (file_relation m n) ≡ true → file_rank m ≤ file_rank n → goes_before (file_relation m n) ≡ true
by_rank zero zero e r = refl
by_rank zero (suc n) e r = refl
by_rank (suc m) zero e r = absurd (let x : 1 ≤ 0 = r in omega arith)
by_rank (suc m) (suc n) e r = cc

commutes : (m n : ℕ) (p : Part) (args brgs : List Bits) → file_relation m n ≡ Cf → file_apply n (file_apply m p args) brgs ≡ file_apply m (file_apply n p brgs) args
commutes zero n p args brgs e = refl
commutes (suc m) zero p args brgs e = refl
commutes (suc m) (suc n) p args brgs e = absurd (let x : ⊥ = cc in x)

is_sub : (m : ℕ) → acts m ≡ false → m ≡ 0
is_sub zero e = refl
is_sub (suc m) e = cc

-- ---- lists of words

words_set : (width : ℕ) (xs : List Bits) (i : ℕ) (x : Bits) → IsWordOf width x → ((k : ℕ) → k < length xs → IsWordOf width (word_at xs k)) → (k : ℕ) → k < length (slice_set xs i x) → IsWordOf width (word_at (slice_set xs i x) k)
words_set width xs i x w h k l = cases (nat_eq k i) refl
  where
    within : k < length xs
    within = let same : length (slice_set xs i x) ≡ length xs = length-set xs i x in omega arith

    cases : (b : Bool) → nat_eq k i ≡ b → IsWordOf width (word_at (slice_set xs i x) k)
    cases true e =
        let same : k ≡ i = eqb-true k i e in
        rw (get_or-set_at xs i k x (zero_word 1) same (omega (arith, within))) w
    cases false e =
        let other : k ≢ i = eqb-false k i e in
        rw (get_or-set_other xs i k x (zero_word 1) other) (h k within)

address_below : (address : ℕ) (w : Bits) → IsWordOf address w → w.value < 2 ^ address
address_below address w a = rw a.same_width at a.word.below

-- ---- the end of an orderly list

-- the words after an update, if there is one
abbrev updated : List Bits → Option (List Bits) → List Bits
updated xs None = xs
updated xs (Some args) = with_word xs args

-- nothing goes after an update
none_after : (n : ℕ) → goes_before (file_relation 1 n) ≡ true → ⊥
none_after zero h = cc
none_after (suc n) h = cc

module _ (width address : ℕ) where
  abbrev t : Table
  t = file_table width address

  abbrev Fits : Part → Type 0
  Fits = FitsFile width (2 ^ address)

  words_put : (p : Part) (args : List Bits) → Fits p → words_of (file_apply 1 p args) ≡ with_word (words_of p) args
  words_put (Number w) args f = absurd f
  words_put (Held o) args f = absurd f
  words_put (Queue q) args f = refl

  step : (m : ℕ) (p : Part) (args : List Bits) (cs : List Call) → Fits p → m < 2 → AllByRecursion (λ d. goes_before (file_relation m d.method) ≡ true) cs → IsOrderly t (file_apply m p args) cs
      → ((q : Part) → Fits q → IsOrderly t q cs → words_of (after_calls t q cs) ≡ updated (words_of q) (latest 1 None cs))
      → words_of (after_calls t (file_apply m p args) cs) ≡ updated (words_of p) (latest 1 (if nat_eq m 1 then Some args else None) cs)
  step zero p args cs f l h o later = later p f o
  step (suc zero) p args [] f l h o later = words_put p args f
  step (suc zero) p args (d ∷ ds) f l h o later = absurd (none_after d.method h.0)
  step (suc (suc m)) p args cs f l h o later = absurd (omega arith)

  run : (p : Part) (cs : List Call) → Fits p → IsOrderly t p cs → words_of (after_calls t p cs) ≡ updated (words_of p) (latest 1 None cs)
  run p [] f o = refl
  run p (c ∷ cs) f o = step c.method p c.args cs f o.0.method o.2 o.3 (λ q g u. run q cs g u)

  -- nothing before a `sub` updates
  before_sub : (m n : ℕ) (p : Part) (args : List Bits) → n ≡ 0 → goes_before (file_relation m n) ≡ true → file_apply m p args ≡ p
  before_sub zero n p args z e = refl
  before_sub (suc m) zero p args z e = absurd (let x : ⊥ = cc in x)
  before_sub (suc m) (suc n) p args z e = absurd (let x : ⊥ = cc in x)

  reads : (p : Part) (y : Call) (cs : List Call) → y.method ≡ 0 → AllByRecursion (λ c. MayPrecede t c y) cs → after_calls t p cs ≡ p
  reads p y [] z h = refl
  reads p y (c ∷ cs) z h =
      ap (λ (q : Part). after_calls t q cs) (before_sub c.method y.method p c.args z h.0) ∙ reads p y cs z h.1

  -- there is nothing to see
  sees_none : (p : Part) (cs : List Call) → AllByRecursion (λ c. false ≡ true) cs → p ≡ after_calls t p cs
  sees_none p [] h = refl
  sees_none p (c ∷ cs) h = let h0 = h.0 in cc

  -- ---- fitting

  file_length : (p : Part) → Fits p → length (words_of p) ≡ 2 ^ address
  file_length (Number w) f = absurd f
  file_length (Held o) f = absurd f
  file_length (Queue q) f = f.full

  fits-apply : (m : ℕ) (p : Part) (args : List Bits) → Fits p → ArgsFit t m args → Fits (file_apply m p args)
  fits-apply zero p args f a = f
  fits-apply (suc m) (Number w) args f a = absurd f
  fits-apply (suc m) (Held o) args f a = absurd f
  fits-apply (suc m) (Queue q) args f a = record {
    same_depth = f.same_depth;
    full = length-set q.items (word_at args 0).value (word_at args 1) ∙ f.full;
    words = words_set width q.items (word_at args 0).value (word_at args 1) (a.widths 1 (omega arith)) f.words;
  }

  -- the word that a fitting address names, whatever stands for one that is missing
  named_there : (p : Part) (w : Bits) → Fits p → IsWordOf address w → (d e : Bits) → slice_index_or (words_of p) w.value d ≡ slice_index_or (words_of p) w.value e
  named_there p w f a d e =
      get_or_default (words_of p) w.value d e (omega (arith, address_below address w a, file_length p f))

  result_fits : (m : ℕ) (p : Part) (args : List Bits) → Fits p → ArgsFit t m args → acts m ≡ false → IsWordOf width (word_named width (words_of p) args)
  result_fits (suc m) p args f a e = absurd (let x : ⊥ = cc in x)
  result_fits zero (Number w) args f a e = absurd f
  result_fits zero (Held o) args f a e = absurd f
  result_fits zero (Queue q) args f a e =
      let there : (word_at args 0).value < length q.items = omega (arith, address_below address (word_at args 0) (a.widths 0 (omega arith)), f.full) in
      rw (get_or_default q.items (word_at args 0).value (zero_word width) (zero_word 1) there) (f.words (word_at args 0).value there)

  -- ---- the pieces

  named_is : (r : ℕ) (v : Signals) → (v.argument 0 0).value ≤ r → word_of v (named_register address r) ≡ v.register (v.argument 0 0).value
  named_is zero v h = let e : 0 ≡ (v.argument 0 0).value = omega arith in ap v.register e
  named_is (suc r) v h = cases (nat_eq (v.argument 0 0).value (suc r)) refl (λ l. named_is r v l)
    where
      cases : (b : Bool) → nat_eq (v.argument 0 0).value (suc r) ≡ b → ((v.argument 0 0).value ≤ r → word_of v (named_register address r) ≡ v.register (v.argument 0 0).value)
          → (if is_one (bit b) then v.register (suc r) else word_of v (named_register address r)) ≡ v.register (v.argument 0 0).value
      cases true e before = ap v.register (sym (eqb-true (v.argument 0 0).value (suc r) e))
      cases false e before =
          let other : (v.argument 0 0).value ≢ suc r = eqb-false (v.argument 0 0).value (suc r) e in
          before (omega arith)

  result_piece : (m : ℕ) (p : Part) (args : List Bits) (v : Signals) → Fits p → ((r : ℕ) → r < 2 ^ address → v.register r ≡ word_at (words_of p) r) → ArgsFit t m args → ((k : ℕ) → k < t.arity m → v.argument m k ≡ word_at args k) → acts m ≡ false
      → word_of v (named_register address (2 ^ address - 1)) ≡ word_named width (words_of p) args
  result_piece (suc m) p args v f s a d e = absurd (let x : ⊥ = cc in x)
  result_piece zero p args v f s a d e =
      let word = a.widths 0 (omega arith) in
      let below = address_below address (word_at args 0) word in
      let given : v.argument 0 0 ≡ word_at args 0 = d 0 (omega arith) in
      let last : (v.argument 0 0).value ≤ 2 ^ address - 1 = rw given (omega arith) in
      named_is (2 ^ address - 1) v last ∙ ap (λ (w : Bits). v.register w.value) given
      ∙ s (word_at args 0).value below ∙ named_there p (word_at args 0) f word (zero_word 1) (zero_word width)

  next_shown : (xs : List Bits) (o : Option (List Bits)) (v : Signals) (r : ℕ) → r < length xs → v.register r ≡ word_at xs r → MatchOption o (v.called 1 ≡ false) (λ args. (v.called 1 ≡ true) × ((k : ℕ) → k < 2 → v.argument 1 k ≡ word_at args k))
      → word_of v (next_word address r) ≡ word_at (updated xs o) r
  next_shown xs None v r l s c = rw c s
  next_shown xs (Some args) v r l s c =
      rw (c.0, c.1 0 (omega arith), c.1 1 (omega arith)) (cases (nat_eq (word_at args 0).value r) refl)
    where
      cases : (b : Bool) → nat_eq (word_at args 0).value r ≡ b → (if is_one (operate And (bit true) (bit b)) then word_at args 1 else v.register r) ≡ word_at (with_word xs args) r
      cases true e =
          let same : (word_at args 0).value ≡ r = eqb-true (word_at args 0).value r e in
          sym (get_or-set_at xs (word_at args 0).value r (word_at args 1) (zero_word 1) (sym same) (omega arith))
      cases false e =
          let other : r ≢ (word_at args 0).value = λ q. eqb-false (word_at args 0).value r e (sym q) in
          s ∙ sym (get_or-set_other xs (word_at args 0).value r (word_at args 1) (zero_word 1) other)

  -- ---- widths

  argument_width : (k : ℕ) → 1 ≤ width → width ≤ 128 → 1 ≤ address → address ≤ 6 → (1 ≤ file_argument_width width address k) × (file_argument_width width address k ≤ 128)
  argument_width zero a b c d = (c, omega arith)
  argument_width (suc k) a b c d = (a, b)

  names_has : (m r : ℕ) → m < 2 → 0 < t.arity m → r < 2 ^ address → 1 ≤ address → address ≤ 6 → HasWidth t (names address m r) 1
  names_has m r l a h c d =
      (address, address, (l, a, refl), (record { some = c; most = omega arith; below = h }, refl), refl, refl)

  named_has : (r : ℕ) → r < 2 ^ address → 1 ≤ address → address ≤ 6 → HasWidth t (named_register address r) width
  named_has zero h c d = (h, refl)
  named_has (suc r) h c d =
      (names_has 0 (suc r) (omega arith) (omega arith) h c d, (h, refl), named_has r (omega arith) c d)

  next_has : (r : ℕ) → r < 2 ^ address → 1 ≤ address → address ≤ 6 → HasWidth t (next_word address r) width
  next_has r h c d =
      ((1, 1, (omega arith, refl), names_has 1 r (omega arith) (omega arith) h c d, refl, refl), (omega arith, omega arith, refl), (h, refl))

  named_speaks : (y r : ℕ) → y ≡ 0 → SpeaksOf (λ m. false ≡ true) (λ m. (false ≡ true) ⊎ (m ≡ y)) (named_register address r)
  named_speaks y zero e = tt
  named_speaks y (suc r) e = ((inr (sym e), tt), tt, named_speaks y r e)

  zero_is_word : 1 ≤ width → width ≤ 128 → IsWordOf width (zero_word width)
  zero_is_word a b = record {
    word = record { some = a; most = b; below = omega (arith, pow_pos width) };
    same_width = refl;
  }

  zeros_at : (k : ℕ) → k < 2 ^ address → word_at (zero_file width (2 ^ address)).items k ≡ zero_word width
  zeros_at k l = get_or-replicate (2 ^ address) k (zero_word width) (zero_word 1) l

  zeros_fit : 1 ≤ width → width ≤ 128 → Fits (Queue (zero_file width (2 ^ address)))
  zeros_fit a b =
      let full = length-replicate (2 ^ address) (zero_word width) in
      record {
        same_depth = refl;
        full = full;
        words = λ k l. rw (zeros_at k (omega arith)) (zero_is_word a b);
      }

file_rules : (width address : ℕ) → TableLaws (file_table width address)
file_rules width address = record {
  dual = dual;
  seen_is_action = λ m n e. cc;
  seen_sees_none = λ k m n e. refl;
  seen_before = λ m n e. cc;
  value_rank = value_rank;
  values_free = values_free;
  value_leaves = value_leaves;
  action_rank = action_rank;
  rank_rises = rank_rises;
  by_rank = λ m n e s s' r. by_rank m n e r;
}

pub file_laws : (width address : ℕ) → 1 ≤ width → width ≤ 128 → 1 ≤ address → address ≤ 6 → Laws (file_table width address)
file_laws width address a b c d = record {
  table = file_rules width address;
  fit = record {
    opening = zeros_fit width address a b;
    emptied = λ p f. f;
    emptied_twice = λ p f. refl;
    opening_empty = refl;
    applied = λ p x f k r. fits-apply width address x.method p x.args f k.args;
  };
  guards = record {
    never = λ m p g. refl;
    sometimes = λ m g. absurd (let x : ⊥ = cc in x);
  };
  shows = record {
    opening = λ r l. sym (zeros_at width address r l);
    emptied = λ p registers f s. s;
  };
  widths = record {
    argument = λ m k l i. argument_width width address k a b c d;
    result = λ p x f k e. result_fits width address x.method p x.args f k.args e;
    start = λ r l. zero_is_word width address a b;
    guard_piece = λ m l. (bit_is_word, refl);
    result_piece = λ m l e. named_has width address (2 ^ address - 1) (omega (arith, pow_pos address)) c d;
    next_piece = λ r l. next_has width address r l c d;
  };
  speaks = record {
    guard = λ y l. tt;
    result = λ y l e. named_speaks width address y (2 ^ address - 1) (is_sub y e);
  };
  commute = record {
    either_order = λ p x y f k l e r s. (refl, refl, commutes x.method y.method p x.args y.args e);
    stays_ready = λ p x y f k l e q s s' r w. refl;
  };
  look = record {
    ready = λ p cs y f o k h r. refl;
    result = λ p cs y f o k h e r. ap (λ (q : Part). word_named width (words_of q) y.args) (reads width address p y cs (is_sub y.method e) h ∙ sym (ap (after_calls (file_table width address) p) (filter_none cs)));
  };
  pieces = record {
    guard = λ p cs m v f e s o k h w. refl;
    result = λ p cs y v f e s o k h w z i r. result_piece width address y.method p y.args v f s k.args z i ∙ ap (λ (q : Part). word_named width (words_of q) y.args) (sees_none width address p cs h);
  };
  next = λ p cs v f s o r w n l. next_shown width address (words_of p) (latest 1 None cs) v n (rw (file_length width address p f) l) (s n l) (w 1 (omega arith)) ∙ sym (ap (λ (xs : List Bits). word_at xs n) (run width address p cs f o));
}
