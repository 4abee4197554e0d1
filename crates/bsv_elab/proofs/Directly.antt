-- Each method of a module stands directly in the body, and no other statement of the body holds a method.
use Rattle.std.proofs.Common.{◌≡◌, ◌∙◌, ℕ, zero, suc, ◌+◌, ◌≤◌, ◌<◌, Bool, true, false, not, ◌&&◌, List, [], ◌∷◌, ◌++◌, length, refl, sym, ap, subst, arith, inl, inr, if◌then◌else◌}
use Rattle.std.specs.Prelude.{nat_lt, ◌==◌}
use Rattle.std.specs.List.{list_any}
use Rattle.std.proofs.lemmas.Bool.{eqb-true, eqb-false, ltb-true, lt-ltb, or_cases, or_parts, or_from, cases_lt, not-true, not_from_false, and_from, and_parts}
use Rattle.std.proofs.lemmas.List.{length-append, nil_from_length}
use Rattle.bsv_types.specs.declared.modules.Module.{Module}
use Rattle.bsv_types.specs.declared.modules.ModuleStmt.{ModuleStmt, out-ModuleStmt, fold-ModuleStmt, fold_out-ModuleStmt, map-ModuleStmt}
use Rattle.bsv_types.specs.declared.modules.ModuleStmt.TheOpen.{ModuleStmt-F}
use Rattle.bsv_types.specs.declared.modules.ModuleBranch.{ModuleBranch, fold-ModuleBranch}
use Rattle.bsv_types.specs.Modules.{numbers_step, own_method, methods_in, rules_of, direct, counts_up, each_once, numbers_right}

-- ---- so many different numbers below a limit

-- without the first one that is this
abbrev less : ℕ → List ℕ → List ℕ
less n [] = []
less n (x ∷ xs) = if x == n then xs else x ∷ less n xs

any_cut : (p : ℕ → Bool) (c : Bool) (x : ℕ) (xs ys : List ℕ) → list_any p (x ∷ xs) ≡ false → list_any p ys ≡ false → list_any p (if c then xs else x ∷ ys) ≡ false
any_cut p true x xs ys e f = (or_parts (p x) (list_any p xs) e).1
any_cut p false x xs ys e f = or_from (p x) (list_any p ys) (or_parts (p x) (list_any p xs) e).0 f

any_less : (p : ℕ → Bool) (n : ℕ) (xs : List ℕ) → list_any p xs ≡ false → list_any p (less n xs) ≡ false
any_less p n [] e = refl
any_less p n (x ∷ xs) e = any_cut p (x == n) x xs (less n xs) e (any_less p n xs (or_parts (p x) (list_any p xs) e).1)

cut_length : (c : Bool) (x : ℕ) (xs ys : List ℕ) → length xs ≤ suc (length ys) → length (x ∷ xs) ≤ suc (length (if c then xs else x ∷ ys))
cut_length true x xs ys h = omega arith
cut_length false x xs ys h = omega arith

less_length : (n : ℕ) (xs : List ℕ) → length xs ≤ suc (length (less n xs))
less_length n [] = omega arith
less_length n (x ∷ xs) = cut_length (x == n) x xs (less n xs) (less_length n xs)

record Once (limit x : ℕ) (xs : List ℕ) : Type 0 where
  below : x < limit
  new : list_any (λ y. x == y) xs ≡ false
  rest : each_once limit xs ≡ true

once_of : (limit x : ℕ) (xs : List ℕ) → each_once limit (x ∷ xs) ≡ true → Once limit x xs
once_of limit x xs e =
    let a = and_parts (nat_lt x limit && not (list_any (λ y. x == y) xs)) (each_once limit xs) e in
    let b = and_parts (nat_lt x limit) (not (list_any (λ y. x == y) xs)) a.0 in
    record { below = ltb-true x limit b.0; new = not-true (list_any (λ y. x == y) xs) b.1; rest = a.1 }

once_from : (limit x : ℕ) (xs : List ℕ) → Once limit x xs → each_once limit (x ∷ xs) ≡ true
once_from limit x xs h =
    and_from (nat_lt x limit && not (list_any (λ y. x == y) xs)) (each_once limit xs)
    (and_from (nat_lt x limit) (not (list_any (λ y. x == y) xs)) (lt-ltb x limit h.below) (not_from_false (list_any (λ y. x == y) xs) h.new)) h.rest

below_last : (x l : ℕ) → x < suc l → (l ≡ x → ⊥) → x < l
below_last x l lt other = elim (cases_lt x l) [ inl h ↦ h | inr h ↦ absurd (other (omega arith)) ]

tighter : (l : ℕ) (xs : List ℕ) → each_once (suc l) xs ≡ true → list_any (λ y. l == y) xs ≡ false → each_once l xs ≡ true
tighter l [] e none = refl
tighter l (x ∷ xs) e none =
    let h = once_of (suc l) x xs e in
    let g = or_parts (l == x) (list_any (λ y. l == y) xs) none in
    once_from l x xs (record { below = below_last x l h.below (eqb-false l x g.0); new = h.new; rest = tighter l xs h.rest g.1 })

cut_once : (c : Bool) (l x : ℕ) (xs : List ℕ) → (x == l) ≡ c → Once (suc l) x xs → each_once l (less l xs) ≡ true → each_once l (if c then xs else x ∷ less l xs) ≡ true
cut_once true l x xs is h more = tighter l xs h.rest (subst (λ k. list_any (λ y. k == y) xs ≡ false) (eqb-true x l is) h.new)
cut_once false l x xs is h more =
    once_from l x (less l xs) (record { below = below_last x l h.below (λ e. eqb-false x l is (sym e)); new = any_less (λ y. x == y) l xs h.new; rest = more })

fewer : (l : ℕ) (xs : List ℕ) → each_once (suc l) xs ≡ true → each_once l (less l xs) ≡ true
fewer l [] e = refl
fewer l (x ∷ xs) e = let h = once_of (suc l) x xs e in cut_once (x == l) l x xs refl h (fewer l xs h.rest)

few : (l : ℕ) (xs : List ℕ) → each_once l xs ≡ true → length xs ≤ l
few zero [] e = omega arith
few zero (x ∷ xs) e = let h = (once_of zero x xs e).below in absurd (omega arith)
few (suc l) xs e = omega (arith, less_length l xs, few l (less l xs) (fewer l xs e))

-- of so many different numbers below the limit, each is there
pub each_there : (limit : ℕ) (xs : List ℕ) → each_once limit xs ≡ true → length xs ≡ limit → (n : ℕ) → n < limit → list_any (λ y. n == y) xs ≡ true
each_there limit xs e many n lt = by (list_any (λ y. n == y) xs) refl where
  by : (b : Bool) → list_any (λ y. n == y) xs ≡ b → b ≡ true
  by true is = refl
  by false is = absurd (omega (arith, many, few limit (n ∷ xs) (once_from limit n xs (record { below = lt; new = is; rest = e }))))

-- ---- the methods that stand directly in a body

-- the number of a statement that is a method
abbrev pub own_number : ModuleStmt-F ModuleStmt ModuleBranch → List ℕ
own_number (ModuleStmt-F.Method n) = n ∷ []
own_number _ = []

-- the numbers of the methods in a statement
abbrev pub method_numbers : ModuleStmt → List ℕ
method_numbers = fold-ModuleStmt (List ℕ) (List ℕ) (numbers_step own_method) (λ b. b.arm)

abbrev pub branch_numbers : ModuleBranch → List ℕ
branch_numbers = fold-ModuleBranch (List ℕ) (List ℕ) (numbers_step own_method) (λ b. b.arm)

direct_is : (x : ModuleStmt) (xs : List ModuleStmt) → direct (x ∷ xs) ≡ own_number (out-ModuleStmt x) ++ direct xs
direct_is x xs = by (out-ModuleStmt x) refl where
  by : (y : ModuleStmt-F ModuleStmt ModuleBranch) → out-ModuleStmt x ≡ y → direct (x ∷ xs) ≡ own_number (out-ModuleStmt x) ++ direct xs
  by (ModuleStmt-F.Instance t name m) is = rw is
  by (ModuleStmt-F.Array t name e) is = rw is
  by (ModuleStmt-F.Place level e m) is = rw is
  by (ModuleStmt-F.Declare t name e) is = rw is
  by (ModuleStmt-F.Assign level e) is = rw is
  by (ModuleStmt-F.Block ys) is = rw is
  by (ModuleStmt-F.If bs o) is = rw is
  by (ModuleStmt-F.For h y) is = rw is
  by (ModuleStmt-F.Rule n) is = rw is
  by (ModuleStmt-F.Method n) is = rw is

-- the method is between these statements
pub record StandsIn (body : List ModuleStmt) (number : ℕ) : Type 0 where
  pub before : List ModuleStmt
  pub own : ModuleStmt
  pub after : List ModuleStmt
  pub body_is : body ≡ before ++ own ∷ after
  pub is_method : out-ModuleStmt own ≡ ModuleStmt-F.Method number

one_before : (x : ModuleStmt) (xs : List ModuleStmt) (n : ℕ) → StandsIn xs n → StandsIn (x ∷ xs) n
one_before x xs n h = record { before = x ∷ h.before; own = h.own; after = h.after; body_is = ap (λ ys. x ∷ ys) h.body_is; is_method = h.is_method }

first_or_later : (x : ModuleStmt) (xs : List ModuleStmt) (n : ℕ) (y : ModuleStmt-F ModuleStmt ModuleBranch) → out-ModuleStmt x ≡ y →
    list_any (λ k. n == k) (own_number y ++ direct xs) ≡ true → (list_any (λ k. n == k) (direct xs) ≡ true → StandsIn xs n) → StandsIn (x ∷ xs) n
first_or_later x xs n (ModuleStmt-F.Method k) is h more =
    elim (or_cases (n == k) (list_any (λ k. n == k) (direct xs)) h) [
      | inl e ↦ record { before = []; own = x; after = xs; body_is = refl; is_method = is ∙ ap (λ (j : ℕ). ModuleStmt-F.Method j) (sym (eqb-true n k e)) }
      | inr e ↦ one_before x xs n (more e)
    ]
first_or_later x xs n y is h more = one_before x xs n (more h)

pub stands_in : (body : List ModuleStmt) (n : ℕ) → list_any (λ k. n == k) (direct body) ≡ true → StandsIn body n
stands_in [] n e = absurd cc
stands_in (x ∷ xs) n e = first_or_later x xs n (out-ModuleStmt x) refl (subst (λ ns. list_any (λ k. n == k) ns ≡ true) (direct_is x xs) e) (stands_in xs n)

-- ---- the numbers of a module

pub record Numbered (m : Module) : Type 0 where
  pub up : counts_up 0 (rules_of m.body) ≡ true
  pub rule_count : length (rules_of m.body) ≡ length m.rules
  pub once : each_once (length m.methods) (direct m.body) ≡ true
  pub direct_count : length (direct m.body) ≡ length m.methods
  pub method_count : length (methods_in m.body) ≡ length m.methods

abbrev same_rules : Module → Bool
same_rules m = length (rules_of m.body) == length m.rules

abbrev same_direct : Module → Bool
same_direct m = length (direct m.body) == length m.methods

abbrev same_methods : Module → Bool
same_methods m = length (methods_in m.body) == length m.methods

pub numbers_of : (m : Module) → numbers_right m ≡ true → Numbered m
numbers_of m e =
    let a = and_parts (counts_up 0 (rules_of m.body) && same_rules m && each_once (length m.methods) (direct m.body) && same_direct m) (same_methods m) e in
    let b = and_parts (counts_up 0 (rules_of m.body) && same_rules m && each_once (length m.methods) (direct m.body)) (same_direct m) a.0 in
    let c = and_parts (counts_up 0 (rules_of m.body) && same_rules m) (each_once (length m.methods) (direct m.body)) b.0 in
    let d = and_parts (counts_up 0 (rules_of m.body)) (same_rules m) c.0 in
    record {
      up = d.0;
      rule_count = eqb-true (length (rules_of m.body)) (length m.rules) d.1;
      once = c.1;
      direct_count = eqb-true (length (direct m.body)) (length m.methods) b.1;
      method_count = eqb-true (length (methods_in m.body)) (length m.methods) a.1;
    }

pub method_stands : (m : Module) → numbers_right m ≡ true → (n : ℕ) → n < length m.methods → StandsIn m.body n
method_stands m e n lt = let h = numbers_of m e in stands_in m.body n (each_there (length m.methods) (direct m.body) h.once h.direct_count n lt)

-- ---- no other statement holds a method

own_front : (x : ModuleStmt) (y : ModuleStmt-F ModuleStmt ModuleBranch) → out-ModuleStmt x ≡ y →
    method_numbers x ≡ numbers_step own_method (map-ModuleStmt ModuleStmt ModuleBranch (List ℕ) (List ℕ) method_numbers branch_numbers y)
own_front x y is =
    fold_out-ModuleStmt (List ℕ) (List ℕ) (numbers_step own_method) (λ b. b.arm) x
    ∙ ap (λ z. numbers_step own_method (map-ModuleStmt ModuleStmt ModuleBranch (List ℕ) (List ℕ) method_numbers branch_numbers z)) is

no_fewer : (x : ModuleStmt) → length (own_number (out-ModuleStmt x)) ≤ length (method_numbers x)
no_fewer x = by (out-ModuleStmt x) refl where
  by : (y : ModuleStmt-F ModuleStmt ModuleBranch) → out-ModuleStmt x ≡ y → length (own_number y) ≤ length (method_numbers x)
  by (ModuleStmt-F.Method n) is = let e : length (method_numbers x) ≡ 1 = ap length (own_front x (ModuleStmt-F.Method n) is) in omega arith
  by _ is = omega arith

own_only : (x : ModuleStmt) → length (method_numbers x) ≡ length (own_number (out-ModuleStmt x)) → method_numbers x ≡ own_number (out-ModuleStmt x)
own_only x e = by (out-ModuleStmt x) refl e where
  by : (y : ModuleStmt-F ModuleStmt ModuleBranch) → out-ModuleStmt x ≡ y → length (method_numbers x) ≡ length (own_number y) → method_numbers x ≡ own_number y
  by (ModuleStmt-F.Method n) is many = own_front x (ModuleStmt-F.Method n) is
  by _ is many = nil_from_length (method_numbers x) many

-- each statement holds no method but itself
abbrev pub OwnOnly : List ModuleStmt → Type 0
OwnOnly [] = Unit {0}
OwnOnly (x ∷ xs) = (method_numbers x ≡ own_number (out-ModuleStmt x)) × OwnOnly xs

direct_length : (x : ModuleStmt) (xs : List ModuleStmt) → length (direct (x ∷ xs)) ≡ length (own_number (out-ModuleStmt x)) + length (direct xs)
direct_length x xs = ap length (direct_is x xs) ∙ length-append (own_number (out-ModuleStmt x)) (direct xs)

methods_length : (x : ModuleStmt) (xs : List ModuleStmt) → length (methods_in (x ∷ xs)) ≡ length (method_numbers x) + length (methods_in xs)
methods_length x xs = length-append (method_numbers x) (methods_in xs)

none_fewer : (xs : List ModuleStmt) → length (direct xs) ≤ length (methods_in xs)
none_fewer [] = omega arith
none_fewer (x ∷ xs) = omega (arith, direct_length x xs, methods_length x xs, no_fewer x, none_fewer xs)

all_own : (xs : List ModuleStmt) → length (methods_in xs) ≡ length (direct xs) → OwnOnly xs
all_own [] e = tt
all_own (x ∷ xs) e =
    let here : length (method_numbers x) ≡ length (own_number (out-ModuleStmt x)) = omega (arith, direct_length x xs, methods_length x xs, no_fewer x, none_fewer xs, e) in
    let others : length (methods_in xs) ≡ length (direct xs) = omega (arith, direct_length x xs, methods_length x xs, no_fewer x, none_fewer xs, e) in
    (own_only x here, all_own xs others)

pub own_methods_only : (m : Module) → numbers_right m ≡ true → OwnOnly m.body
own_methods_only m e = let h = numbers_of m e in all_own m.body (h.method_count ∙ sym h.direct_count)
