-- Two computations side by side: where the first one gives something, the second one gives the same, but for the
-- weight, which is less by a number. So it is for each way to grow a count and steps.
use Rattle.std.proofs.Common.{◌≡◌, ℕ, ◌+◌, ◌≤◌, Bool, true, false, Option, Some, None, Result, Ok, Err, refl, sym, ap, subst, arith}
use Rattle.std.specs.Prelude.{nat_le, nat_lt, option_map, if◌then◌else◌}
use Rattle.std.proofs.lemmas.Bool.{leb-true, le-leb}
use Rattle.bsv_fail.specs.Given.{◌>>=◌}
use Rattle.bsv_bits.specs.Words.{Bits, word_not}
use Rattle.bsv_bits.specs.declared.operator.Operator.{Operator}
use Rattle.bsv_tree.specs.declared.steps.Compute.{Compute}
use Rattle.bsv_tree.specs.declared.steps.Compute.TheVariants as compute
use Rattle.bsv_tree.specs.declared.steps.Step.{Step}
use Rattle.bsv_tree.specs.declared.values.Value.{Value}
use Rattle.bsv_tree.specs.declared.values.Count.{Count}
use Rattle.bsv_tree.specs.declared.values.Work.{Work}
use Rattle.bsv_tree.specs.declared.values.Fault.{Fault}
use Rattle.bsv_design.specs.design.Computing as computing
use Rattle.bsv_tree.specs.carrying.Values.{atom_of, known}
use Rattle.bsv_tree.specs.carrying.Working as work
use Rattle.bsv_tree.specs.carrying.Working.{tick, fresh, counted, give, settle, of_two, of_three}

-- ---- side by side

abbrev pub Seen : {A B : Type 0} → (B → A) → Result A Fault → Result B Fault → Type 0
Seen see (Err e) y = Unit {0}
Seen see (Ok a) (Err e) = ⊥
Seen see (Ok a) (Ok b) = a ≡ see b

-- what the first one gives, the second one gives too, as it is seen
pub record Into {A B : Type 0} (see : B → A) (x : Result A Fault) (y : Result B Fault) : Type 0 where
  pub seen : Seen see x y

pub into_then : {A B C D : Type 0} {see : B → A} {show : D → C} {x : Result A Fault} {y : Result B Fault} (f : A → Result C Fault)
    (g : B → Result D Fault)
    → Into see x y → ((b : B) → Into show (f (see b)) (g b)) → Into show (x >>= f) (y >>= g)
into_then {x = Err e} {y} f g h k = record { seen = tt }
into_then {x = Ok a} {y = Err e} f g h k = absurd h.seen
into_then {show} {x = Ok a} {y = Ok b} f g h k = subst (λ z. Into show (f z) (g b)) (sym h.seen) (k b)

-- the same where what goes on is said in two steps
pub into_twice : {A B C D E F : Type 0} {see : B → A} {show : F → E} {x : Result A Fault} {y : Result B Fault} (f : A → Result C Fault)
    (more : C → Result E Fault) (g : B → Result D Fault) (next : D → Result F Fault)
    → Into see x y → ((b : B) → Into show (f (see b) >>= more) (g b >>= next)) → Into show ((x >>= f) >>= more) ((y >>= g) >>= next)
into_twice {x = Err e} {y} f more g next h k = record { seen = tt }
into_twice {x = Ok a} {y = Err e} f more g next h k = absurd h.seen
into_twice {show} {x = Ok a} {y = Ok b} f more g next h k = subst (λ z. Into show (f z >>= more) (g b >>= next)) (sym h.seen) (k b)

pub into_same : {A : Type 0} (x : Result A Fault) → Into (λ r. r) x x
into_same (Err e) = record { seen = tt }
into_same (Ok a) = record { seen = refl }

pub into_if : {A B : Type 0} {see : B → A} {x v : Result A Fault} {y w : Result B Fault} (p : Bool) → Into see x y → Into see v w
    → Into see (if p then x else v) (if p then y else w)
into_if true h k = h
into_if false h k = k

-- after a limit that is kept the more easily
pub into_limit : {A B : Type 0} {see : B → A} {x : Result A Fault} {y : Result B Fault} (p q : Bool) (e f : Fault) → (p ≡ true → q ≡ true)
    → Into see x y
    → Into see (if p then x else Err e) (if q then y else Err f)
into_limit true true e f less h = h
into_limit true false e f less h = absurd (let no : false ≡ true = less refl in cc)
into_limit false q e f less h = record { seen = tt }

-- ---- more weight

abbrev pub raised : ℕ → Count → Count
raised d c = record { weight = c.weight + d; slots = c.slots }

abbrev pub heavier : ℕ → Work → Work
heavier d w = record { steps = w.steps; count = raised d w.count }

-- something with a count, and with steps
abbrev pub at_raised : {A : Type 0} → ℕ → A × Count → A × Count
at_raised d r = (r.0, raised d r.1)

abbrev pub both_raised : {A B : Type 0} → ℕ → A × B × Count → A × B × Count
both_raised d r = (r.0, r.1, raised d r.2)

abbrev pub at_heavier : {A : Type 0} → ℕ → A × Work → A × Work
at_heavier d r = (r.0, heavier d r.1)

abbrev pub both_heavier : {A B : Type 0} → ℕ → A × B × Work → A × B × Work
both_heavier d r = (r.0, r.1, heavier d r.2)

abbrev weighing : ℕ → ℕ → Count
weighing slots weight = record { weight = weight; slots = slots }

module _ (d : ℕ) where
  pub tick_over : (c : Count) (more : ℕ) → Into (raised d) (tick (raised d c) more) (tick c more)
  unfolding tick
  tick_over c more =
      into_limit (nat_le (c.weight + d + more) 2000000) (nat_le (c.weight + more) 2000000) _ _
      (λ e. let most : c.weight + d + more ≤ 2000000 = leb-true (c.weight + d + more) 2000000 e in le-leb (c.weight + more) 2000000 (omega arith))
      (record { seen = ap (weighing c.slots) (omega arith) })

  pub fresh_over : (c : Count) (more : ℕ) → Into (raised d) (fresh (raised d c) more) (fresh c more)
  unfolding fresh
  fresh_over c more = into_if (nat_lt (c.slots + more) 4294967296) (record { seen = refl }) (record { seen = tt })

  pub counted_over : (w : Work) (more : ℕ) → Into (heavier d) (counted (heavier d w) more) (counted w more)
  unfolding counted
  counted_over w more = into_then _ _ (tick_over w.count more) (λ c. record { seen = refl })

  pub give_over : (w : Work) (s : Step) → Into (at_heavier d) (give (heavier d w) s) (give w s)
  unfolding give
  give_over w s = into_then _ _ (fresh_over w.count 1) (λ c. record { seen = refl })

  pub settle_over : (w : Work) (o : Option Bits) (x : Compute) → Into (at_heavier d) (settle (heavier d w) o x) (settle w o x)
  settle_over w None x = give_over w _
  settle_over w (Some b) x = record { seen = refl }

  -- ---- one line for each computation

  pub inverted_over : (w : Work) (x : Value) → Into (at_heavier d) (work.inverted (heavier d w) x) (work.inverted w x)
  unfolding work.inverted
  inverted_over w x = settle_over w (option_map word_not (known x)) (compute.Not (atom_of x))

  pub between_over : (w : Work) (o : Operator) (x y : Value) → Into (at_heavier d) (work.between (heavier d w) o x y) (work.between w o x y)
  unfolding work.between
  between_over w o x y = settle_over w (of_two (computing.between o) (known x) (known y)) (compute.Two o (atom_of x) (atom_of y))

  pub picked_over : (w : Work) (t x y : Value) → Into (at_heavier d) (work.picked (heavier d w) t x y) (work.picked w t x y)
  unfolding work.picked
  picked_over w t x y = settle_over w (of_three computing.picked (known t) (known x) (known y)) (compute.Pick (atom_of t) (atom_of x) (atom_of y))

  pub sliced_over : (w : Work) (x : Value) (high low : ℕ) → Into (at_heavier d) (work.sliced (heavier d w) x high low) (work.sliced w x high low)
  unfolding work.sliced
  sliced_over w x high low = settle_over w (option_map (λ a. computing.sliced a high low) (known x)) (compute.Slice (atom_of x) high low)

  pub joined_over : (w : Work) (x y : Value) → Into (at_heavier d) (work.joined (heavier d w) x y) (work.joined w x y)
  unfolding work.joined
  joined_over w x y = settle_over w (of_two computing.joined (known x) (known y)) (compute.Join (atom_of x) (atom_of y))

  pub extended_over : (w : Work) (x : Value) (width : ℕ) → Into (at_heavier d) (work.extended (heavier d w) x width) (work.extended w x width)
  unfolding work.extended
  extended_over w x width = settle_over w (option_map (λ a. computing.extended a width) (known x)) (compute.Extend (atom_of x) width)

  pub sign_extended_over : (w : Work) (x : Value) (width : ℕ)
      → Into (at_heavier d) (work.sign_extended (heavier d w) x width) (work.sign_extended w x width)
  unfolding work.sign_extended
  sign_extended_over w x width = settle_over w (option_map (λ a. computing.sign_extended a width) (known x)) (compute.SignExtend (atom_of x) width)
