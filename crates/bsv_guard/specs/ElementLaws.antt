-- What holds of one element of a sound scheme: when it does the same under two looks, and which calls it makes.
use Rattle.std.specs.Prelude.{◌≡◌, ◌↔◌, ℕ, ◌<◌, ◌≤◌, ◌==◌, Bool, true, false, ◌&&◌, List, [], filter, slice_get, Some}
use Rattle.bsv_bits.specs.Words.{Bits}
use Rattle.bsv_prim.specs.Elements.{IsByRank}
use Rattle.bsv_prim.specs.Table.{Call}
use Rattle.bsv_prim.specs.declared.part.Part.{Part}
use Rattle.bsv_design.specs.declared.element.Role.TheVariants as role
use Rattle.bsv_design.specs.declared.kind.Kind.{Kind}
use Rattle.bsv_design.specs.design.Bodies.{Target}
use Rattle.bsv_design.specs.parts.Kinds.{kind_table}
use Rattle.bsv_design.specs.scheme.Relations.{goes, feeds, may_precede, may_stand, KeepsTheRule, IsFirstBreach}
use Rattle.bsv_design.specs.scheme.Schemes.{Scheme, Outline, Asking, Look, Called, AreAlike, is_open, result_of, given, seen, ready, calls, value}
use Rattle.bsv_design.specs.scheme.Serial.{rank, by_rank, run_whole, Serial}
use Rattle.bsv_design.specs.scheme.Traces.{Site, acts, kind_at}

-- a method at a call site of the element
pub record IsUse (S : Scheme) (n : ℕ) (t : Target) : Type 0 where
  pub index : ℕ
  pub is : slice_get (S.uses n) index ≡ Some t

-- ---- two looks

-- under both looks an element is ready or not, makes the same calls, and gives the same
pub record ActsAlike (aggressive : Bool) (S : Scheme) (q : Asking) (n : ℕ) (a b : Look) : Type 0 where
  pub same_ready : ready aggressive S q n a ≡ ready aggressive S q n b
  pub same_calls : calls S q n a ≡ calls S q n b
  pub same_value : value S q n a ≡ value S q n b

-- the guard is true under the second look, and a method that gives a value gives the same as under the first one
pub record StaysOpen (ks : List Kind) (a b : Look) (t : Target) : Type 0 where
  pub guard : is_open ks b t ≡ true
  pub result : acts (kind_at ks t) t.method ≡ false → (arguments : List Bits)
      → result_of (kind_at ks t) t.method (a t) arguments ≡ result_of (kind_at ks t) t.method (b t) arguments

-- ---- calls by rank

-- the call of a part's method, as its kind knows it
abbrev pub call_of : Called → Call
call_of c = record { method = c.target.method; args = c.arguments }

abbrev pub is_call_of : Target → Called → Bool
is_call_of t c = (c.target.part == t.part) && (c.target.method == t.method)

-- the calls that an element makes, by rank
abbrev pub ranked_calls : Scheme → Asking → ℕ → Look → List Called
ranked_calls S q n a = by_rank S.kinds (calls S q n a)

-- the second list is the first one by rank: it has the same calls, those of one method in their order, and the ranks rise
pub record AreRanked (ks : List Kind) (cs ds : List Called) : Type 0 where
  pub same : (t : Target) → filter (is_call_of t) ds ≡ filter (is_call_of t) cs
  pub ranks : (i j : ℕ) (c d : Called) → i < j → slice_get ds i ≡ Some c → slice_get ds j ≡ Some d
      → rank ks c ≤ rank ks d

-- ---- schemes that do the same

pub record DoTheSame (S T : Scheme) : Type 0 where
  pub given_same : (q : Asking) (n : ℕ) → given S q n ≡ given T q n
  pub seen_same : (q : Asking) (n : ℕ) (a : Look) → seen S q n a ≡ seen T q n a
  pub ready_same : (aggressive : Bool) (q : Asking) (n : ℕ) (a : Look)
      → ready aggressive S q n a ≡ ready aggressive T q n a
  pub calls_same : (q : Asking) (n : ℕ) (a : Look) → calls S q n a ≡ calls T q n a
  pub value_same : (q : Asking) (n : ℕ) (a : Look) → value S q n a ≡ value T q n a
  pub goes_same : (m n : ℕ) → goes S m n ≡ goes T m n
  pub feeds_same : (m n : ℕ) → feeds S m n ≡ feeds T m n
  pub rule_same : (n : ℕ) → KeepsTheRule S n ↔ KeepsTheRule T n
  pub first_breach_same : (n i j : ℕ) (x y : Site) → IsFirstBreach S n i j x y ↔ IsFirstBreach T n i j x y
  pub run_same : (q : Asking) (n : ℕ) (ps : List Part) → run_whole S q n ps ≡ run_whole T q n ps
  pub serial_same : (aggressive : Bool) (q : Asking) (ps end : List Part) (ns : List ℕ)
      → Serial aggressive S q ps ns end ↔ Serial aggressive T q ps ns end

-- ---- the laws

pub record ElementLaws (S : Scheme) : Type 0 where
  -- an element that is ready does the same where each of its methods that is open stays so
  pub extends : (aggressive : Bool) (q : Asking) (n : ℕ) (a b : Look)
      → ((t : Target) → IsUse S n t → is_open S.kinds a t ≡ true → StaysOpen S.kinds a b t)
      → ready aggressive S q n a ≡ true → ActsAlike aggressive S q n a b
  -- what it does rests on the parts that its methods look at
  pub local : (aggressive : Bool) (q : Asking) (n : ℕ) (a b : Look) → ((t : Target) → IsUse S n t → a t ≡ b t)
      → ActsAlike aggressive S q n a b
  -- where it is ready, each call that it makes is open
  pub open_calls : (aggressive : Bool) (q : Asking) (n : ℕ) (a : Look) → ready aggressive S q n a ≡ true
      → (k : ℕ) (c : Called) → slice_get (calls S q n a) k ≡ Some c → is_open S.kinds a c.target ≡ true
  -- the calls that it makes are of methods that it uses and that act
  pub within : (q : Asking) (n : ℕ) (a : Look) (k : ℕ) (c : Called) → slice_get (calls S q n a) k ≡ Some c
      → IsUse S n c.target × (acts (kind_at S.kinds c.target) c.target.method ≡ true)
  -- a method that gives a value and does not act makes none
  pub none_made : (n : ℕ) (o : Outline) → slice_get S.elements n ≡ Some o → o.role ≡ role.Value
      → (q : Asking) (a : Look) → calls S q n a ≡ []
  -- two calls that it makes on one part may be in one element
  pub beside : (n : ℕ) → KeepsTheRule S n → (q : Asking) (a : Look) (i j : ℕ) (c d : Called)
      → slice_get (calls S q n a) i ≡ Some c → slice_get (calls S q n a) j ≡ Some d → (i ≡ j → ⊥)
      → c.target.part ≡ d.target.part
      → may_stand (kind_at S.kinds c.target) c.target.method d.target.method ≡ true
  -- by rank, the calls that it makes are the same ones
  pub ranked : (q : Asking) (n : ℕ) (a : Look) → AreRanked S.kinds (calls S q n a) (ranked_calls S q n a)
  -- each may precede each later one
  pub in_order : (n : ℕ) → KeepsTheRule S n → (q : Asking) (a : Look) (i j : ℕ) (c d : Called) → i < j
      → slice_get (ranked_calls S q n a) i ≡ Some c → slice_get (ranked_calls S q n a) j ≡ Some d
      → may_precede S.kinds c.target d.target ≡ true
  -- and on one part they are as its kind asks of the calls of one element
  pub on_part : (n : ℕ) → KeepsTheRule S n → (q : Asking) (a : Look) (i j : ℕ) (c d : Called) (kind : Kind) → i < j
      → slice_get (ranked_calls S q n a) i ≡ Some c → slice_get (ranked_calls S q n a) j ≡ Some d
      → c.target.part ≡ d.target.part → kind_at S.kinds c.target ≡ Some kind
      → IsByRank (kind_table kind) (call_of c) (call_of d)
  -- a scheme that is alike does the same
  pub alike : (T : Scheme) → AreAlike S T → DoTheSame S T
