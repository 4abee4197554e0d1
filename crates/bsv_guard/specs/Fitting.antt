-- Words that have the widths for which methods and arguments ask, and the laws of one element where the parts fit at
-- which it looks.
use Rattle.std.specs.Prelude.{◌≡◌, ℕ, ◌<◌, Bool, true, false, List, [], ◌∷◌, slice_get, Option, Some, None}
use Rattle.bsv_bits.specs.Words.{Bits, IsWord}
use Rattle.bsv_prim.specs.Table.{CallFits, IsWordOf}
use Rattle.bsv_design.specs.declared.element.Element.{Element}
use Rattle.bsv_design.specs.declared.kind.Kind.{Kind}
use Rattle.bsv_design.specs.design.Bodies.{Target, Answers, words}
use Rattle.bsv_design.specs.design.Designs.{DesignData}
use Rattle.bsv_design.specs.parts.Kinds.{kind_table}
use Rattle.bsv_design.specs.scheme.Schemes.{Scheme, Asking, Look, Called, ports_of, is_open, result_of, answers, given, ready, calls, value, kinds_of, design_scheme}
use Rattle.bsv_design.specs.scheme.States.{FitLook, AreWordsOf, AskingFits}
use Rattle.bsv_design.specs.scheme.Traces.{Site, acts, kind_at}
use Rattle.bsv_design.specs.design.Widths.{widths_from}
use Rattle.bsv_guard.specs.ElementLaws.{IsUse, ActsAlike}

-- words of these widths, one by one
abbrev pub HaveWidths : List ℕ → List Bits → Type 0
HaveWidths [] [] = Unit {0}
HaveWidths (u ∷ us) (w ∷ ws) = IsWordOf u w × HaveWidths us ws
HaveWidths _ _ = ⊥

-- ---- calls

abbrev pub IsMethodOf : Option Kind → ℕ → Type 0
IsMethodOf None m = ⊥
IsMethodOf (Some k) m = m < (kind_table k).methods

-- a call of a method of its part, with arguments of its widths
abbrev pub IsFitCall : Option Kind → ℕ → List Bits → Type 0
IsFitCall None m arguments = ⊥
IsFitCall (Some k) m arguments = CallFits (kind_table k) (record { method = m; args = arguments })

-- a word of the width that the method gives, where it gives one
abbrev pub IsFitAnswer : Option Kind → ℕ → Bits → Type 0
IsFitAnswer None m w = Unit {0}
IsFitAnswer (Some k) m w = (kind_table k).is_action m ≡ false → IsWordOf ((kind_table k).result_width m) w

-- calls that fit have answers that fit
abbrev pub AnswersFit : List Kind → Answers → Type 0
AnswersFit ks r =
    (k : ℕ) (t : Target) (arguments : List Bits) → IsFitCall (kind_at ks t) t.method arguments
    → IsFitAnswer (kind_at ks t) t.method (r k t arguments)

-- ---- elements

-- what a request gives to an element has the widths of its arguments
abbrev pub RequestFits : Scheme → Asking → ℕ → Type 0
RequestFits S q n = AreWordsOf (ports_of (slice_get S.elements n)) (given S q n)

-- what is asked of a scheme beside: where the arguments and the answers fit, its calls do, and it gives words
pub record IsFitting (S : Scheme) : Type 0 where
  pub methods : (n : ℕ) (t : Target) → IsUse S n t → IsMethodOf (kind_at S.kinds t) t.method
  pub calls_fit : (n : ℕ) (r : Answers) (ws : List Bits) → AreWordsOf (ports_of (slice_get S.elements n)) ws
      → AnswersFit S.kinds r
      → (k : ℕ) (x : Site) → slice_get (S.trace n r ws).sites k ≡ Some x
      → IsFitCall (kind_at S.kinds x.target) x.target.method x.arguments
  pub result_fits : (n : ℕ) (r : Answers) (ws : List Bits) → AreWordsOf (ports_of (slice_get S.elements n)) ws
      → AnswersFit S.kinds r
      → (w : Bits) → (S.trace n r ws).result ≡ Some w → IsWord w

-- the guard is true under the second look, and a method that gives a value gives the same for arguments that fit
pub record StaysOpenWhereFit (ks : List Kind) (a b : Look) (t : Target) : Type 0 where
  pub guard : is_open ks b t ≡ true
  pub result : acts (kind_at ks t) t.method ≡ false → (arguments : List Bits)
      → IsFitCall (kind_at ks t) t.method arguments
      → result_of (kind_at ks t) t.method (a t) arguments ≡ result_of (kind_at ks t) t.method (b t) arguments

pub record FittingLaws (S : Scheme) : Type 0 where
  pub answers_fit : (a : Look) → FitLook S.kinds a → AnswersFit S.kinds (answers S.kinds a)
  -- each method that an element uses can be called: there are arguments that fit
  pub callable : (n : ℕ) (t : Target) → IsUse S n t
      → (arguments : List Bits) × IsFitCall (kind_at S.kinds t) t.method arguments
  -- the calls that an element makes fit
  pub made_fit : (q : Asking) (n : ℕ) (a : Look) → RequestFits S q n → FitLook S.kinds a → (k : ℕ) (c : Called)
      → slice_get (calls S q n a) k ≡ Some c
      → IsFitCall (kind_at S.kinds c.target) c.target.method c.arguments
  -- it gives words
  pub value_fits : (q : Asking) (n : ℕ) (a : Look) → RequestFits S q n → FitLook S.kinds a → (w : Bits)
      → value S q n a ≡ Some w → IsWord w
  -- an element that is ready does the same where each of its methods that is open stays so
  pub extends_fit : (aggressive : Bool) (q : Asking) (n : ℕ) (a b : Look) → RequestFits S q n → FitLook S.kinds a
      → ((t : Target) → IsUse S n t → is_open S.kinds a t ≡ true → StaysOpenWhereFit S.kinds a b t)
      → ready aggressive S q n a ≡ true → ActsAlike aggressive S q n a b

-- ---- designs

-- what fits a design: its requests, and the words of the nodes of each element under a look of parts that fit
pub record DesignFits (b : DesignData) : Type 0 where
  pub requests : (q : Asking) → AskingFits b.elements q → (n : ℕ) → RequestFits (design_scheme b) q n
  pub nodes : (n : ℕ) (e : Element) → slice_get b.elements n ≡ Some e → (q : Asking) → AskingFits b.elements q
      → (a : Look) → FitLook (kinds_of b) a
      → (widths : List ℕ) → widths_from e.arguments (kinds_of b) e.calls [] e.nodes ≡ Some widths
      → HaveWidths widths (words e (answers (kinds_of b) a) (given (design_scheme b) q n))
