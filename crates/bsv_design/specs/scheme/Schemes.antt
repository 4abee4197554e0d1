-- What a design is, however its elements are written: as text, or as flat bodies. All that is said of
-- schedules and clocks is said of a scheme (Hoe and Arvind 2004, guarded atomic actions; Bluespec reference guide, "Rules").
use Rattle.std.specs.Prelude.{◌≡◌, ℕ, Bool, true, false, cond, not, ◌&&◌, ◌||◌, List, [], ◌∷◌, map, length, slice_get, Option, Some, None}
use Rattle.bsv_bits.specs.Words.{Bits, bit, zero_word}
use Rattle.bsv_prim.specs.declared.part.Part.{Part}
use Rattle.bsv_design.specs.declared.element.Element.{Element}
use Rattle.bsv_design.specs.declared.element.Port.{Port}
use Rattle.bsv_design.specs.declared.element.Role.{Role}
use Rattle.bsv_design.specs.declared.kind.Kind.{Kind}
use Rattle.bsv_design.specs.declared.attributes.Assert.{Assert}
use Rattle.bsv_design.specs.declared.attributes.Pair.{Pair}
use Rattle.bsv_design.specs.design.Bodies.{Target, target, Answers}
use Rattle.bsv_design.specs.design.Designs.{DesignData}
use Rattle.bsv_design.specs.parts.Kinds.{kind_table}
use Rattle.bsv_design.specs.scheme.Traces.{Site, Demand, Trace, kind_at, body_trace}

-- what is known of an element from outside
pub record Outline : Type 0 where
  pub name : List ℕ
  pub role : Role
  pub ports : List Port

pub record Scheme : Type 0 where
  -- of each part, in building order
  pub kinds : List Kind
  -- of each element, by position
  pub elements : List Outline
  -- the methods at all call sites of an element, in all branches
  pub uses : ℕ → List Target
  -- what an element does
  pub trace : ℕ → Answers → List Bits → Trace
  pub pairs : List Pair
  pub asserts : List Assert

abbrev pub no_trace : Trace
no_trace = record { sites = []; demands = []; result = None }

-- ---- the two readings

abbrev pub outline : Element → Outline
outline e = record { name = e.name; role = e.role; ports = e.arguments }

abbrev pub calls_of : Option Element → List Target
calls_of None = []
calls_of (Some e) = map target e.calls

abbrev pub trace_of : List Kind → Option Element → Answers → List Bits → Trace
trace_of ks None r arguments = no_trace
trace_of ks (Some e) r arguments = body_trace ks e r arguments

abbrev pub kinds_of : DesignData → List Kind
kinds_of b = map (λ p. p.kind) b.parts

-- the elements as flat bodies
unfoldable pub design_scheme : DesignData → Scheme
design_scheme b = record {
  kinds = kinds_of b;
  elements = map outline b.elements;
  uses = λ n. calls_of (slice_get b.elements n);
  trace = λ n. trace_of (kinds_of b) (slice_get b.elements n);
  pairs = b.pairs;
  asserts = b.asserts;
}

-- ---- looks

-- the part that each method of each part looks at
abbrev pub Look : Type 0
Look = Target → Part

-- a method of nothing has no guard, and no width
abbrev pub guard_of : Option Kind → ℕ → Part → Bool
guard_of None m p = true
guard_of (Some k) m p = (kind_table k).guard m p

abbrev pub result_of : Option Kind → ℕ → Part → List Bits → Bits
result_of None m p args = bit false
result_of (Some k) m p args = (kind_table k).result m p args

abbrev pub no_result : Option Kind → ℕ → Bits
no_result None m = bit false
no_result (Some k) m = zero_word ((kind_table k).result_width m)

abbrev pub is_open : List Kind → Look → Target → Bool
is_open ks look t = guard_of (kind_at ks t) t.method (look t)

-- what calls give under a look. A result whose guard is false is 0
unfoldable pub answers : List Kind → Look → Answers
answers ks look k t args = cond (is_open ks look t) (result_of (kind_at ks t) t.method (look t) args) (no_result (kind_at ks t) t.method)

-- ---- requests

-- of each method of the top, whether it is asked and its arguments
pub record Asking : Type 0 where
  pub asked : List Bool
  pub args : List (List Bits)

-- one word for each argument, 0 where there is none
abbrev pub filled : List Port → List Bits → List Bits
filled [] ws = []
filled (p ∷ ps) [] = zero_word p.width ∷ filled ps []
filled (p ∷ ps) (w ∷ ws) = w ∷ filled ps ws

abbrev pub if_asked : Option Bool → Option (List Bits) → List Bits
if_asked (Some true) (Some ws) = ws
if_asked _ _ = []

abbrev pub ports_of : Option Outline → List Port
ports_of None = []
ports_of (Some o) = o.ports

-- the words of an element's arguments: those of the request, and 0 where it is not asked
unfoldable pub given : Scheme → Asking → ℕ → List Bits
given S q n = filled (ports_of (slice_get S.elements n)) (if_asked (slice_get q.asked n) (slice_get q.args n))

-- what an element does under a look
unfoldable pub seen : Scheme → Asking → ℕ → Look → Trace
seen S q n look = S.trace n (answers S.kinds look) (given S q n)

-- ---- readiness

-- all branches ask, or with aggressive conditions those alone that are taken
abbrev pub required : Bool → Bool → Bool → Bool
required aggressive taken holds = holds || (aggressive && not taken)

abbrev pub all_open : Bool → List Kind → Look → List Site → Bool
all_open aggressive ks look [] = true
all_open aggressive ks look (c ∷ cs) = required aggressive c.taken (is_open ks look c.target) && all_open aggressive ks look cs

abbrev pub all_hold : Bool → List Demand → Bool
all_hold aggressive [] = true
all_hold aggressive (x ∷ xs) = required aggressive x.taken x.holds && all_hold aggressive xs

-- every condition holds, and every guard
unfoldable pub ready : Bool → Scheme → Asking → ℕ → Look → Bool
ready aggressive S q n look =
    all_hold aggressive (seen S q n look).demands && all_open aggressive S.kinds look (seen S q n look).sites

-- ---- calls and results

-- a call of a part's method, with its arguments
pub record Called : Type 0 where
  pub target : Target
  pub arguments : List Bits

abbrev pub taken_actions : List Site → List Called
taken_actions [] = []
taken_actions (c ∷ cs) =
    cond (c.action && c.taken) (record { target = c.target; arguments = c.arguments } ∷ taken_actions cs) (taken_actions cs)

-- the action calls in the branches that are taken, in text order
unfoldable pub calls : Scheme → Asking → ℕ → Look → List Called
calls S q n look = taken_actions (seen S q n look).sites

-- the word that it gives, where it gives one
unfoldable pub value : Scheme → Asking → ℕ → Look → Option Bits
value S q n look = (seen S q n look).result

-- ---- schemes that do the same

-- the arguments are as many as the element has
abbrev pub AreArgumentsOf : Scheme → ℕ → List Bits → Type 0
AreArgumentsOf S n ws = length ws ≡ length (ports_of (slice_get S.elements n))

-- the same parts, elements, pairs and marks, and each element uses and does the same
pub record AreAlike (S T : Scheme) : Type 0 where
  pub kinds : S.kinds ≡ T.kinds
  pub elements : S.elements ≡ T.elements
  pub pairs : S.pairs ≡ T.pairs
  pub asserts : S.asserts ≡ T.asserts
  pub uses : (n : ℕ) → S.uses n ≡ T.uses n
  pub traces : (n : ℕ) (r : Answers) (ws : List Bits) → AreArgumentsOf S n ws → S.trace n r ws ≡ T.trace n r ws
