-- Evaluation of text under a look: what it gives, and what is met on the way in text order, which are the calls of methods of
-- primitives and the conditions that have to hold. Each of these stands in certain arms of certain choices, which are taken or
-- not (Bluespec reference guide, "Rules", "Implicit conditions"). Choices and calls are numbered in text order.
use Rattle.std.specs.Prelude.{ℕ, ◌+◌, Bool, ◌&&◌, List, [], ◌∷◌, ◌++◌, map, Option, if◌then◌else◌}
use Rattle.bsv_bits.specs.Words.{Bits}
use Rattle.bsv_design.specs.declared.node.Branch.{Branch}
use Rattle.bsv_tree.specs.declared.steps.MethodPlace.{MethodPlace}
use Rattle.bsv_tree.specs.meaning.Values.{Value, varying, word_of, is_static, is_true, nothing}

-- what the call of this number gives, of a method of an instance for its arguments
abbrev pub Results : Type 0
Results = ℕ → MethodPlace → List Bits → Bits

-- where text stands: in which arms, from the outside, and whether these are taken
pub record Standing : Type 0 where
  pub taken : Bool
  pub branches : List Branch

-- a call of a method of a primitive, at its site
pub record SiteCall : Type 0 where
  pub method : MethodPlace
  pub action : Bool
  pub taken : Bool
  pub branches : List Branch
  pub arguments : List Bits

-- a condition that has to hold: that of a user method, or else the element's own
pub record Need : Type 0 where
  pub name : Option MethodPlace
  pub truth : Bool
  pub taken : Bool

-- what is given, the numbers of the next choice and of the next call, and what was met
pub record Evaluated (A : Type 0) : Type 0 where
  pub gives : A
  pub choices : ℕ
  pub sites : ℕ
  pub calls : List SiteCall
  pub needs : List Need

-- from where it stands, and the numbers of the next choice and of the next call
abbrev pub Evaluation : Type 0 → Type 0
Evaluation A = Standing → ℕ → ℕ → Evaluated A

abbrev pub yields : {A : Type 0} → A → Evaluation A
yields x p n k = record { gives = x; choices = n; sites = k; calls = []; needs = [] }

abbrev pub in_order : {A B : Type 0} → Evaluated A → Evaluated B → Evaluated B
in_order a b = record { gives = b.gives; choices = b.choices; sites = b.sites; calls = a.calls ++ b.calls; needs = a.needs ++ b.needs }

-- one after the other
infixl 10 ◌>>=◌
abbrev pub ◌>>=◌ : {A B : Type 0} → Evaluation A → (A → Evaluation B) → Evaluation B
(m >>= f) p n k = let a = m p n k in in_order a (f a.gives p a.choices a.sites)

-- what is static is decided when the design is built, and calls nothing
abbrev pub decided : {A : Type 0} → Evaluation A → Evaluation A
decided m p n k = yields (m p n k).gives p n k

abbrev pub asked : Evaluation Value → Evaluation Value
asked m p n k = let a = m p n k in if is_static a.gives then yields a.gives p n k else a

-- a call of a method of a primitive comes before those in its arguments, and gives what the look gives
abbrev pub called : Results → Bool → MethodPlace → Evaluation (List Value) → Evaluation Value
called look action m args p n k =
    let a = args p n (k + 1) in
    let ws = map word_of a.gives in
    record {
      gives = if action then nothing else varying (look k m ws);
      choices = a.choices;
      sites = a.sites;
      calls = record { method = m; action = action; taken = p.taken; branches = p.branches; arguments = ws } ∷ a.calls;
      needs = a.needs;
    }

-- a condition that has to hold comes before what it asks. One that is static and True is none
abbrev pub needed : Option MethodPlace → Evaluation Value → Evaluation Value
needed name m p n k =
    let a = m p n k in
    if is_static a.gives && is_true a.gives then yields a.gives p n k
    else record a { needs = record { name = name; truth = is_true a.gives; taken = p.taken } ∷ a.needs }

-- the next choice
abbrev pub choice : {A : Type 0} → (ℕ → Evaluation A) → Evaluation A
choice f p n k = f n p (n + 1) k

-- inside the arm of this number of the choice, taken or not
abbrev pub within : {A : Type 0} → ℕ → ℕ → Bool → Evaluation A → Evaluation A
within number arm taken m p n k =
    m (record { taken = p.taken && taken; branches = p.branches ++ record { choice = number; arm = arm } ∷ [] }) n k
