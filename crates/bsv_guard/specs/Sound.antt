-- What is asked of a scheme, however its elements are written: that the calls of an element are where they are in
-- every run, and that a run rests on the answers to its own calls alone.
use Rattle.std.specs.Prelude.{◌≡◌, ℕ, Bool, false, List, map, slice_get, Some}
use Rattle.bsv_bits.specs.Words.{Bits}
use Rattle.bsv_design.specs.declared.element.Role.TheVariants as role
use Rattle.bsv_design.specs.declared.node.Branch.{Branch}
use Rattle.bsv_design.specs.design.Bodies.{Target, Answers}
use Rattle.bsv_design.specs.design.Branches.{AreExclusive, AgreeOnTaken, AreSameWhereTaken}
use Rattle.bsv_design.specs.scheme.Schemes.{Scheme, Outline, AreArgumentsOf}
use Rattle.bsv_design.specs.scheme.Traces.{Site, Trace, acts, kind_at}

-- where a call stands, and what it calls
pub record Place : Type 0 where
  pub target : Target
  pub action : Bool
  pub branches : List Branch

abbrev pub place : Site → Place
place x = record { target = x.target; action = x.action; branches = x.branches }

-- two runs whose calls and conditions are the same ones, whether they are taken or not
pub record AreSamePlaces (a b : Trace) : Type 0 where
  pub calls : map place a.sites ≡ map place b.sites
  pub conditions : map (λ x. x.name) a.demands ≡ map (λ x. x.name) b.demands

-- the answers are the same for each of these calls that gives a value
abbrev pub AgreeOnReads : Answers → Answers → List Site → Type 0
AgreeOnReads q r xs =
    (k : ℕ) (x : Site) → slice_get xs k ≡ Some x → x.action ≡ false
    → q k x.target x.arguments ≡ r k x.target x.arguments

pub record IsSound (S : Scheme) : Type 0 where
  -- the calls are of the methods that the element uses, one by one
  pub uses : (n : ℕ) (r : Answers) (ws : List Bits) → AreArgumentsOf S n ws
      → map (λ x. x.target) (S.trace n r ws).sites ≡ S.uses n
  -- each run has the same calls and conditions
  pub places : (n : ℕ) (q r : Answers) (vs ws : List Bits) → AreArgumentsOf S n vs → AreArgumentsOf S n ws
      → AreSamePlaces (S.trace n q vs) (S.trace n r ws)
  -- calls in different arms of one choice are never both taken
  pub exclusive : (n : ℕ) (r : Answers) (ws : List Bits) → AreArgumentsOf S n ws → AreExclusive (S.trace n r ws).sites
  -- the answer to a call that is not taken decides nothing
  pub decided : (n : ℕ) (q r : Answers) (ws : List Bits) → AreArgumentsOf S n ws
      → AgreeOnTaken q r (S.trace n q ws).sites
      → AreSameWhereTaken (S.trace n q ws) (S.trace n r ws)
  -- and a run rests on the answers to its own calls alone
  pub local : (n : ℕ) (q r : Answers) (ws : List Bits) → AreArgumentsOf S n ws → AgreeOnReads q r (S.trace n q ws).sites
      → S.trace n q ws ≡ S.trace n r ws
  -- the calls that act are those of methods that act
  pub actions : (n : ℕ) (r : Answers) (ws : List Bits) → AreArgumentsOf S n ws → (k : ℕ) (x : Site)
      → slice_get (S.trace n r ws).sites k ≡ Some x
      → x.action ≡ acts (kind_at S.kinds x.target) x.target.method
  -- a method that gives a value and does not act calls none of these
  pub values : (n : ℕ) (o : Outline) → slice_get S.elements n ≡ Some o → o.role ≡ role.Value
      → (r : Answers) (ws : List Bits) → AreArgumentsOf S n ws
      → (k : ℕ) (x : Site) → slice_get (S.trace n r ws).sites k ≡ Some x → x.action ≡ false
