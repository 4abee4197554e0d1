-- Calls in different arms of one choice, and what two runs of one element have in common where they differ in calls alone
-- that are not taken (Bluespec reference guide, "Conditional statements").
use Rattle.std.specs.Prelude.{◌≡◌, ℕ, ◌==◌, Bool, true, false, not, ◌&&◌, ◌||◌, IsTrue, List, [], ◌∷◌, slice_get, Some}
use Rattle.bsv_design.specs.declared.node.Branch.{Branch}
use Rattle.bsv_design.specs.design.Bodies.{Answers}
use Rattle.bsv_design.specs.scheme.Traces.{Site, Demand, Trace}

-- two arms of one choice
abbrev pub other_arm : Branch → Branch → Bool
other_arm a b = (a.choice == b.choice) && not (a.arm == b.arm)

abbrev pub other_arm_of : Branch → List Branch → Bool
other_arm_of a [] = false
other_arm_of a (b ∷ bs) = other_arm a b || other_arm_of a bs

-- these are in different arms of one choice
abbrev pub apart : List Branch → List Branch → Bool
apart [] bs = false
apart (a ∷ others) bs = other_arm_of a bs || apart others bs

-- calls in different arms of one choice are never both taken
abbrev pub AreExclusive : List Site → Type 0
AreExclusive xs =
    (i j : ℕ) (x y : Site) → slice_get xs i ≡ Some x → slice_get xs j ≡ Some y → IsTrue (apart x.branches y.branches)
    → x.taken ≡ true → y.taken ≡ true → ⊥

-- the answers are the same for each of these calls that is taken
abbrev pub AgreeOnTaken : Answers → Answers → List Site → Type 0
AgreeOnTaken q r xs =
    (k : ℕ) (x : Site) → slice_get xs k ≡ Some x → x.taken ≡ true → q k x.target x.arguments ≡ r k x.target x.arguments

-- one call in two runs
pub record IsSameSite (x y : Site) : Type 0 where
  pub target : x.target ≡ y.target
  pub action : x.action ≡ y.action
  pub branches : x.branches ≡ y.branches
  pub taken : x.taken ≡ y.taken
  pub arguments : x.taken ≡ true → x.arguments ≡ y.arguments

-- one condition in two runs
pub record IsSameDemand (x y : Demand) : Type 0 where
  pub name : x.name ≡ y.name
  pub taken : x.taken ≡ y.taken
  pub holds : x.taken ≡ true → x.holds ≡ y.holds

abbrev pub AreSameSites : List Site → List Site → Type 0
AreSameSites [] [] = Unit {0}
AreSameSites (x ∷ xs) (y ∷ ys) = IsSameSite x y × AreSameSites xs ys
AreSameSites _ _ = ⊥

abbrev pub AreSameDemands : List Demand → List Demand → Type 0
AreSameDemands [] [] = Unit {0}
AreSameDemands (x ∷ xs) (y ∷ ys) = IsSameDemand x y × AreSameDemands xs ys
AreSameDemands _ _ = ⊥

-- the two runs take the same calls with the same arguments, ask the same where they ask, and give the same
pub record AreSameWhereTaken (a b : Trace) : Type 0 where
  pub sites : AreSameSites a.sites b.sites
  pub demands : AreSameDemands a.demands b.demands
  pub result : a.result ≡ b.result
