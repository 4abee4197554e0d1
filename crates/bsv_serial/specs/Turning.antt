-- An element that is run on its own: what has to belong together, and what comes of it.
use Rattle.std.specs.Prelude.{◌≡◌, ◌<◌, ℕ, true, false, List, length, Option}
use Rattle.bsv_bits.specs.Words.{Bits}
use Rattle.bsv_prim.specs.declared.part.Part.{Part}
use Rattle.bsv_design.specs.declared.design.Design.{Design}
use Rattle.bsv_design.specs.declared.schedule.Need.{Need}
use Rattle.bsv_design.specs.design.Guards.{needs_of}
use Rattle.bsv_design.specs.scheme.Schemes.{Scheme, Asking, design_scheme, kinds_of, ready, value}
use Rattle.bsv_design.specs.scheme.Seen.{design_data}
use Rattle.bsv_design.specs.scheme.Serial.{run_whole}
use Rattle.bsv_design.specs.scheme.States.{AskingFits, FitsKinds, plain}
use Rattle.bsv_clock.specs.Grounds.{KeepsRules}
use Rattle.bsv_serial.specs.declared.outcome.Turn.{Turn}
use Rattle.bsv_serial.specs.declared.outcome.Turn.TheVariants as turn

-- the design has the element and keeps the rule of one element, the guards are those that its calls
-- need, and the parts and the requests fit it
pub record CanTurn (d : Design) (guards : List (List Need)) (n : ℕ) (s : List Part) (q : Asking) : Type 0 where
  pub rules : KeepsRules (design_scheme (design_data d))
  pub needs : guards ≡ needs_of (kinds_of (design_data d)) d.elements
  pub parts : FitsKinds (kinds_of (design_data d)) s
  pub requests : AskingFits d.elements q
  pub element : n < length d.elements

module _ (S : Scheme) (q : Asking) (n : ℕ) (before after : List Part) where
  -- the element is not ready, and the parts are as they were
  pub record StaysClosed : Type 0 where
    pub not_ready : ready false S q n (plain before) ≡ false
    pub kept : after ≡ before

  -- it is ready, and the parts are those after it; this is what it gives
  pub record RunsWhole (word : Option Bits) : Type 0 where
    pub is_ready : ready false S q n (plain before) ≡ true
    pub behind : after ≡ run_whole S q n before
    pub gives : word ≡ value S q n (plain before)

-- ---- of each answer

abbrev pub IfClosed : Turn → Type 0 → Type 0
IfClosed turn.Closed P = P
IfClosed (turn.Ran word) P = Unit {0}

abbrev pub IfRan : Turn → (Option Bits → Type 0) → Type 0
IfRan turn.Closed P = Unit {0}
IfRan (turn.Ran word) P = P word
