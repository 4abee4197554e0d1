-- The widths of an assignment (IEEE 1364-2005, 5.4): its sides have equal widths where the operator asks for that, and what it
-- gives has the target's width.
use Rattle.std.specs.Prelude.{◌≡◌, ℕ, ◌+◌, ◌-◌, ◌<◌, ◌≤◌, nat_le, Bool, ◌&&◌, if◌then◌else◌, List, [], ◌∷◌, slice_get, length, Option, Some, None}
use Rattle.std.specs.Option.{option_map, option_and_then}
use Rattle.bsv_vtext.specs.declared.tree.VMethod.{VMethod}
use Rattle.bsv_vtext.specs.declared.tree.Atom.{Atom}
use Rattle.bsv_vtext.specs.declared.tree.Atom.TheVariants as atom
use Rattle.bsv_vtext.specs.declared.tree.Side.{Side}
use Rattle.bsv_vtext.specs.declared.tree.Side.TheVariants as side
use Rattle.bsv_vtext.specs.declared.tree.Target.{Target}
use Rattle.bsv_vtext.specs.declared.tree.Target.TheVariants as target
use Rattle.bsv_vtext.specs.declared.tree.VOperator.{VOperator}
use Rattle.bsv_vtext.specs.declared.tree.VOperator.TheVariants as operator
use Rattle.bsv_vtext.specs.Signals.{VModuleData, arguments_of}

-- a word has 1 to 128 bits
abbrev pub width_fits : ℕ → Bool
width_fits width = nat_le 1 width && nat_le width 128

abbrev pub enable_width : Option VMethod → Option ℕ
enable_width None = None
enable_width (Some m) = if m.action then Some 1 else None

-- the width of an atom, where there is what it names
abbrev pub atom_width : VModuleData → Atom → Option ℕ
atom_width c (atom.Enable m) = enable_width (slice_get c.methods m)
atom_width c (atom.Argument m k) = option_map (λ a. a.width) (slice_get (arguments_of (slice_get c.methods m)) k)
atom_width c (atom.Register k) = option_map (λ r. r.start.width) (slice_get c.registers k)
atom_width c (atom.Wire k) = option_map (λ w. w.width) (slice_get c.wires k)
atom_width c (atom.Constant w) = Some w.width

-- the width of a target, where there is such a wire or output
abbrev pub target_width : VModuleData → Target → Option ℕ
target_width c (target.Wire k) = option_map (λ w. w.width) (slice_get c.wires k)
target_width c (target.Ready m) = option_map (λ _. 1) (slice_get c.methods m)
target_width c (target.Result m) = option_and_then (λ m. m.result) (slice_get c.methods m)

-- ---- sides

-- how the widths of an operator's sides and of what it gives belong together
pub data Sort : Type 0 where
  -- all are one
  Even : Sort
  -- the sides have one width, and it gives one bit
  Comparing : Sort
  -- it gives the width of the first side
  Shifting : Sort

abbrev pub sort_of : VOperator → Sort
sort_of operator.Add = Even
sort_of operator.Sub = Even
sort_of operator.Mul = Even
sort_of operator.And = Even
sort_of operator.Or = Even
sort_of operator.Xor = Even
sort_of operator.Same = Comparing
sort_of operator.Differs = Comparing
sort_of operator.Less = Comparing
sort_of operator.UpTo = Comparing
sort_of operator.Shl = Shifting
sort_of operator.Shr = Shifting

-- an atom of so many bits may be here
module _ (Stands : Atom → ℕ → Type 0) where
  abbrev pub FitsTwo : Sort → Atom → Atom → ℕ → Type 0
  FitsTwo Even a b width = Stands a width × Stands b width
  FitsTwo Comparing a b width = (width ≡ 1) × ((own : ℕ) × (Stands a own × Stands b own))
  FitsTwo Shifting a b width = Stands a width × ((own : ℕ) × Stands b own)

  -- the widths of the parts sum to this one
  pub data FitsJoined : List Atom → ℕ → Type 0 where
    none : FitsJoined [] 0
    more : {a : Atom} {rest : List Atom} (own others : ℕ) → Stands a own → FitsJoined rest others → FitsJoined (a ∷ rest) (own + others)

  -- a part of what has a name, and not of a constant
  abbrev pub IsNamed : Atom → Type 0
  IsNamed (atom.Constant w) = ⊥
  IsNamed _ = Unit {0}

  pub record FitsSlice (a : Atom) (high low width : ℕ) : Type 0 where
    pub named : IsNamed a
    pub own : ℕ
    pub stands : Stands a own
    pub order : low ≤ high
    pub within : high < own
    pub width_is : width ≡ high - low + 1

  -- the side gives so many bits
  abbrev pub Fits : Side → ℕ → Type 0
  Fits (side.Is a) width = Stands a width
  Fits (side.Not a) width = Stands a width
  Fits (side.Two o a b) width = FitsTwo (sort_of o) a b width
  Fits (side.LessSigned a b) width = FitsTwo Comparing a b width
  Fits (side.UpToSigned a b) width = FitsTwo Comparing a b width
  Fits (side.ShiftSigned a b) width = FitsTwo Shifting a b width
  Fits (side.Pick t a b) width = Stands t 1 × FitsTwo Even a b width
  Fits (side.Join parts) width = (2 ≤ length parts) × FitsJoined parts width
  Fits (side.Slice a high low) width = FitsSlice a high low width
