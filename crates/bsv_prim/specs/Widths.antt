-- Which pieces are well formed, and how wide their words are.
use Rattle.std.specs.Prelude.{◌≡◌, ℕ, ◌+◌, ◌-◌, ◌<◌, ◌≤◌, Bool, true, false}
use Rattle.bsv_bits.specs.Words.{IsWord}
use Rattle.bsv_bits.specs.Operators.{compares, is_shift}
use Rattle.bsv_prim.specs.Shape.{Shape, Given, IsCalled, ArgumentOf, Fixed, Inverted, Both, Chosen, Cut, Joined, Extended}
use Rattle.bsv_prim.specs.Table.{Table}

-- the width of a comparison is 1, and of another operator that of its first operand
abbrev pub IsWidthOf : Bool → ℕ → ℕ → Type 0
IsWidthOf true operand width = width ≡ 1
IsWidthOf false operand width = width ≡ operand

-- an amount to shift by has any width
abbrev pub AgreeUnless : Bool → ℕ → ℕ → Type 0
AgreeUnless true first second = Unit {0}
AgreeUnless false first second = second ≡ first

-- the numbers in a piece are below their counts, and its operands have the widths that its operators need
abbrev pub HasWidth : Table → Shape → ℕ → Type 0
HasWidth t (Given n) w = (n < t.registers) × (w ≡ t.register_width n)
HasWidth t (IsCalled m) w = (m < t.methods) × (w ≡ 1)
HasWidth t (ArgumentOf m k) w = (m < t.methods) × (k < t.arity m) × (w ≡ t.argument_width m k)
HasWidth t (Fixed x) w = IsWord x × (w ≡ x.width)
HasWidth t (Inverted a) w = HasWidth t a w
HasWidth t (Both o a b) w =
    (v : ℕ) × (u : ℕ) × HasWidth t a v × HasWidth t b u × AgreeUnless (is_shift o) v u × IsWidthOf (compares o) v w
HasWidth t (Chosen c a b) w = HasWidth t c 1 × HasWidth t a w × HasWidth t b w
HasWidth t (Cut a high low) w =
    (v : ℕ) × HasWidth t a v × (low ≤ high) × (high < v) × (w ≡ high - low + 1)
HasWidth t (Joined a b) w = (v : ℕ) × (u : ℕ) × HasWidth t a v × HasWidth t b u × (w ≡ v + u) × (w ≤ 128)
HasWidth t (Extended a width) w = (v : ℕ) × HasWidth t a v × (v ≤ width) × (width ≤ 128) × (w ≡ width)
