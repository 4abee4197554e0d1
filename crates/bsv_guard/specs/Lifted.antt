-- What is promised of the guards that were lifted out of the elements of a design (Bluespec reference guide, "Implicit
-- conditions"), and of an element where two calls break the rule of one element.
use Rattle.std.specs.Prelude.{◌≡◌, ℕ, Bool, false, ◌&&◌, List, slice_get, Some, Result, Ok, Err}
use Rattle.bsv_bits.specs.Words.{Bits}
use Rattle.bsv_design.specs.declared.element.Call.{Call}
use Rattle.bsv_design.specs.declared.element.Element.{Element}
use Rattle.bsv_design.specs.declared.kind.Kind.{Kind}
use Rattle.bsv_design.specs.declared.schedule.Need.{Need}
use Rattle.bsv_design.specs.design.Designs.{DesignData}
use Rattle.bsv_design.specs.design.Guards.{needs_from, body_ready}
use Rattle.bsv_design.specs.scheme.Relations.{IsFirstBreach}
use Rattle.bsv_design.specs.scheme.Schemes.{Look, Asking, design_scheme, kinds_of, answers, all_hold, all_open, given, ready}
use Rattle.bsv_design.specs.scheme.Traces.{Site, Trace, body_trace}
use Rattle.bsv_guard.specs.declared.fault.GuardFault.{GuardFault}
use Rattle.bsv_guard.specs.declared.fault.GuardFault.TheVariants.{InRule, OutOfMemory}
use Rattle.bsv_guard.specs.Pairs.{AreFree, IsFound}

-- every condition of the run holds, and the guard of every call, in all branches
abbrev pub all_ready : List Kind → Look → Trace → Bool
all_ready ks look t = all_hold false t.demands && all_open false ks look t.sites

-- Readiness that asks the lifted guards alone is readiness that asks the guard of every call, whatever methods look at
-- and whatever the arguments are
pub record AreLifted (b : DesignData) (needs : List (List Need)) : Type 0 where
  pub body : (n : ℕ) (e : Element) (ns : List Need) (look : Look) (ws : List Bits) → slice_get b.elements n ≡ Some e → slice_get needs n ≡ Some ns
      → body_ready false (kinds_of b) e ns look ws ≡ all_ready (kinds_of b) look (body_trace (kinds_of b) e (answers (kinds_of b) look) ws)
  pub whole : (n : ℕ) (e : Element) (ns : List Need) (look : Look) (q : Asking) → slice_get b.elements n ≡ Some e → slice_get needs n ≡ Some ns
      → ready false (design_scheme b) q n look ≡ body_ready false (kinds_of b) e ns look (given (design_scheme b) q n)

-- the first breach of the design is one of calls of this part by these methods, in this element
pub record NamesFirst (b : DesignData) (n part x y : ℕ) : Type 0 where
  pub earlier : ℕ
  pub later : ℕ
  pub one : Site
  pub other : Site
  pub breach : IsFirstBreach (design_scheme b) n earlier later one other
  pub part_is : one.target.part ≡ part
  pub first_is : one.target.method ≡ x
  pub second_is : other.target.method ≡ y

abbrev pub IsRefused : DesignData → GuardFault → Type 0
IsRefused b (InRule n part x y) = NamesFirst b n part x y
IsRefused b OutOfMemory = Unit {0}

-- ---- of one element

abbrev pub IsElementRefused : List Kind → ℕ → List Call → GuardFault → Type 0
IsElementRefused ks number cs (InRule n part x y) = (n ≡ number) × IsFound ks cs part x y
IsElementRefused ks number cs OutOfMemory = Unit {0}

abbrev pub IsElementLifted : List Kind → ℕ → List Call → Result (List Need) GuardFault → Type 0
IsElementLifted ks number cs (Ok needs) = AreFree ks cs × (needs ≡ needs_from ks 0 cs)
IsElementLifted ks number cs (Err fault) = IsElementRefused ks number cs fault
