-- What the asserting attributes refuse (Bluespec reference guide, "no_implicit_conditions", "fire_when_enabled").
use Rattle.std.specs.Prelude.{ℕ, ◌<◌, true, false, Result, Ok, Err}
use Rattle.bsv_design.specs.declared.schedule.Schedule.{Schedule}
use Rattle.bsv_design.specs.scheme.Schemes.{Scheme}
use Rattle.bsv_attr.specs.declared.fault.AttrFault.{AttrFault}
use Rattle.bsv_attr.specs.declared.fault.AttrFault.TheVariants.{NoImplicit, FireWhenEnabled}
use Rattle.bsv_attr.specs.Implicit.{are_implicit, IsFirstTrue, NoneTrue}
use Rattle.bsv_schedule.specs.relating.Marks.{IsMarked}
use Rattle.bsv_attr.specs.Stopping.{NoneStops, IsFirstListed}

-- where n is marked with `no_implicit_conditions`, nothing of it is implicit
abbrev pub IsExplicit : Scheme → ℕ → Type 0
IsExplicit S n = IsMarked S.asserts false n → NoneTrue (are_implicit S n)

-- where n is marked with `fire_when_enabled`, nothing stops it
abbrev pub IsUnstopped : Scheme → Schedule → ℕ → Type 0
IsUnstopped S s n = IsMarked S.asserts true n → NoneStops s.urgency s.stops n

abbrev pub AreExplicit : Scheme → Type 0
AreExplicit S = (n : ℕ) → IsExplicit S n

abbrev pub AreUnstopped : Scheme → Schedule → Type 0
AreUnstopped S s = (n : ℕ) → IsUnstopped S s n

-- nothing is refused
abbrev pub IsAccepted : Scheme → Schedule → Type 0
IsAccepted S s = AreExplicit S × AreUnstopped S s

-- r is the first rule that is marked with `no_implicit_conditions` and has an implicit condition, the first of them at the
-- place
pub record NamesImplicit (S : Scheme) (r place : ℕ) : Type 0 where
  pub marked : IsMarked S.asserts false r
  pub implicit : IsFirstTrue (are_implicit S r) place
  pub earlier : (n : ℕ) → n < r → IsExplicit S n

-- r is the first rule that is marked with `fire_when_enabled` and stopped, and f the first one in urgency that stops it
pub record NamesStopped (S : Scheme) (s : Schedule) (r f : ℕ) : Type 0 where
  pub marked : IsMarked S.asserts true r
  pub stopper : IsFirstListed s.urgency s.stops r f
  pub earlier : (n : ℕ) → n < r → IsUnstopped S s n

-- it is told where no implicit condition is refused
abbrev pub NamesStopper : Scheme → Schedule → ℕ → ℕ → Type 0
NamesStopper S s r f = AreExplicit S × NamesStopped S s r f

-- what is answered of the marks: nothing, or what they refuse first
abbrev pub IsAnswer : Scheme → Schedule → Result (Unit {0}) AttrFault → Type 0
IsAnswer S s (Ok x) = IsAccepted S s
IsAnswer S s (Err (NoImplicit r place)) = NamesImplicit S r place
IsAnswer S s (Err (FireWhenEnabled r f)) = NamesStopper S s r f

-- ---- of one attribute alone

abbrev pub TellsImplicit : Scheme → AttrFault → Type 0
TellsImplicit S (NoImplicit r place) = NamesImplicit S r place
TellsImplicit S (FireWhenEnabled r f) = ⊥

abbrev pub TellsStopper : Scheme → Schedule → AttrFault → Type 0
TellsStopper S s (NoImplicit r place) = ⊥
TellsStopper S s (FireWhenEnabled r f) = NamesStopped S s r f
