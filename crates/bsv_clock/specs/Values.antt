-- Value methods in a clock: asking one changes nothing else.
use Rattle.std.specs.Prelude.{◌≡◌, ℕ, Bool, false, List, slice_get, Some}
use Rattle.bsv_prim.specs.declared.part.Part.{Part}
use Rattle.bsv_design.specs.declared.element.Role.TheVariants as role
use Rattle.bsv_design.specs.declared.schedule.Schedule.{Schedule}
use Rattle.bsv_design.specs.scheme.Schemes.{Scheme, Outline, Asking, given}
use Rattle.bsv_clock.specs.Clocks.{may_fire}
use Rattle.bsv_clock.specs.Settling.{the_clock, deeds, stops_in}

abbrev pub IsValueMethod : Scheme → ℕ → Type 0
IsValueMethod S n = (o : Outline) × (slice_get S.elements n ≡ Some o) × (o.role ≡ role.Value)

-- value methods stop nothing, and nothing stops them
pub record AreQuiet (S : Scheme) (made : Schedule) : Type 0 where
  pub stops_none : (v n : ℕ) → IsValueMethod S v → stops_in made v n ≡ false
  pub stopped_by_none : (v n : ℕ) → IsValueMethod S v → stops_in made n v ≡ false

-- the requests give the same arguments, and ask the same but for value methods
pub record AskAlike (S : Scheme) (q r : Asking) : Type 0 where
  pub arguments : (n : ℕ) → given S q n ≡ given S r n
  pub others : (n : ℕ) → (IsValueMethod S n → ⊥) → may_fire S q n ≡ may_fire S r n

-- then all else happens alike in the clock
pub record HappenAlike (aggressive : Bool) (S : Scheme) (made : Schedule) (q r : Asking) (s : List Part) : Type 0 where
  pub same_calls : deeds (the_clock aggressive S made q s) made.execution ≡ deeds (the_clock aggressive S made r s) made.execution
  pub same_others : (n : ℕ) → (IsValueMethod S n → ⊥) → the_clock aggressive S made q s n ≡ the_clock aggressive S made r s n
