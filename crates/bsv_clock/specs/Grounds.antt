-- What belongs together: a scheme that is scheduled, its schedule, a state and requests.
use Rattle.std.specs.Prelude.{ℕ, IsTrue, List}
use Rattle.bsv_prim.specs.declared.part.Part.{Part}
use Rattle.bsv_design.specs.declared.schedule.Schedule.{Schedule}
use Rattle.bsv_design.specs.scheme.Relations.{KeepsTheRule}
use Rattle.bsv_design.specs.scheme.Schemes.{Scheme, Asking}
use Rattle.bsv_design.specs.scheme.States.{FitsKinds}
use Rattle.bsv_schedule.specs.relating.Elements.{relating}
use Rattle.bsv_schedule.specs.execution_order.Orders.{Executes}
use Rattle.bsv_schedule.specs.relating.Relating.{Relating, Agrees}
use Rattle.bsv_schedule.specs.stopping.Stops.{AreStops}
use Rattle.bsv_schedule.specs.urgency_order.Orders.{Urges}
use Rattle.bsv_guard.specs.Fitting.{RequestFits, IsFitting}
use Rattle.bsv_guard.specs.Sound.{IsSound}

-- no two calls of one element break the rule of one element
abbrev pub KeepsRules : Scheme → Type 0
KeepsRules S = (n : ℕ) → KeepsTheRule S n

-- the elements do what is asked of every design
pub record IsLawful (S : Scheme) : Type 0 where
  pub sound : IsSound S
  pub fitting : IsFitting S
  pub rules : KeepsRules S

-- `preempts` names rules
abbrev pub PreemptsNameRules : Relating → Type 0
PreemptsNameRules r = (a b : ℕ) → IsTrue (r.preempts a b) → IsTrue (r.rule a) × IsTrue (r.rule b)

-- the schedule is that of the scheme, whose attributes name its rules
pub record IsScheduleOf (S : Scheme) (made : Schedule) : Type 0 where
  pub agrees : Agrees (relating S)
  pub named : PreemptsNameRules (relating S)
  pub executes : Executes (relating S) made.execution
  pub urges : Urges (relating S) made.urgency
  pub stops : AreStops (relating S) made.execution made.urgency made.stops

-- the requests give each element arguments of its widths, and the parts are of their kinds
pub record Fit (S : Scheme) (q : Asking) (s : List Part) : Type 0 where
  pub requests : (n : ℕ) → RequestFits S q n
  pub parts : FitsKinds S.kinds s

pub record BelongTogether (S : Scheme) (made : Schedule) (q : Asking) (s : List Part) : Type 0 where
  pub lawful : IsLawful S
  pub schedule : IsScheduleOf S made
  pub fit : Fit S q s
