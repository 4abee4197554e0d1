-- What is known of a design, its schedule and its requests where a clock is run.
use Rattle.std.proofs.Common.{◌≡◌, ℕ, ◌<◌, ◌≤◌, List, subst, length}
use Rattle.std.specs.List.{AllByRecursion}
use Rattle.std.proofs.lemmas.List.{length-map}
use Rattle.bsv_prim.specs.declared.part.Part.{Part}
use Rattle.bsv_design.specs.declared.design.Design.{Design}
use Rattle.bsv_design.specs.declared.schedule.Schedule.{Schedule}
use Rattle.bsv_design.specs.scheme.Schemes.{Asking, design_scheme, kinds_of, outline}
use Rattle.bsv_design.specs.scheme.Seen.{design_data}
use Rattle.bsv_design.specs.scheme.States.{AskingFits, FitsKinds}
use Rattle.bsv_graph.specs.Orders.{IsOrderOf}
use Rattle.bsv_clock.specs.Grounds.{Fit, IsScheduleOf}
use Rattle.bsv_clock.proofs.Members.{once_long}
use Rattle.bsv_clock.proofs.Requests.{requests_fit}
use Rattle.bsv_clock.proofs.Stopping.{execution_order, urgency_order}
use Rattle.bsv_serial.proofs.Placed.{all_below}

pub fits_together : (d : Design) (q : Asking) (s : List Part) → AskingFits d.elements q → FitsKinds (kinds_of (design_data d)) s → Fit (design_scheme (design_data d)) q s
unfolding design_scheme
fits_together d q s asking parts = record { requests = requests_fit d q asking; parts = parts }

module _ (d : Design) (made : Schedule) (scheduled : IsScheduleOf (design_scheme (design_data d)) made) where
  count : length (design_scheme (design_data d)).elements ≡ length d.elements
  unfolding design_scheme
  count = length-map d.elements outline

  pub executes : IsOrderOf (length d.elements) made.execution
  executes = subst (λ (c : ℕ). IsOrderOf c made.execution) count (execution_order (design_scheme (design_data d)) made scheduled)

  pub urges : IsOrderOf (length d.elements) made.urgency
  urges = subst (λ (c : ℕ). IsOrderOf c made.urgency) count (urgency_order (design_scheme (design_data d)) made scheduled)

  pub execution_long : length made.execution ≤ length d.elements
  execution_long = once_long (length d.elements) made.execution executes.once executes.below

  pub urgency_long : length made.urgency ≤ length d.elements
  urgency_long = once_long (length d.elements) made.urgency urges.once urges.below

  pub execution_below : AllByRecursion (λ n. n < length d.elements) made.execution
  execution_below = all_below (length d.elements) made.execution executes.below
