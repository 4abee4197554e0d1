-- A made design that is compiled and run: how far it was run, and what is told of it.
use Rattle.std.specs.Prelude.{◌≡◌, ℕ, false, List, []}
use Rattle.bsv_design.specs.scheme.States.{opening}
use Rattle.bsv_clock.specs.Runs.{Row, Runs}
use Rattle.bsv_flow.specs.Refusals.{refusal_line}
use Rattle.bsv_run.specs.declared.run.Run.{Run}
use Rattle.bsv_top.specs.declared.scheduled.ScheduledDesign.{ScheduledDesign}
use Rattle.bsv_top.specs.declared.status.Status.TheVariants as status
use Rattle.bsv_top.specs.declared.stop.Stop.{Stop}
use Rattle.bsv_top.specs.declared.stop.Stop.TheVariants as stop
use Rattle.bsv_top.specs.Answers.{MadeAnswer}
use Rattle.bsv_top.specs.Made.{fired_count, nothing_for, summary}
use Rattle.bsv_run.specs.Reports.{state_after}
use Rattle.bsv_run.specs.Running.{ShowsParts}
use Rattle.bsv_top.specs.Running.{its_subject}

-- so many clocks without requests were run from the opening state; so many elements fired, and the run shows the state after
-- them
pub record HasFired (c : ScheduledDesign) (clocks count : ℕ) (r : Run) : Type 0 where
  pub rows : List Row
  pub runs : Runs false (its_subject c).scheme c.schedule (nothing_for clocks (its_subject c).scheme) rows
  pub state : ShowsParts c.design r (state_after (opening (its_subject c).scheme.kinds) rows)
  pub count_is : count ≡ fired_count rows

-- the summary of a run of 100 clocks without requests
pub record IsSummary (c : ScheduledDesign) (size : ℕ) (text : List ℕ) : Type 0 where
  pub rows : List Row
  pub runs : Runs false (its_subject c).scheme c.schedule (nothing_for 100 (its_subject c).scheme) rows
  pub is : text ≡ summary size (its_subject c) rows

-- why there is no summary: the text is refused, or memory is wanting
abbrev pub IsMadeStop : ℕ → Stop → Type 0
IsMadeStop size (stop.Refused refusal) = MadeAnswer size status.Refused [] (refusal_line refusal)
IsMadeStop size (stop.Unread name) = ⊥
IsMadeStop size stop.Unwritable = ⊥
IsMadeStop size stop.OutOfMemory = Unit {0}
IsMadeStop size (stop.BadLine number) = ⊥
IsMadeStop size (stop.BadListLine number) = ⊥
IsMadeStop size (stop.BadTraces count) = ⊥
