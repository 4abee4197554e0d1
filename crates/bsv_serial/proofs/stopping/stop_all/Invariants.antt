use Rattle.std.proofs.Common.{◌≡◌, ◌<◌, length}
use Rattle.std.specs.List.{AllByRecursion}
use Rattle.bsv_serial.specs.Decider.{all_stopped}
use Rattle.bsv_serial.proofs.stopping.stop_all.Given as goal

abbrev pub invariant-loop-number : goal.invariant-loop-number
invariant-loop-number l = record {
  within : AllByRecursion (λ m. m < length l.stoppers) l.rest;
  stops : all_stopped l.stoppers l.rest l.by ≡ all_stopped l.initial.stoppers l.stopped l.by;
}

abbrev pub decreases-loop-number : goal.decreases-loop-number
decreases-loop-number l = length l.rest
