use Rattle.std.proofs.Common.{◌≡◌, ◌<◌, ◌+◌, ◌^◌, length}
use Rattle.std.specs.List.{AllByRecursion}
use Rattle.bsv_serial.specs.Placing.{all_placed}
use Rattle.bsv_serial.proofs.placing.place_all.Given as goal

abbrev pub invariant-loop-number : goal.invariant-loop-number
invariant-loop-number l = record {
  within : AllByRecursion (λ n. n < length l.places) l.rest;
  few : l.at + length l.rest < 2 ^ 32;
  placed : all_placed l.places l.at l.rest ≡ all_placed l.initial.places 0 l.order;
}

abbrev pub decreases-loop-number : goal.decreases-loop-number
decreases-loop-number l = length l.rest
