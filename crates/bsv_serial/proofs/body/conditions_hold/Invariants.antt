use Rattle.std.proofs.Common.{◌≡◌, false, map, length}
use Rattle.bsv_design.specs.scheme.Schemes.{all_hold}
use Rattle.bsv_design.specs.scheme.Traces.{demand_at}
use Rattle.bsv_serial.proofs.body.conditions_hold.Given as goal

abbrev pub invariant-loop-condition : goal.invariant-loop-condition
invariant-loop-condition l = all_hold false (map (demand_at l.words) l.rest) ≡ all_hold false (map (demand_at l.words) l.conditions)

abbrev pub decreases-loop-condition : goal.decreases-loop-condition
decreases-loop-condition l = length l.rest
