use Rattle.std.proofs.Common.{◌≡◌, length}
use Rattle.std.specs.List.{list_all}
use Rattle.bsv_check.specs.Rightness.{counted_interface}
use Rattle.bsv_check.proofs.counted.are_interfaces_counted.Given as goal

abbrev pub decreases-loop-next : goal.decreases-loop-next
decreases-loop-next l = length l.rest

abbrev pub invariant-loop-next : goal.invariant-loop-next
invariant-loop-next l = list_all counted_interface l.rest ≡ list_all counted_interface l.interfaces
