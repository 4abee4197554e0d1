use Rattle.std.proofs.Common.{◌≡◌, ◌++◌, length, map}
use Rattle.bsv_inline.specs.Placed.{named_condition}
use Rattle.bsv_inline.proofs.placer.Placer.conditions.Given as goal

abbrev pub decreases-loop-condition : goal.decreases-loop-condition
decreases-loop-condition l = length l.rest

abbrev pub invariant-loop-condition : goal.invariant-loop-condition
invariant-loop-condition l =
    map (named_condition l.self.modules.now l.self.instances.now) l.conditions
    ≡ l.own ++ map (named_condition l.self.modules.now l.self.instances.now) l.rest
