use Rattle.bsv_lockstep.specs.Running.{FitsRun}
use Rattle.bsv_lockstep.proofs.clocks.outcome_of.Given as goal

abbrev pub invariant-loop-text : goal.invariant-loop-text
invariant-loop-text l =
    (goal.iterator-loop-text).can_next l.text-iterator ×
    ((goal.iterator-loop-text).is_finite l.text-iterator × FitsRun l.compiled l.run)
