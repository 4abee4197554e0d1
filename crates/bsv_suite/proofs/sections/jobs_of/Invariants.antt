use Rattle.std.proofs.Common.{◌≡◌, ◌++◌, map, vec_len}
use Rattle.bsv_suite.proofs.sections.jobs_of.Given as goal

abbrev pub invariant-loop-jobs : goal.invariant-loop-jobs
invariant-loop-jobs l = l.initial.traces.items ≡ map (λ job. job.trace) l.jobs.items ++ l.traces.items

abbrev pub decreases-loop-jobs : goal.decreases-loop-jobs
decreases-loop-jobs l = vec_len l.traces
