use Rattle.std.proofs.Common.{rules, ◌≡◌, ℕ, ◌<◌, IfOk, length, subst, sym, arith}
use Rattle.std.specs.Prelude.{Result, slice_index_or}
use Rattle.bsv_bits.specs.declared.memory.OutOfMemory.{OutOfMemory}
use Rattle.bsv_clock.specs.Subjects.{design_subject}
use Rattle.bsv_suite.specs.declared.sections.Job.{Job}
use Rattle.bsv_suite.specs.declared.sections.Section.{Section}
use Rattle.bsv_suite.specs.Sections.{IsSection}
use Rattle.bsv_suite.proofs.Sectioned.{sections_made}
use Rattle.bsv_suite.proofs.sections.reports.Goals as goal

pub returns : goal.returns
returns g c =
    let s = design_subject c.args.design.now in
    let made = c.args.schedule.now in
    let jobs = c.in_ok-jobs.jobs.items in
    let results = c.in_ok-made.made.items in
    let long : length jobs ≡ length results = omega (arith, c.in_ok-made.ensures.len, c.in_ok-made.made.ok.0, c.in_ok-jobs.jobs.ok.0) in
    let each : (i : ℕ) (j : Job) (r : Result Section OutOfMemory) → i < length jobs
    → IfOk (slice_index_or results i r) (IsSection s made (slice_index_or jobs i j).trace)
    = λ i j r h.
    let gives = (c.in_ok-made.ensures.each i r h).1 in
    let k = gives.call.met in
    let own : IfOk (slice_index_or results i r) (IsSection s made gives.job.trace) = search rules in
    subst (λ (x : Job). IfOk (slice_index_or results i r) (IsSection s made x.trace)) (sym (gives.job_is j)) own in
    sections_made s made (λ v. v.items) c.all_made.result c.args.traces.items jobs results c.in_ok-jobs.ensures long each c.all_made.ensures
