use Rattle.std.proofs.Common.{◌≡◌, ◌∙◌, ◌+◌, Err, ap, subst}
use Rattle.bsv_clock.specs.Subjects.{design_subject}
use Rattle.bsv_io.specs.InMemory.{GrowTarget, grow_writing}
use Rattle.bsv_run.specs.Gathered.{lines_ended}
use Rattle.bsv_run.specs.Running.{IsFaulty}
use Rattle.bsv_run.specs.declared.halt.Halt.TheVariants as halt
use Rattle.bsv_suite.specs.Sections.{section_limit}
use Rattle.bsv_suite.proofs.Sectioned.{cut_reported}
use Rattle.bsv_suite.proofs.report.report_of.Goals as goal

pub returns-in-BadLine : goal.returns-in-BadLine
returns-in-BadLine c =
    let s = design_subject c.args.design.now in
    let made = c.args.schedule.now in
    let trace = c.args.trace.now in
    let out = c.put_report-ended.new.out in
    let number = lines_ended c.put_report-ended.new.run.lines + 1 in
    let met : c.put_report-ended.result ≡ Err halt.BadLine = c.in-Err.is ∙ ap Err c.in-BadLine.is in
    let faulty = subst (λ (t : GrowTarget). IsFaulty section_limit s made (grow_writing t) trace (grow_writing out) number) c.new-sink.ensures
    (c.put_report-ended.ensures.bad met) in
    rw (c.bytes-in-BadLine.ensures, c.lines_done.ensures.done) (cut_reported s made trace out number faulty)
