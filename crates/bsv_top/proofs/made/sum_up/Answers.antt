use Rattle.std.proofs.lemmas.Result.{IfOk-weaker}
use Rattle.std.proofs.Common.{subst}
use Rattle.bsv_top.specs.declared.scheduled.ScheduledDesign.{ScheduledDesign}
use Rattle.bsv_top.specs.MadeRuns.{IsSummary}
use Rattle.bsv_top.proofs.MadeRun.{summed}
use Rattle.bsv_top.proofs.made.sum_up.Goals as goal

pub returns : goal.returns
returns c =
    IfOk-weaker c.summary.result _ _
    (λ text h.
    subst (λ (d : ScheduledDesign). IsSummary d c.args.size text.items) c.in_ok-started.ensures.scheduled
    (summed c.in_ok-started.started.scheduled c.args.size c.in_ok-fired.fired c.run_clocks.new.run c.registers-registers.result.now text.items c.in_ok-fired.ensures c.registers-registers.ensures h))
    c.summary.ensures
