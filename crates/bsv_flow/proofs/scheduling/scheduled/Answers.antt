use Rattle.std.proofs.Common.{Err, sym, ap, ◌∙◌}
use Rattle.std.proofs.lemmas.Result.{err_from_is_err_and}
use Rattle.bsv_flow.proofs.ScheduledTrees.{fault_same, unexecuted, unurged, unasserted, scheduled_of, obeyed_of, rules_there, schedule_there, compiled_of}
use Rattle.bsv_flow.proofs.VerilogOfTree.{registers_there, verilog_there}
use Rattle.bsv_flow.proofs.scheduling.scheduled.Goals as goal

pub returns-in_err-execution-clause-refused : goal.returns-in_err-execution-clause-refused
returns-in_err-execution-clause-refused g c =
    let p = err_from_is_err_and c.from_residual-in_err-execution.result c.from_residual-in_err-execution.ensures.1 in
    let made = c.in_ok-design.ensures in
    λ r e. unexecuted _ c.in_ok-design.design made.alike made.parts made.kept r
    (c.executed.ensures.refused r (c.in_err-execution.was ∙ ap Err (fault_same _ _ (ap Err (sym p.2) ∙ sym p.1 ∙ e))))

pub returns-in_err-urgency-clause-refused : goal.returns-in_err-urgency-clause-refused
returns-in_err-urgency-clause-refused g c =
    let p = err_from_is_err_and c.from_residual-in_err-urgency.result c.from_residual-in_err-urgency.ensures.1 in
    let made = c.in_ok-design.ensures in
    λ r e. unurged _ c.in_ok-design.design made.alike made.parts made.kept c.in_ok-execution.execution c.in_ok-execution.ensures.executes r
    (c.urged.ensures.refused r (c.in_err-urgency.was ∙ ap Err (fault_same _ _ (ap Err (sym p.2) ∙ sym p.1 ∙ e))))

pub returns-in_err-asserted-clause-refused : goal.returns-in_err-asserted-clause-refused
returns-in_err-asserted-clause-refused g c =
    let p = err_from_is_err_and c.from_residual-in_err-asserted.result c.from_residual-in_err-asserted.ensures.1 in
    let made = c.in_ok-design.ensures in
    let orders = c.in_ok-schedule.ensures in
    λ r e. unasserted _ c.in_ok-design.design made.alike made.parts made.kept c.in_ok-schedule.schedule
    c.in_ok-execution.execution c.in_ok-urgency.urgency orders.execution orders.urgency
    c.in_ok-execution.ensures.executes c.in_ok-urgency.ensures.urges orders.stops r
    (c.asserted.ensures.refused r (c.in_err-asserted.was ∙ ap Err (fault_same _ _ (ap Err (sym p.2) ∙ sym p.1 ∙ e))))

pub returns-clause-scheduled : goal.returns-clause-scheduled
returns-clause-scheduled g c =
    let made = c.in_ok-design.ensures in
    let orders = c.in_ok-schedule.ensures in
    scheduled_of _ c.in_ok-design.design made.alike made.parts made.kept c.in_ok-schedule.schedule
    c.in_ok-execution.execution c.in_ok-urgency.urgency orders.execution orders.urgency
    c.in_ok-execution.ensures.executes c.in_ok-urgency.ensures.urges orders.stops c.in_ok-asserted.ensures.accepted

pub returns-clause-obeys : goal.returns-clause-obeys
returns-clause-obeys g c =
    let made = c.in_ok-design.ensures in
    let orders = c.in_ok-schedule.ensures in
    obeyed_of _ c.in_ok-design.design made.alike made.parts c.in_ok-schedule.schedule
    c.in_ok-execution.execution c.in_ok-urgency.urgency orders.execution orders.urgency
    c.in_ok-execution.ensures.executes c.in_ok-urgency.ensures.urges orders.stops c.in_ok-asserted.ensures.accepted

pub net_of-requires-clause-rules : goal.net_of-requires-clause-rules
net_of-requires-clause-rules g c =
    let made = c.in_ok-design.ensures in
    rules_there _ c.in_ok-design.design made.alike made.kept

pub net_of-requires-clause-schedule : goal.net_of-requires-clause-schedule
net_of-requires-clause-schedule g c =
    let orders = c.in_ok-schedule.ensures in
    schedule_there c.in_ok-design.design c.in_ok-schedule.schedule c.in_ok-execution.execution c.in_ok-urgency.urgency
    orders.execution orders.urgency c.in_ok-execution.ensures.executes c.in_ok-urgency.ensures.urges orders.stops

pub generate-requires-clause-registers : goal.generate-requires-clause-registers
generate-requires-clause-registers g c =
    registers_there c.in_ok-design.design c.in_ok-schedule.schedule c.in_ok-net.net c.in_ok-net.ensures.carries

pub generate-requires-clause-inputs : goal.generate-requires-clause-inputs
generate-requires-clause-inputs g c = c.in_ok-net.ensures.carries.words.inputs

pub returns-clause-compiled : goal.returns-clause-compiled
returns-clause-compiled g c =
    let made = c.in_ok-design.ensures in
    let orders = c.in_ok-schedule.ensures in
    let net = c.in_ok-net.ensures in
    let verilog = c.in_ok-verilog.ensures in
    compiled_of _ c.in_ok-design.design c.in_ok-design.guards c.in_ok-schedule.schedule c.in_ok-net.net c.in_ok-verilog.verilog
    made.alike made.name made.parts made.needs made.lifted net.carries net.folded net.distinct net.needed
    (verilog_there _ c.in_ok-design.design c.in_ok-schedule.schedule c.in_ok-net.net c.in_ok-verilog.verilog made.alike made.name made.parts
    (rules_there _ c.in_ok-design.design made.alike made.kept)
    (schedule_there c.in_ok-design.design c.in_ok-schedule.schedule c.in_ok-execution.execution c.in_ok-urgency.urgency
    orders.execution orders.urgency c.in_ok-execution.ensures.executes c.in_ok-urgency.ensures.urges orders.stops)
    (obeyed_of _ c.in_ok-design.design made.alike made.parts c.in_ok-schedule.schedule
    c.in_ok-execution.execution c.in_ok-urgency.urgency orders.execution orders.urgency
    c.in_ok-execution.ensures.executes c.in_ok-urgency.ensures.urges orders.stops c.in_ok-asserted.ensures.accepted)
    net.carries verilog.module verilog.results verilog.carries verilog.ignores verilog.runs verilog.unasked verilog.begins verilog.resets)

pub returns-clause-runs : goal.returns-clause-runs
returns-clause-runs g c =
    let made = c.in_ok-design.ensures in
    let orders = c.in_ok-schedule.ensures in
    record {
      rules = rules_there _ c.in_ok-design.design made.alike made.kept;
      needs = made.needs;
      schedule = schedule_there c.in_ok-design.design c.in_ok-schedule.schedule c.in_ok-execution.execution c.in_ok-urgency.urgency
          orders.execution orders.urgency c.in_ok-execution.ensures.executes c.in_ok-urgency.ensures.urges orders.stops;
      carries = c.in_ok-net.ensures.carries;
      results = c.in_ok-net.ensures.results;
    }
