use Rattle.std.proofs.Common.{◌∙◌, inr, length, refl, ap, arith}
use Rattle.bsv_io.specs.Reading.{Reading, bytes_given, current_name}
use Rattle.std.proofs.lemmas.Result.{on_ok_weaker}
use Rattle.bsv_io.proofs.Moved.{rest_chosen}
use Rattle.bsv_top.specs.Running.{its_outlines}
use Rattle.bsv_run.proofs.Interrupted.{interrupted_at}
use Rattle.bsv_run.proofs.Opened.{nothing_started, opened, opening_started, shown_here}
use Rattle.bsv_top.specs.Traces.{trace_limit}
use Rattle.bsv_top.proofs.Followed.{followed}
use Rattle.bsv_top.proofs.simulation.put_report.Goals as goal

pub returns-in-Err-clause-started : goal.returns-in-Err-clause-started
returns-in-Err-clause-started g c = λ contents told.
    nothing_started trace_limit c.args.scheduled.now.design c.args.scheduled.now.schedule (g.O.Sink.writing c.args.out.now) (g.O.Sink.writing c.args.out.now) (contents c.args.name) refl

pub returns-in_err-write_opening_registers-clause-started : goal.returns-in_err-write_opening_registers-clause-started
returns-in_err-write_opening_registers-clause-started g c = λ contents told.
    opening_started trace_limit c.args.scheduled.now.design c.args.scheduled.now.schedule (g.O.Sink.writing c.args.out.now) (g.O.Sink.writing c.write_opening_registers.new.sink) (contents c.args.name)
    (c.in_err-write_opening_registers.ensures.prefix _
    (shown_here trace_limit c.args.scheduled.now.design c.args.scheduled.now.schedule (g.O.Sink.writing c.args.out.now) (g.O.Sink.writing c.args.out.now) c.args.run.now c.requires.start c.registers.result.now c.registers.ensures))

pub returns-clause-done : goal.returns-clause-done
returns-clause-done g c =
    on_ok_weaker c.run_trace.result
    (λ run contents told.
    run (g.O.Sink.writing c.args.out.now) (contents c.args.name)
    (opened trace_limit c.args.scheduled.now.design c.args.scheduled.now.schedule (g.O.Sink.writing c.args.out.now) (g.O.Sink.writing c.write_opening_registers.new.sink) c.args.run.now c.requires.start
    (c.in_ok-write_opening_registers.ensures.ok _
    (shown_here trace_limit c.args.scheduled.now.design c.args.scheduled.now.schedule (g.O.Sink.writing c.args.out.now) (g.O.Sink.writing c.args.out.now) c.args.run.now c.requires.start c.registers.result.now c.registers.ensures)))
    (rest_chosen (g.F.Files.reading c.args.files.now) (g.F.Files.reading c.choose.new.self) c.args.name c.args.name contents c.in_default.ensures.ok refl told)) c.run_trace.ensures.done

pub returns-clause-bad : goal.returns-clause-bad
returns-clause-bad g c = λ h contents told.
    c.run_trace.ensures.bad h (g.O.Sink.writing c.args.out.now) (contents c.args.name)
    (opened trace_limit c.args.scheduled.now.design c.args.scheduled.now.schedule (g.O.Sink.writing c.args.out.now) (g.O.Sink.writing c.write_opening_registers.new.sink) c.args.run.now c.requires.start
    (c.in_ok-write_opening_registers.ensures.ok _
    (shown_here trace_limit c.args.scheduled.now.design c.args.scheduled.now.schedule (g.O.Sink.writing c.args.out.now) (g.O.Sink.writing c.args.out.now) c.args.run.now c.requires.start c.registers.result.now c.registers.ensures)))
    (rest_chosen (g.F.Files.reading c.args.files.now) (g.F.Files.reading c.choose.new.self) c.args.name c.args.name contents c.in_default.ensures.ok refl told)

pub returns-clause-started : goal.returns-clause-started
returns-clause-started g c = λ contents told.
    c.run_trace.ensures.started (g.O.Sink.writing c.args.out.now) (contents c.args.name)
    (opened trace_limit c.args.scheduled.now.design c.args.scheduled.now.schedule (g.O.Sink.writing c.args.out.now) (g.O.Sink.writing c.write_opening_registers.new.sink) c.args.run.now c.requires.start
    (c.in_ok-write_opening_registers.ensures.ok _
    (shown_here trace_limit c.args.scheduled.now.design c.args.scheduled.now.schedule (g.O.Sink.writing c.args.out.now) (g.O.Sink.writing c.args.out.now) c.args.run.now c.requires.start c.registers.result.now c.registers.ensures)))
    (rest_chosen (g.F.Files.reading c.args.files.now) (g.F.Files.reading c.choose.new.self) c.args.name c.args.name contents c.in_default.ensures.ok refl told)

pub returns-clause-followed : goal.returns-clause-followed
returns-clause-followed g c = λ h contents told.
    let whole = rest_chosen (g.F.Files.reading c.args.files.now) (g.F.Files.reading c.choose.new.self) c.args.name c.args.name contents c.in_default.ensures.ok refl told in
    let from = opened trace_limit c.args.scheduled.now.design c.args.scheduled.now.schedule (g.O.Sink.writing c.args.out.now) (g.O.Sink.writing c.write_opening_registers.new.sink) c.args.run.now c.requires.start
    (c.in_ok-write_opening_registers.ensures.ok _
    (shown_here trace_limit c.args.scheduled.now.design c.args.scheduled.now.schedule (g.O.Sink.writing c.args.out.now) (g.O.Sink.writing c.args.out.now) c.args.run.now c.requires.start c.registers.result.now c.registers.ensures)) in
    followed (its_outlines c.args.scheduled.now) (length c.args.buffer.now) c.args.name contents (g.F.Files.reading c.args.files.now) (g.F.Files.reading c.choose.new.self) (g.F.Files.reading c.run_trace.new.files) c.in_default.ensures.ok
    c.run_trace.ensures.current (c.run_trace.ensures.end (contents c.args.name) whole)
    (λ qs bad. c.run_trace.ensures.within (g.O.Sink.writing c.args.out.now) (contents c.args.name) qs from whole bad)

pub returns-clause-within : goal.returns-clause-within
returns-clause-within g c = λ contents told.
    let whole = rest_chosen (g.F.Files.reading c.args.files.now) (g.F.Files.reading c.choose.new.self) c.args.name c.args.name contents c.in_default.ensures.ok refl told in
    let from = opened trace_limit c.args.scheduled.now.design c.args.scheduled.now.schedule (g.O.Sink.writing c.args.out.now) (g.O.Sink.writing c.write_opening_registers.new.sink) c.args.run.now c.requires.start
    (c.in_ok-write_opening_registers.ensures.ok _
    (shown_here trace_limit c.args.scheduled.now.design c.args.scheduled.now.schedule (g.O.Sink.writing c.args.out.now) (g.O.Sink.writing c.args.out.now) c.args.run.now c.requires.start c.registers.result.now c.registers.ensures)) in
    inr
    (followed (its_outlines c.args.scheduled.now) (length c.args.buffer.now) c.args.name contents (g.F.Files.reading c.args.files.now) (g.F.Files.reading c.choose.new.self) (g.F.Files.reading c.run_trace.new.files) c.in_default.ensures.ok
    c.run_trace.ensures.current (c.run_trace.ensures.end (contents c.args.name) whole)
    (λ qs bad. c.run_trace.ensures.within (g.O.Sink.writing c.args.out.now) (contents c.args.name) qs from whole bad))

pub returns-clause-interrupted : goal.returns-clause-interrupted
returns-clause-interrupted g c = λ failed contents told.
    let whole = rest_chosen (g.F.Files.reading c.args.files.now) (g.F.Files.reading c.choose.new.self) c.args.name c.args.name contents c.in_default.ensures.ok refl told in
    let from = opened trace_limit c.args.scheduled.now.design c.args.scheduled.now.schedule (g.O.Sink.writing c.args.out.now) (g.O.Sink.writing c.write_opening_registers.new.sink) c.args.run.now c.requires.start
    (c.in_ok-write_opening_registers.ensures.ok _
    (shown_here trace_limit c.args.scheduled.now.design c.args.scheduled.now.schedule (g.O.Sink.writing c.args.out.now) (g.O.Sink.writing c.args.out.now) c.args.run.now c.requires.start c.registers.result.now c.registers.ensures)) in
    let none = ap (λ (r : Reading). bytes_given r) c.in_default.ensures.ok in
    interrupted_at trace_limit c.args.scheduled.now.design c.args.scheduled.now.schedule (g.O.Sink.writing c.args.out.now) (contents c.args.name) c.args.name (g.O.Sink.writing c.run_trace.new.out)
    (g.F.Files.reading c.run_trace.new.files).current (c.run_trace.ensures.current ∙ ap current_name c.in_default.ensures.ok)
    (λ place here.
    c.run_trace.ensures.interrupted failed (g.O.Sink.writing c.args.out.now) (contents c.args.name) from whole place
    (here ∙ (omega (arith, none))))
