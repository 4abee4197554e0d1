use Rattle.std.proofs.Common.{List, length, ap, arith}
use Rattle.std.proofs.lemmas.List.{nil_from_length}
use Rattle.bsv_design.specs.declared.design.NamedPart.{NamedPart}
use Rattle.bsv_trace.specs.Texts as texts
use Rattle.bsv_io.proofs.Adding.{going_start, going_on, going_done, going_failed}
use Rattle.bsv_trace.proofs.ShownLines.{line_here, lines_done, shown_after}
use Rattle.bsv_trace.proofs.registers.add_registers.Goals as goal

pub loop-instance-init : goal.loop-instance-init
loop-instance-init g c = λ ps shown. record {
  parts = ps;
  shown = shown;
  going = going_start (texts.state_lines c.args.instances.now ps) c.args.buffer.now (g.S.Sink.writing c.args.sink.now);
}

pub returns-in_err-add_instance : goal.returns-in_err-add_instance
returns-in_err-add_instance g c = λ ps shown.
    let here = line_here c.loop-instance.left.now c.in-Some.instance.now c.in-Some.others.now c.loop-instance.held.now c.in-Some.ensures.cases.0 (c.loop-instance.invariant ps shown) in
    going_failed (texts.state_lines c.in-Some.others.now here.parts) c.from_residual.result c.from_residual.ensures.0 here.going (c.in_err-add_instance.ensures here.part here.one)

pub loop-instance-smaller : goal.loop-instance-smaller
loop-instance-smaller g c = omega (arith, ap (λ (is : List NamedPart). length is) c.in-Some.ensures.cases.0)

pub loop-instance-preserved : goal.loop-instance-preserved
loop-instance-preserved g c = λ ps shown.
    let here = line_here c.loop-instance.left.now c.in-Some.instance.now c.in-Some.others.now c.loop-instance.held.now c.in-Some.ensures.cases.0 (c.loop-instance.invariant ps shown) in
    record {
      parts = here.parts;
      shown = shown_after c.in-Some.others.now _ c.registers.result c.loop-instance.held.now c.registers_after-held.result.now here.parts c.registers.ensures c.registers_after-held.ensures here.others;
      going = going_on (texts.state_lines c.in-Some.others.now here.parts) here.going (c.in_ok-add_instance.ensures here.part here.one);
    }

pub returns : goal.returns
returns g c = λ ps shown.
    let left = c.loop-instance.invariant ps shown in
    going_done _ (lines_done c.loop-instance.left.now c.loop-instance.held.now (nil_from_length c.loop-instance.left.now c.in_default.ensures.cases) left) left.going
