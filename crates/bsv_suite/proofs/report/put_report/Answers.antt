use Rattle.std.proofs.Common.{◌≡◌, ◌∙◌, ◌+◌, Err, List, [], ℕ, append-nil, ap, subst, sym}
use Rattle.std.proofs.lemmas.Result.{err_from_is_err_and, on_ok_weaker}
use Rattle.bsv_run.specs.declared.halt.Halt.TheVariants as halt
use Rattle.bsv_run.proofs.Opened.{opened, shown_here}
use Rattle.bsv_run.specs.Running.{IsFaultyOf}
use Rattle.bsv_run.specs.Gathered.{lines_ended}
use Rattle.bsv_suite.specs.Sections.{section_limit}
use Rattle.bsv_suite.proofs.report.put_report.Goals as goal

pub returns-in_err-run_piece-clause-bad : goal.returns-in_err-run_piece-clause-bad
returns-in_err-run_piece-clause-bad g c = λ h.
    let p = err_from_is_err_and c.from_residual-in_err-run_piece.result c.from_residual-in_err-run_piece.ensures.1 in
    let e : c.run_piece.result ≡ Err halt.BadLine = c.in_err-run_piece.was ∙ ap Err (sym p.2) ∙ sym p.1 ∙ h in
    let d = c.args.design.now in
    let made = c.args.schedule.now in
    let start = g.O.Sink.writing c.args.out.now in
    let trace = c.args.trace.now in
    let from = opened section_limit d made start (g.O.Sink.writing c.write_opening_registers.new.sink) c.args.run.now c.requires.start
    (c.in_ok-write_opening_registers.ensures.ok _ (shown_here section_limit d made start start c.args.run.now c.requires.start c.registers.result.now c.registers.ensures)) in
    subst (λ (t : List ℕ). IsFaultyOf section_limit d made start t (g.O.Sink.writing c.run_piece.new.out) (lines_ended c.run_piece.new.self.lines + 1)) (append-nil trace)
    (c.run_piece.ensures.bad e section_limit start [] [] from)

pub returns-clause-done : goal.returns-clause-done
returns-clause-done g c =
    let d = c.args.design.now in
    let made = c.args.schedule.now in
    let start = g.O.Sink.writing c.args.out.now in
    let from = opened section_limit d made start (g.O.Sink.writing c.write_opening_registers.new.sink) c.args.run.now c.requires.start
    (c.in_ok-write_opening_registers.ensures.ok _ (shown_here section_limit d made start start c.args.run.now c.requires.start c.registers.result.now c.registers.ensures)) in
    on_ok_weaker c.run_last.result (λ done. done section_limit start c.args.trace.now (c.in_ok-run_piece.ensures.ran section_limit start [] from)) c.run_last.ensures.done

pub returns-clause-bad : goal.returns-clause-bad
returns-clause-bad g c = λ h.
    let d = c.args.design.now in
    let made = c.args.schedule.now in
    let start = g.O.Sink.writing c.args.out.now in
    let from = opened section_limit d made start (g.O.Sink.writing c.write_opening_registers.new.sink) c.args.run.now c.requires.start
    (c.in_ok-write_opening_registers.ensures.ok _ (shown_here section_limit d made start start c.args.run.now c.requires.start c.registers.result.now c.registers.ensures)) in
    c.run_last.ensures.bad h section_limit start c.args.trace.now (c.in_ok-run_piece.ensures.ran section_limit start [] from)
