use Rattle.std.proofs.Common.{◌+◌, refl, ap, rules}
use Rattle.std.proofs.lemmas.Result.{on_ok_weaker}
use Rattle.std.proofs.lemmas.List.{nil_from_length}
use Rattle.bsv_run.specs.declared.halt.Halt.TheVariants as halt
use Rattle.bsv_run.specs.declared.lines.Lines.{Lines}
use Rattle.bsv_run.proofs.Stepping.{at_fault, bad_last, started_whole, done_here, done_last, state, stepped, stepped_last}
use Rattle.bsv_run.proofs.run.Run.run_last.Goals as goal

pub returns-then-is_empty-clause-done : goal.returns-then-is_empty-clause-done
returns-then-is_empty-clause-done g c = λ limit start trace run.
    done_here limit c.args.design.now c.args.schedule.now start trace c.args.self.now (g.O.Sink.writing c.args.out.now) run (nil_from_length c.args.self.now.lines.held.items (search rules))

pub returns-then-is_empty-clause-started : goal.returns-then-is_empty-clause-started
returns-then-is_empty-clause-started g c = λ limit start trace run.
    started_whole limit c.args.design.now c.args.schedule.now start trace c.args.self.now (g.O.Sink.writing c.args.out.now) run

pub returns-clause-done : goal.returns-clause-done
returns-clause-done g c =
    on_ok_weaker c.run_line.result
    (λ this limit start trace run.
    let puts = this.ran (state limit c.args.design.now c.args.schedule.now start trace c.args.self.now (g.O.Sink.writing c.args.out.now) run) run.state in
    done_last limit c.args.design.now c.args.schedule.now start trace c.args.self.now (g.O.Sink.writing c.args.out.now) run c.args.self.now c.run_line.new.self puts.after refl refl refl puts.ran
    refl (search rules) (g.O.Sink.writing c.run_line.new.out) puts.put)
    c.run_line.ensures.ran

pub returns-clause-bad : goal.returns-clause-bad
returns-clause-bad g c = λ h limit start trace run.
    let same = at_fault c.run_line.result halt.BadLine _ h c.run_line.ensures.lines in
    bad_last limit c.args.design.now c.args.schedule.now start trace c.args.self.now (g.O.Sink.writing c.args.out.now) run (g.O.Sink.writing c.run_line.new.out) (c.run_line.new.self.lines.done + 1)
    (search rules) (c.run_line.ensures.bad h)
    (at_fault c.run_line.result halt.BadLine _ h c.run_line.ensures.quiet (λ e. let no_value : ⊥ = cc in no_value))
    (ap (λ (l : Lines). l.done + 1) same)

pub returns-clause-started : goal.returns-clause-started
returns-clause-started g c = λ limit start trace run.
    stepped_last limit c.args.design.now c.args.schedule.now start trace c.args.self.now (g.O.Sink.writing c.args.out.now) run c.args.self.now c.run_line.new.self refl refl refl
    (g.O.Sink.writing c.run_line.new.out) refl (search rules)
    (stepped c.args.design.now c.args.schedule.now c.args.self.now c.run_line.new.self (state limit c.args.design.now c.args.schedule.now start trace c.args.self.now (g.O.Sink.writing c.args.out.now) run)
    (g.O.Sink.writing c.args.out.now) (g.O.Sink.writing c.run_line.new.out) c.run_line.result run.state
    c.run_line.ensures.ran c.run_line.ensures.started c.run_line.ensures.quiet)
