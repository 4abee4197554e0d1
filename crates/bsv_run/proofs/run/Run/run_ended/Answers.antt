use Rattle.std.proofs.Common.{◌+◌, ℕ, refl, ap, ◌∙◌}
use Rattle.std.proofs.lemmas.Result.{on_ok_weaker}
use Rattle.bsv_run.specs.declared.halt.Halt.TheVariants as halt
use Rattle.bsv_run.specs.declared.lines.Lines.{Lines}
use Rattle.bsv_run.proofs.Stepping.{at_fault, fails, over_ended, started_here, ran_ended, bad_ended, shown_of, state, stepped, stepped_ended}
use Rattle.bsv_run.proofs.run.Run.run_ended.Goals as goal

pub returns-in_err-gather-clause-bad : goal.returns-in_err-gather-clause-bad
returns-in_err-gather-clause-bad g c = λ _ limit start read left run.
    over_ended limit c.args.design.now c.args.schedule.now start read c.args.self.now (g.O.Sink.writing c.args.out.now) run c.args.bytes.now left (c.gather.new.self.done + 1)
    c.requires.ended c.in_err-gather.ensures.over (ap (λ (n : ℕ). n + 1) c.in_err-gather.ensures.done)

pub returns-in_err-gather-clause-started : goal.returns-in_err-gather-clause-started
returns-in_err-gather-clause-started g c = fails c.from_residual.result _ (λ limit start read left run.
    started_here limit c.args.design.now c.args.schedule.now start read c.args.self.now (g.O.Sink.writing c.args.out.now) run c.args.bytes.now left)

pub returns-clause-ran : goal.returns-clause-ran
returns-clause-ran g c =
    let gathered = c.in_ok-gather.ensures in
    on_ok_weaker c.run_line.result
    (λ this limit start read run.
    let puts = this.ran (state limit c.args.design.now c.args.schedule.now start read c.args.self.now (g.O.Sink.writing c.args.out.now) run)
    (shown_of limit c.args.design.now c.args.schedule.now start read c.args.self.now (g.O.Sink.writing c.args.out.now) run _ refl) in
    ran_ended limit c.args.design.now c.args.schedule.now start read c.args.self.now (g.O.Sink.writing c.args.out.now) run _ c.run_line.new.self puts.after
    gathered.at gathered.done gathered.limit puts.ran c.args.bytes.now c.requires.ended gathered.gathered (g.O.Sink.writing c.run_line.new.out) this puts.put)
    c.run_line.ensures.ran

pub returns-clause-bad : goal.returns-clause-bad
returns-clause-bad g c = λ h limit start read left run.
    let gathered = c.in_ok-gather.ensures in
    let same = at_fault c.run_line.result halt.BadLine _ h c.run_line.ensures.lines in
    bad_ended limit c.args.design.now c.args.schedule.now start read c.args.self.now (g.O.Sink.writing c.args.out.now) run c.args.bytes.now left c.gather.new.self.held.items (g.O.Sink.writing c.run_line.new.out)
    (c.run_line.new.self.lines.done + 1) c.requires.ended gathered.gathered (c.run_line.ensures.bad h)
    (at_fault c.run_line.result halt.BadLine _ h c.run_line.ensures.quiet (λ e. let no_value : ⊥ = cc in no_value))
    (ap (λ (l : Lines). l.done + 1) same ∙ ap (λ (n : ℕ). n + 1) gathered.done)

pub returns-clause-started : goal.returns-clause-started
returns-clause-started g c = fails c.run_line.result _ (λ limit start read left run.
    let gathered = c.in_ok-gather.ensures in
    stepped_ended limit c.args.design.now c.args.schedule.now start read c.args.self.now (g.O.Sink.writing c.args.out.now) run _ c.run_line.new.self
    gathered.at gathered.done gathered.limit c.args.bytes.now left (g.O.Sink.writing c.run_line.new.out) c.requires.ended gathered.gathered
    (stepped c.args.design.now c.args.schedule.now _ c.run_line.new.self (state limit c.args.design.now c.args.schedule.now start read c.args.self.now (g.O.Sink.writing c.args.out.now) run)
    (g.O.Sink.writing c.args.out.now) (g.O.Sink.writing c.run_line.new.out) c.run_line.result
    (shown_of limit c.args.design.now c.args.schedule.now start read c.args.self.now (g.O.Sink.writing c.args.out.now) run _ refl)
    c.run_line.ensures.ran c.run_line.ensures.started c.run_line.ensures.quiet))
