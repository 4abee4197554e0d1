use Rattle.std.proofs.Common.{◌≡◌, ◌+◌, ℕ, List, [], ◌++◌, Err, refl, sym, ap, ◌∙◌, subst, append-nil, append_assoc, arith, length, length-append}
use Rattle.std.proofs.lemmas.Result.{err_from_is_err_and}
use Rattle.bsv_run.specs.declared.halt.Halt.TheVariants as halt
use Rattle.bsv_run.specs.Running.{HasRun, IsStartedOf, IsFaultyOf}
use Rattle.bsv_run.proofs.Stepping.{started_here, cut, cut_rest, fails, gathered_more, over_started}
use Rattle.bsv_run.proofs.run.Run.run_piece.Goals as goal

pub returns-in_err-run_ended-clause-bad : goal.returns-in_err-run_ended-clause-bad
returns-in_err-run_ended-clause-bad g c = λ h limit start read left run.
    let p = err_from_is_err_and c.from_residual.result c.from_residual.ensures.1 in
    let e : c.run_ended.result ≡ Err halt.BadLine = c.in_err-run_ended.was ∙ ap Err (sym p.2) ∙ sym p.1 ∙ h in
    let gone = c.loop-ended.invariant.gone in
    let first = c.in-Some.ensures.line in
    subst (λ (t : List ℕ). IsFaultyOf limit c.args.design.now c.args.schedule.now start t (g.O.Sink.writing c.run_ended.new.out) (c.run_ended.new.self.lines.done + 1))
    (cut read gone.0 c.in-Some.ended.now c.in-Some.behind.now c.args.piece.now c.loop-ended.left.now left gone.1 first.whole)
    (c.run_ended.ensures.bad e limit start (read ++ gone.0) (c.in-Some.behind.now ++ left) (gone.2 limit start read run))

pub returns-in_err-run_ended-clause-started : goal.returns-in_err-run_ended-clause-started
returns-in_err-run_ended-clause-started g c = fails c.from_residual.result _ (λ limit start read left run.
    let gone = c.loop-ended.invariant.gone in
    let first = c.in-Some.ensures.line in
    subst (λ (t : List ℕ). IsStartedOf limit c.args.design.now c.args.schedule.now start t (g.O.Sink.writing c.run_ended.new.out))
    (cut read gone.0 c.in-Some.ended.now c.in-Some.behind.now c.args.piece.now c.loop-ended.left.now left gone.1 first.whole)
    (c.in_err-run_ended.ensures.started limit start (read ++ gone.0) (c.in-Some.behind.now ++ left) (gone.2 limit start read run)))

pub loop-ended-init : goal.loop-ended-init
loop-ended-init g c = record {
  gone = (
    [],
    refl,
    λ limit start read run.
        subst (λ (t : List ℕ). HasRun limit c.args.design.now c.args.schedule.now start t c.args.self.now (g.O.Sink.writing c.args.out.now)) (sym (append-nil read)) run,
  );
  long = refl;
  fits = c.requires.fits;
  faults = refl;
  limit = refl;
}

pub loop-ended-preserved : goal.loop-ended-preserved
loop-ended-preserved g c =
    let gone = c.loop-ended.invariant.gone in
    let first = c.in-Some.ensures.line in
    let this = c.in_ok-run_ended.ensures in
    record {
      gone = (
        gone.0 ++ c.in-Some.ended.now,
        gone.1 ∙ ap (λ (t : List ℕ). gone.0 ++ t) first.whole ∙ sym (append_assoc gone.0 c.in-Some.ended.now c.in-Some.behind.now),
        λ limit start read run.
            subst (λ (t : List ℕ). HasRun limit c.args.design.now c.args.schedule.now start t c.run_ended.new.self (g.O.Sink.writing c.run_ended.new.out))
            (append_assoc read gone.0 c.in-Some.ended.now) (this.ran limit start (read ++ gone.0) (gone.2 limit start read run)),
      );
      long = omega (arith, c.loop-ended.invariant.long, this.long, ap (λ (t : List ℕ). length t) first.whole, length-append c.in-Some.ended.now c.in-Some.behind.now);
      fits = this.fits;
      faults = this.kept (λ e. let no_value : ⊥ = cc in no_value) ∙ c.loop-ended.invariant.faults;
      limit = this.limit ∙ c.loop-ended.invariant.limit;
    }

pub returns-in_err-gather-clause-bad : goal.returns-in_err-gather-clause-bad
returns-in_err-gather-clause-bad g c = λ h limit start read left run.
    let gone = c.loop-ended.invariant.gone in
    let over = c.in_err-gather.ensures in
    subst (λ (t : List ℕ). IsFaultyOf limit c.args.design.now c.args.schedule.now start (t ++ left) (g.O.Sink.writing c.loop-ended.out) (c.gather.new.self.done + 1))
    (cut_rest read gone.0 c.args.piece.now c.loop-ended.left.now gone.1)
    (over_started limit c.args.design.now c.args.schedule.now start (read ++ gone.0) c.loop-ended.self (g.O.Sink.writing c.loop-ended.out) (gone.2 limit start read run) c.loop-ended.left.now left
    (c.gather.new.self.done + 1) c.in_default.ensures.none over.over (ap (λ (n : ℕ). n + 1) over.done))

pub returns-in_err-gather-clause-started : goal.returns-in_err-gather-clause-started
returns-in_err-gather-clause-started g c = fails c.from_residual-in_err-gather.result _ (λ limit start read left run.
    let gone = c.loop-ended.invariant.gone in
    subst (λ (t : List ℕ). IsStartedOf limit c.args.design.now c.args.schedule.now start (t ++ left) (g.O.Sink.writing c.loop-ended.out))
    (cut_rest read gone.0 c.args.piece.now c.loop-ended.left.now gone.1)
    (started_here limit c.args.design.now c.args.schedule.now start (read ++ gone.0) c.loop-ended.self (g.O.Sink.writing c.loop-ended.out) (gone.2 limit start read run) c.loop-ended.left.now left))

pub returns-clause-ran : goal.returns-clause-ran
returns-clause-ran g c = λ limit start read run.
    let gone = c.loop-ended.invariant.gone in
    let gathered = c.in_ok-gather.ensures in
    subst (λ (t : List ℕ). HasRun limit c.args.design.now c.args.schedule.now start t (record c.loop-ended.self { lines = c.gather.new.self }) (g.O.Sink.writing c.loop-ended.out))
    (cut_rest read gone.0 c.args.piece.now c.loop-ended.left.now gone.1)
    (gathered_more limit c.args.design.now c.args.schedule.now start (read ++ gone.0) c.loop-ended.self (g.O.Sink.writing c.loop-ended.out) (gone.2 limit start read run) c.loop-ended.left.now c.gather.new.self
    c.in_default.ensures.none gathered.gathered gathered.done gathered.at gathered.limit)
