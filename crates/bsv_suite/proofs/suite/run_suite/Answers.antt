use Rattle.std.proofs.Common.{◌≡◌, ◌∙◌, ◌<◌, ℕ, List, [], ◌++◌, length, Err, refl, ap, ap₂, sym, subst, arith, append_assoc, length-append}
use Rattle.std.proofs.lemmas.List.{nil_from_length, take-append-drop}
use Rattle.std.proofs.lemmas.Bool.{eqb-true}
use Rattle.std.proofs.lemmas.Result.{err_from_is_err_and}
use Rattle.bsv_lemmas.proofs.Choices.{same_err}
use Rattle.bsv_io.specs.Faults.{MayFault}
use Rattle.bsv_io.specs.Writing.{Writing}
use Rattle.bsv_clock.specs.Subjects.{design_subject}
use Rattle.bsv_suite.specs.Suites.{IsSuiteCut}
use Rattle.bsv_suite.specs.declared.halt.SuiteHalt.TheVariants as suite_halt
use Rattle.bsv_suite.proofs.Suited.{along_all, along_cut, along_more, along_start, along_started, among_all, next_group, some_left, still_near, suite_begun}
use Rattle.bsv_suite.proofs.suite.run_suite.Goals as goal

pub loop-left-init : goal.loop-left-init
loop-left-init g c =
    record {
      along = λ contents told. along_start (design_subject c.args.design.now) c.args.schedule.now contents c.args.names.now (g.O.Sink.writing c.args.out.now);
      names = ([], refl);
      few = omega arith;
      within = λ far. refl;
      contents = refl;
      faults = refl;
      put = refl;
    }

pub returns-in_err-bad-clause-started : goal.returns-in_err-bad-clause-started
returns-in_err-bad-clause-started g c = λ contents told.
    let left = c.loop-left.left.now in
    let group = c.split_at.result.0.now in
    let rest = c.split_at.result.1.now in
    let split : left ≡ group ++ rest = sym (take-append-drop c.min.result left) ∙ ap₂ (λ (a b : List (List ℕ)). a ++ b) (sym c.split_at.ensures.front) (sym c.split_at.ensures.back) in
    along_started (design_subject c.args.design.now) c.args.schedule.now contents c.args.names.now left group rest
    (g.O.Sink.writing c.args.out.now) (g.O.Sink.writing c.loop-left.out) (g.O.Sink.writing c.put_group.new.out) c.loop-left.bad split
    (c.loop-left.invariant.along contents told) (c.in_err-bad.ensures.started contents (c.loop-left.invariant.contents ∙ told))

pub returns-in_err-bad-clause-unread : goal.returns-in_err-bad-clause-unread
returns-in_err-bad-clause-unread g c = λ blamed h.
    let p = err_from_is_err_and c.from_residual.result c.from_residual.ensures.1 in
    let e = c.in_err-bad.was ∙ ap Err (sym p.2 ∙ same_err p.0 (suite_halt.Unread blamed) (sym p.1 ∙ h)) in
    let this = c.put_group.ensures.unread blamed e in
    let left = c.loop-left.left.now in
    let group = c.split_at.result.0.now in
    let rest = c.split_at.result.1.now in
    let split : left ≡ group ++ rest = sym (take-append-drop c.min.result left) ∙ ap₂ (λ (a b : List (List ℕ)). a ++ b) (sym c.split_at.ensures.front) (sym c.split_at.ensures.back) in
    let names = c.loop-left.invariant.names in (
      among_all c.args.names.now names.0 left group rest blamed names.1 split this.0,
      subst (λ (n : ℕ). MayFault n (g.F.Files.reading c.put_group.new.files).faults) c.loop-left.invariant.faults this.1,
      this.2,
    )

pub returns-in_err-bad-clause-cut : goal.returns-in_err-bad-clause-cut
returns-in_err-bad-clause-cut g c = λ blamed h contents told.
    let p = err_from_is_err_and c.from_residual.result c.from_residual.ensures.1 in
    let e = c.in_err-bad.was ∙ ap Err (sym p.2 ∙ same_err p.0 (suite_halt.Unread blamed) (sym p.1 ∙ h)) in
    let left = c.loop-left.left.now in
    let some : 0 < length left = some_left (length left) c.is_empty.result c.is_empty.ensures c.loop-left-test.true in
    let s = design_subject c.args.design.now in
    subst (λ (w : Writing). IsSuiteCut s c.args.schedule.now contents c.args.names.now blamed (g.O.Sink.writing c.args.out.now) w) (sym (c.put_group.ensures.quiet blamed e))
    (along_cut s c.args.schedule.now contents c.args.names.now left c.split_at.result.0.now blamed (g.O.Sink.writing c.args.out.now) (g.O.Sink.writing c.loop-left.out) c.loop-left.bad some
    (next_group c.min.result left c.split_at.result.0.now c.min.ensures c.split_at.ensures.front) (c.put_group.ensures.unread blamed e).0 (c.loop-left.invariant.along contents told))

pub loop-left-preserved : goal.loop-left-preserved
loop-left-preserved g c =
    let before = c.loop-left.invariant in
    let this = c.in_ok-bad.ensures in
    let left = c.loop-left.left.now in
    let group = c.split_at.result.0.now in
    let rest = c.split_at.result.1.now in
    let split : left ≡ group ++ rest = sym (take-append-drop c.min.result left) ∙ ap₂ (λ (a b : List (List ℕ)). a ++ b) (sym c.split_at.ensures.front) (sym c.split_at.ensures.back) in
    let reading = g.F.Files.reading in
    record {
      along = λ contents told.
          along_more (design_subject c.args.design.now) c.args.schedule.now contents c.args.names.now left group rest
          (g.O.Sink.writing c.args.out.now) (g.O.Sink.writing c.loop-left.out) (g.O.Sink.writing c.put_group.new.out) c.loop-left.bad c.in_ok-bad.field-0 split
          (λ some. omega (arith, c.min.ensures, c.split_at.ensures.front_len, c.split_at.ensures.back_len, some))
          (before.along contents told) (this.done contents (before.contents ∙ told));
      names = (before.names.0 ++ group, before.names.1 ∙ ap (λ (ns : List (List ℕ)). before.names.0 ++ ns) split ∙ sym (append_assoc before.names.0 group rest));
      few = omega (arith, before.few, this.few, ap length split, length-append group rest);
      within = still_near (reading c.args.files.now) (reading c.loop-left.files) (reading c.put_group.new.files) before.within this.within;
      contents = this.contents ∙ before.contents;
      faults = this.files_kept (λ blamed e. let no_value : ⊥ = cc in no_value) ∙ before.faults;
      put = this.out_kept (λ e. let no_value : ⊥ = cc in no_value) ∙ before.put;
    }

pub returns-clause-done : goal.returns-clause-done
returns-clause-done g c = λ contents told.
    let left = c.loop-left.left.now in
    let none : left ≡ [] = nil_from_length left (eqb-true (length left) 0 (sym c.is_empty.ensures ∙ c.loop-left-test.false)) in
    along_all (design_subject c.args.design.now) c.args.schedule.now contents c.args.names.now left (g.O.Sink.writing c.args.out.now) (g.O.Sink.writing c.loop-left.out) c.loop-left.bad none
    (c.loop-left.invariant.along contents told)

pub returns-clause-started : goal.returns-clause-started
returns-clause-started g c = λ contents told.
    let left = c.loop-left.left.now in
    let none : left ≡ [] = nil_from_length left (eqb-true (length left) 0 (sym c.is_empty.ensures ∙ c.loop-left-test.false)) in
    let s = design_subject c.args.design.now in
    suite_begun s c.args.schedule.now contents c.args.names.now (g.O.Sink.writing c.args.out.now) (g.O.Sink.writing c.loop-left.out) c.loop-left.bad
    (along_all s c.args.schedule.now contents c.args.names.now left (g.O.Sink.writing c.args.out.now) (g.O.Sink.writing c.loop-left.out) c.loop-left.bad none (c.loop-left.invariant.along contents told))
