use Rattle.std.proofs.Common.{◌≡◌, ℕ, subst, arith}
use Rattle.bsv_clock.specs.Subjects.{design_subject}
use Rattle.bsv_suite.specs.Suites.{IsSuite}
use Rattle.bsv_top.proofs.suite.tell_traces.Goals as goal

pub returns-clause-done : goal.returns-clause-done
returns-clause-done g c = λ contents told.
    let none : c.in_ok-bad.bad ≡ 0 = omega (arith, c.if-bad-gt0.false) in
    subst
    (λ (n : ℕ).
    IsSuite (design_subject c.args.compiled.now.design) c.args.compiled.now.schedule contents c.args.names.now (g.O.Sink.writing c.args.out.now) (g.O.Sink.writing c.run_suite.new.out) n) none
    (c.in_ok-bad.ensures.done contents told)
