use Rattle.std.proofs.Common.{List, length, map, ap, sym, subst, arith}
use Rattle.std.proofs.lemmas.List.{length-map}
use Rattle.bsv_clock.specs.Subjects.{design_subject}
use Rattle.bsv_suite.specs.Suites.{AreTold}
use Rattle.bsv_suite.specs.Texts.{told_of}
use Rattle.bsv_suite.specs.declared.sections.Section.{Section}
use Rattle.bsv_suite.proofs.Suited.{as_many_sections, few_bad, group_begun, nothing_begun, sections_told}
use Rattle.bsv_suite.proofs.suite.put_group.Goals as goal

pub returns-in_err-traces-clause-started : goal.returns-in_err-traces-clause-started
returns-in_err-traces-clause-started g c = λ contents told.
    nothing_begun (design_subject c.args.design.now) c.args.schedule.now contents c.args.names.now (g.O.Sink.writing c.args.out.now)

pub returns-in_err-sections-clause-started : goal.returns-in_err-sections-clause-started
returns-in_err-sections-clause-started g c = λ contents told.
    nothing_begun (design_subject c.args.design.now) c.args.schedule.now contents c.args.names.now (g.O.Sink.writing c.args.out.now)

pub returns-in_err-put_sections-clause-started : goal.returns-in_err-put_sections-clause-started
returns-in_err-put_sections-clause-started g c = λ contents told.
    let s = design_subject c.args.design.now in
    let made = c.args.schedule.now in
    let told = subst (λ (xs : List Section). AreTold s made contents c.args.names.now (map told_of xs)) (sym c.as_slice.ensures.value)
    (sections_told s made contents c.args.names.now c.in_ok-traces.traces.items c.in_ok-sections.sections.items (c.in_ok-traces.ensures.traces contents told) c.in_ok-sections.ensures) in
    group_begun s made contents c.args.names.now (map told_of c.as_slice.result.now) (g.O.Sink.writing c.args.out.now) (g.O.Sink.writing c.put_sections.new.out) told c.in_err-put_sections.ensures.prefix

pub returns-clause-done : goal.returns-clause-done
returns-clause-done g c = λ contents told.
    let s = design_subject c.args.design.now in
    let made = c.args.schedule.now in
    record {
      tolds = map told_of c.as_slice.result.now;
      told = subst (λ (xs : List Section). AreTold s made contents c.args.names.now (map told_of xs)) (sym c.as_slice.ensures.value)
          (sections_told s made contents c.args.names.now c.in_ok-traces.traces.items c.in_ok-sections.sections.items (c.in_ok-traces.ensures.traces contents told) c.in_ok-sections.ensures);
      put = c.in_ok-put_sections.ensures.put;
      bad_is = c.in_ok-put_sections.ensures.bad;
    }

pub returns-clause-started : goal.returns-clause-started
returns-clause-started g c = λ contents told.
    let s = design_subject c.args.design.now in
    let made = c.args.schedule.now in
    let all = subst (λ (xs : List Section). AreTold s made contents c.args.names.now (map told_of xs)) (sym c.as_slice.ensures.value)
    (sections_told s made contents c.args.names.now c.in_ok-traces.traces.items c.in_ok-sections.sections.items (c.in_ok-traces.ensures.traces contents told) c.in_ok-sections.ensures) in
    group_begun s made contents c.args.names.now (map told_of c.as_slice.result.now) (g.O.Sink.writing c.args.out.now) (g.O.Sink.writing c.put_sections.new.out) all c.in_ok-put_sections.ensures.prefix

pub returns-clause-few : goal.returns-clause-few
returns-clause-few g c =
    let few = few_bad (map told_of c.as_slice.result.now) in
    let count = as_many_sections (design_subject c.args.design.now) c.args.schedule.now c.in_ok-traces.traces.items c.in_ok-sections.sections.items c.in_ok-sections.ensures in
    omega (arith, c.in_ok-put_sections.ensures.bad, few, length-map c.as_slice.result.now told_of, ap length c.as_slice.ensures.value, count, c.in_ok-traces.ensures.long)
