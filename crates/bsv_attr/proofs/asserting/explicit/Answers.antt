use Rattle.std.proofs.Common.{◌≤◌, ◌<◌, ◌^◌, sym, subst, arith, length, IsTrue, below_more}
use Rattle.std.specs.List.{list_all}
use Rattle.bsv_design.proofs.Named.{calls_named}
use Rattle.bsv_attr.specs.Calling.{names_method}
use Rattle.bsv_attr.proofs.Rules.{names_implicit, explicit_here, explicit_unmarked, all_explicit}
use Rattle.bsv_attr.proofs.asserting.explicit.Goals as goal
use Rattle.bsv_attr.proofs.asserting.explicit.Goals.{then-is_marked+in_default, else-is_marked}
use Rattle.bsv_design.proofs.Elements.{element_in}
use Rattle.bsv_schedule.proofs.DesignLemmas.{few_elements}

pub first_implicit-requires-clause-named : goal.first_implicit-requires-clause-named
first_implicit-requires-clause-named c =
    let d = c.args.design.now in
    let e = c.element-item.result in
    let at = element_in d c.as_slice-element-items.result.now c.loop-rule.rule e c.as_slice-element-items.ensures c.loop-rule-test.true c.element-item.is in
    subst (λ ps. IsTrue (list_all (names_method ps) e.calls)) (sym c.as_slice.ensures) (calls_named d c.loop-rule.rule e at)

pub overflow_cast-result : goal.overflow_cast-result
overflow_cast-result c =
    let d = c.args.design.now in
    let few : length d.elements < 2 ^ 32 = few_elements d in
    let within : c.loop-rule.rule < length d.elements = subst (λ es. c.loop-rule.rule < length es) c.as_slice-element-items.ensures c.loop-rule-test.true in
    omega arith

pub returns-in-Some : goal.returns-in-Some
returns-in-Some c =
    let d = c.args.design.now in
    let e = c.element-item.result in
    let at = element_in d c.as_slice-element-items.result.now c.loop-rule.rule e c.as_slice-element-items.ensures c.loop-rule-test.true c.element-item.is in
    names_implicit d c.loop-rule.rule c.in-Some.place e c.as_slice-marks.result.now c.as_slice.result.now c.as_slice-marks.ensures c.as_slice.ensures at
    (c.is_marked.ensures.0 c.if-is_marked.true) c.in-Some.ensures.first c.loop-rule.invariant

pub loop-rule-preserved : goal.loop-rule-preserved
loop-rule-preserved c =
    let d = c.args.design.now in
    let e = c.element-item.result in
    let at = element_in d c.as_slice-element-items.result.now c.loop-rule.rule e c.as_slice-element-items.ensures c.loop-rule-test.true c.element-item.is in
    elim c.if-is_marked.branch [
      | then-is_marked+in_default w ↦ below_more _ _ c.loop-rule.invariant (explicit_here d c.loop-rule.rule e w.as_slice.result.now w.as_slice.ensures at w.in_default.ensures.first)
      | else-is_marked w ↦ below_more _ _ c.loop-rule.invariant (explicit_unmarked d c.loop-rule.rule c.as_slice-marks.result.now c.as_slice-marks.ensures
          (λ m. let found = c.is_marked.ensures.1 m in let lost = w.if-is_marked.false in cc))
    ]

pub returns : goal.returns
returns c =
    let d = c.args.design.now in
    let long = subst (λ es. length es ≤ c.loop-rule.rule) c.as_slice-element-items.ensures c.loop-rule-test.false in
    all_explicit d c.loop-rule.rule long c.loop-rule.invariant
