use Rattle.std.proofs.Common.{◌∙◌, map, ap, subst, arith, length, ◌≤◌, Ok, ◌++◌, ◌∷◌, []}
use Rattle.std.proofs.lemmas.Option.{slice_get_within}
use Rattle.std.proofs.lemmas.Result.{err_from_is_err_and}
use Rattle.bsv_design.specs.design.Guards.{needs_of}
use Rattle.bsv_design.specs.scheme.Seen.{design_data}
use Rattle.bsv_guard.specs.Lifted.{IsElementLifted, IsElementRefused}
use Rattle.bsv_guard.specs.Pairs.{AreFree}
use Rattle.bsv_guard.proofs.Whole.{named_in, few_in, one_element_more, needs_more, needs_whole, refused, keeps, lifted}
use Rattle.bsv_guard.proofs.lifting.lift.Goals as goal
use Rattle.bsv_design.proofs.Elements.{element_in}

pub lift_element-requires-clause-named : goal.lift_element-requires-clause-named
lift_element-requires-clause-named c =
    let d = c.args.design.now in
    let e = c.element-item.result in
    let at = element_in d c.as_slice-element-items.result.now c.loop-number.number e c.as_slice-element-items.ensures c.loop-number-test.true c.element-item.is in
    named_in d c.loop-number.number e _ _ at
    (c.as_slice-in-loop-number.ensures.value ∙ (c.in_ok-kinds.ensures ∙ ap (map (λ p. p.kind)) c.as_slice.ensures)) c.as_slice-calls.ensures

pub lift_element-requires-clause-few : goal.lift_element-requires-clause-few
lift_element-requires-clause-few c =
    let d = c.args.design.now in
    let e = c.element-item.result in
    let at = element_in d c.as_slice-element-items.result.now c.loop-number.number e c.as_slice-element-items.ensures c.loop-number-test.true c.element-item.is in
    few_in d c.loop-number.number e _ at c.as_slice-calls.ensures

pub returns-in_err-lift_element-clause-refused : goal.returns-in_err-lift_element-clause-refused
returns-in_err-lift_element-clause-refused c =
    let d = c.args.design.now in
    let e = c.element-item.result in
    let n = c.loop-number.number in
    let ks = c.in_ok-kinds.kinds.items in
    let f = c.in_err-lift_element.field-0.0 in
    let at = element_in d c.as_slice-element-items.result.now n e c.as_slice-element-items.ensures c.loop-number-test.true c.element-item.is in
    let are = c.in_ok-kinds.ensures ∙ ap (map (λ p. p.kind)) c.as_slice.ensures in
    let h = subst (λ k. IsElementRefused k n c.as_slice-calls.result.now f) c.as_slice-in-loop-number.ensures.value c.in_err-lift_element.ensures in
    let p = err_from_is_err_and c.from_residual-in_err-lift_element.result c.from_residual-in_err-lift_element.ensures.1 in
    rw (p.1, p.2) (refused (design_data d) ks n e f are at c.loop-number.invariant.free (subst (λ cs. IsElementRefused ks n cs f) c.as_slice-calls.ensures h))

pub loop-number-preserved : goal.loop-number-preserved
loop-number-preserved c =
    let d = c.args.design.now in
    let e = c.element-item.result in
    let n = c.loop-number.number in
    let ks = c.in_ok-kinds.kinds.items in
    let at = element_in d c.as_slice-element-items.result.now n e c.as_slice-element-items.ensures c.loop-number-test.true c.element-item.is in
    let h = subst (λ k. IsElementLifted k n c.as_slice-calls.result.now (Ok c.in_ok-lift_element.field-0)) c.as_slice-in-loop-number.ensures.value c.in_ok-lift_element.ensures in
    let all = subst (λ cs. IsElementLifted ks n cs (Ok c.in_ok-lift_element.field-0)) c.as_slice-calls.ensures h in
    record {
      needs = needs_more ks d.elements n e c.loop-number.needs c.push.new.self c.loop-number.invariant.needs at
          (c.in_ok-push.ensures.ok ∙ ap (λ ns. c.loop-number.needs ++ ns ∷ []) all.1);
      free = one_element_more ks d.elements n e c.loop-number.invariant.free at all.0;
    }

pub returns-clause-kept : goal.returns-clause-kept
returns-clause-kept c =
    let d = c.args.design.now in
    let are = c.in_ok-kinds.ensures ∙ ap (map (λ p. p.kind)) c.as_slice.ensures in
    let long : length d.elements ≤ c.loop-number.number = subst (λ es. length es ≤ c.loop-number.number) c.as_slice-element-items.ensures c.loop-number-test.false in
    λ n. keeps (design_data d) n (λ e at. subst (λ k. AreFree k e.calls) are (c.loop-number.invariant.free n e (omega (arith, slice_get_within d.elements n e at, long)) at))

pub returns-clause-lifted : goal.returns-clause-lifted
returns-clause-lifted c =
    let d = c.args.design.now in
    let are = c.in_ok-kinds.ensures ∙ ap (map (λ p. p.kind)) c.as_slice.ensures in
    let long = subst (λ es. length es ≤ c.loop-number.number) c.as_slice-element-items.ensures c.loop-number-test.false in
    let whole = needs_whole c.in_ok-kinds.kinds.items d.elements c.loop-number.number c.loop-number.needs c.loop-number.invariant.needs long in
    lifted (design_data d) c.loop-number.needs (whole ∙ ap (λ ks. needs_of ks d.elements) are)
