use Rattle.std.proofs.Common.{◌≡◌, ◌∙◌, map, sym, ap, subst}
use Rattle.std.specs.Prelude.{slice_get}
use Rattle.std.proofs.lemmas.Result.{IfOk-weaker}
use Rattle.bsv_bits.specs.Words.{Bits}
use Rattle.bsv_design.specs.design.Bodies.{Target, at, answer}
use Rattle.bsv_design.specs.scheme.Schemes.{result_of}
use Rattle.bsv_guard.specs.Fitting.{IsFitCall}
use Rattle.bsv_serial.specs.AtHand as hand
use Rattle.bsv_serial.proofs.Lists.{read_at}
use Rattle.bsv_serial.proofs.Operands.{result_within, answered}
use Rattle.bsv_serial.proofs.body.Body.result.Goals as goal
use Rattle.bsv_guard.proofs.Extends.{answer_open}

pub result-requires-clause-look : goal.result-requires-clause-look
result-requires-clause-look c =
    let s = c.args.self in
    let cs = s.element.now.calls in
    let call = c.index-as_slice-number.result in
    let here = read_at c.as_slice.result.now cs c.args.number call c.as_slice.ensures (result_within _ _ cs _ c.args.number c.requires.operands) c.index-as_slice-number.is in
    c.requires.body.looks c.args.number call here

pub result-requires-clause-value : goal.result-requires-clause-value
result-requires-clause-value c =
    let s = c.args.self in
    let cs = s.element.now.calls in
    let call = c.index-as_slice-number.result in
    let here = read_at c.as_slice.result.now cs c.args.number call c.as_slice.ensures (result_within _ _ cs _ c.args.number c.requires.operands) c.index-as_slice-number.is in
    (answered _ _ cs _ c.args.number call c.requires.operands here).reads

pub result-requires-clause-args : goal.result-requires-clause-args
result-requires-clause-args c =
    let s = c.args.self in
    let cs = s.element.now.calls in
    let call = c.index-as_slice-number.result in
    let here = read_at c.as_slice.result.now cs c.args.number call c.as_slice.ensures (result_within _ _ cs _ c.args.number c.requires.operands) c.index-as_slice-number.is in
    let same = c.as_slice-3.ensures ∙ (c.in_ok-args.ensures ∙ ap (map (at c.args.words.now)) c.as_slice-2.ensures) in
    subst (IsFitCall (slice_get (hand.body_kinds s) call.part) call.method) (sym same) (answered _ _ cs _ c.args.number call c.requires.operands here).fits

pub returns : goal.returns
returns c =
    let s = c.args.self in
    let cs = s.element.now.calls in
    let call = c.index-as_slice-number.result in
    let words = c.args.words.now in
    let here = read_at c.as_slice.result.now cs c.args.number call c.as_slice.ensures (result_within _ _ cs _ c.args.number c.requires.operands) c.index-as_slice-number.is in
    let same = c.as_slice-3.ensures ∙ (c.in_ok-args.ensures ∙ ap (map (at words)) c.as_slice-2.ensures) in
    let t : Target = record { part = call.part; method = call.method } in
    let look = hand.look s.looks in
    let gives = λ (w : Bits) (e : w ≡ result_of (slice_get (hand.body_kinds s) call.part) call.method (look t) c.as_slice-3.result.now).
    e ∙ ap (result_of (slice_get (hand.body_kinds s) call.part) call.method (look t)) same
    ∙ sym (answer_open (hand.body_kinds s) look c.args.number t (map (at words) call.args) (c.requires.are_open c.args.number call here))
    ∙ ap (answer (hand.body_answers s) c.args.number words) (sym here) in
    IfOk-weaker c.result.result _ _ gives c.result.ensures
