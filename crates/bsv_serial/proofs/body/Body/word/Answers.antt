use Rattle.std.proofs.Common.{◌∙◌, ◌+◌, ◌<◌, ◌≤◌, sym, ap, ap₂, subst}
use Rattle.bsv_bits.specs.Operators.{operate}
use Rattle.bsv_bits.specs.Signed.{word_sign_extend}
use Rattle.bsv_bits.specs.Words.{Bits, word_slice, word_concat, word_extend}
use Rattle.bsv_design.specs.design.Bodies.{at, node_word}
use Rattle.bsv_serial.specs.AtHand as hand
use Rattle.bsv_serial.proofs.Operands.{two_same, two_is, slice_within, slice_is, join_within, join_is, extend_wider, extend_is, sign_wider, sign_is}
use Rattle.bsv_serial.proofs.body.Body.word.Goals as goal

pub evaluate-requires : goal.evaluate-requires
evaluate-requires c =
    λ none. ap (λ (w : Bits). w.width) c.word_at-in-Two.ensures
    ∙ two_same _ _ _ _ _ c.requires.operands c.in-Two.operator c.in-Two.a c.in-Two.b c.in-Two.is none
    ∙ sym (ap (λ (w : Bits). w.width) c.word_at-in-Two-2.ensures)

pub slice-requires-clause-within : goal.slice-requires-clause-within
slice-requires-clause-within c =
    subst (λ (w : Bits). c.in-Slice.high < w.width) (sym c.word_at-in-Slice.ensures)
    (slice_within _ _ _ _ _ c.requires.operands c.in-Slice.a c.in-Slice.high c.in-Slice.low c.in-Slice.is)

pub concat-requires : goal.concat-requires
concat-requires c =
    subst (λ (w : Bits). w.width + c.word_at-in-Join-2.result.width ≤ 128) (sym c.word_at-in-Join.ensures)
    (subst (λ (w : Bits). (at c.args.words.now c.in-Join.a).width + w.width ≤ 128) (sym c.word_at-in-Join-2.ensures)
    (join_within _ _ _ _ _ c.requires.operands c.in-Join.a c.in-Join.b c.in-Join.is))

pub extend-requires-clause-wider : goal.extend-requires-clause-wider
extend-requires-clause-wider c =
    subst (λ (w : Bits). w.width ≤ c.in-Extend.width) (sym c.word_at-in-Extend.ensures)
    (extend_wider _ _ _ _ _ c.requires.operands c.in-Extend.a c.in-Extend.width c.in-Extend.is)

pub sign_extend-requires-clause-wider : goal.sign_extend-requires-clause-wider
sign_extend-requires-clause-wider c =
    subst (λ (w : Bits). w.width ≤ c.in-SignExtend.width) (sym c.word_at-in-SignExtend.ensures)
    (sign_wider _ _ _ _ _ c.requires.operands c.in-SignExtend.a c.in-SignExtend.width c.in-SignExtend.is)

pub returns-in-Two : goal.returns-in-Two
returns-in-Two c =
    let s = c.args.self in
    c.evaluate.ensures
    ∙ ap₂ (operate c.in-Two.operator) c.word_at-in-Two.ensures c.word_at-in-Two-2.ensures
    ∙ sym (two_is _ _ _ _ _ c.requires.operands c.in-Two.operator c.in-Two.a c.in-Two.b c.in-Two.is)
    ∙ ap (node_word (hand.body_answers s) (hand.arguments s) s.element.now.calls c.args.words.now) (sym c.in-Two.is)

pub returns-in-Slice : goal.returns-in-Slice
returns-in-Slice c =
    let s = c.args.self in
    c.slice.ensures
    ∙ ap (λ (w : Bits). word_slice w c.in-Slice.high c.in-Slice.low) c.word_at-in-Slice.ensures
    ∙ sym (slice_is _ _ _ _ _ c.requires.operands c.in-Slice.a c.in-Slice.high c.in-Slice.low c.in-Slice.is)
    ∙ ap (node_word (hand.body_answers s) (hand.arguments s) s.element.now.calls c.args.words.now) (sym c.in-Slice.is)

pub returns-in-Join : goal.returns-in-Join
returns-in-Join c =
    let s = c.args.self in
    c.concat.ensures
    ∙ ap₂ word_concat c.word_at-in-Join.ensures c.word_at-in-Join-2.ensures
    ∙ sym (join_is _ _ _ _ _ c.requires.operands c.in-Join.a c.in-Join.b c.in-Join.is)
    ∙ ap (node_word (hand.body_answers s) (hand.arguments s) s.element.now.calls c.args.words.now) (sym c.in-Join.is)

pub returns-in-Extend : goal.returns-in-Extend
returns-in-Extend c =
    let s = c.args.self in
    c.extend.ensures
    ∙ ap (λ (w : Bits). word_extend w c.in-Extend.width) c.word_at-in-Extend.ensures
    ∙ sym (extend_is _ _ _ _ _ c.requires.operands c.in-Extend.a c.in-Extend.width c.in-Extend.is)
    ∙ ap (node_word (hand.body_answers s) (hand.arguments s) s.element.now.calls c.args.words.now) (sym c.in-Extend.is)

pub returns-in-SignExtend : goal.returns-in-SignExtend
returns-in-SignExtend c =
    let s = c.args.self in
    c.sign_extend.ensures
    ∙ ap (λ (w : Bits). word_sign_extend w c.in-SignExtend.width) c.word_at-in-SignExtend.ensures
    ∙ sym (sign_is _ _ _ _ _ c.requires.operands c.in-SignExtend.a c.in-SignExtend.width c.in-SignExtend.is)
    ∙ ap (node_word (hand.body_answers s) (hand.arguments s) s.element.now.calls c.args.words.now) (sym c.in-SignExtend.is)
