use Rattle.std.proofs.Common.{◌∙◌, sym, ap}
use Rattle.bsv_bits.specs.Words.{zero_word}
use Rattle.bsv_design.specs.declared.element.Port.{Port}
use Rattle.bsv_design.specs.design.Words.{or_zero}
use Rattle.bsv_serial.proofs.Lists.{read_at}
use Rattle.bsv_serial.proofs.Operands.{given_there, zero_there}
use Rattle.bsv_serial.proofs.body.Body.argument.Goals as goal

pub returns-in-Some : goal.returns-in-Some
returns-in-Some c =
    let s = c.args.self in
    sym (ap or_zero (given_there s.element.now.arguments s.given.now c.args.number c.in-Some.word.now c.requires.within (sym c.in-Some.ensures)))

pub returns-in-None : goal.returns-in-None
returns-in-None c =
    let s = c.args.self in
    let port = c.index-as_slice-number.result in
    let here = read_at c.as_slice.result.now s.element.now.arguments c.args.number port c.as_slice.ensures c.requires.within c.index-as_slice-number.is in
    c.zero.ensures
    ∙ ap (λ (p : Port). zero_word p.width) (sym c.index-as_slice-number.is)
    ∙ sym (ap or_zero (zero_there s.element.now.arguments s.given.now c.args.number port here (sym c.in-None.ensures)))
