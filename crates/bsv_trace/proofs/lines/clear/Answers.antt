use Rattle.std.proofs.Common.{◌∙◌, List, length, map, sym, ap}
use Rattle.bsv_design.specs.declared.element.Port.{Port}
use Rattle.bsv_design.specs.scheme.Schemes.{outline}
use Rattle.bsv_design.specs.scheme.Seen.{asking}
use Rattle.bsv_trace.proofs.Clearing.{next_words, asked_cleared, args_cleared}
use Rattle.bsv_trace.proofs.Places.{outline_at}
use Rattle.bsv_trace.proofs.lines.clear.Goals as goal

pub clear_words-requires-clause-places : goal.clear_words-requires-clause-places
clear_words-requires-clause-places c =
    let ms = c.args.methods.now in
    let e = c.index-methods-number.result in
    next_words (map outline ms) (asking c.args.requests.now) c.requires.places c.loop-number.requests.args.items c.loop-number.number (outline e) c.index_mut.result.now
    c.loop-number.invariant.args (outline_at ms c.loop-number.number c.loop-number-test.true e c.index-methods-number.is) c.index_mut.ensures.value
    ∙ sym (ap (λ (l : List Port). length l) c.as_slice.ensures)

pub loop-number-preserved : goal.loop-number-preserved
loop-number-preserved c =
    let ms = c.args.methods.now in
    let e = c.index-methods-number.result in
    let at = outline_at ms c.loop-number.number c.loop-number-test.true e c.index-methods-number.is in
    record {
      asked = asked_cleared (map outline ms) (asking c.args.requests.now) c.requires.places c.loop-number.requests.asked c.set.new.self c.loop-number.number (outline e) at c.loop-number.invariant.asked c.set.ensures;
      args = args_cleared (map outline ms) (asking c.args.requests.now) c.requires.places c.loop-number.requests.args.items c.loop-number.number (outline e) c.as_slice.result.now c.clear_words.new.words at c.loop-number.invariant.args c.as_slice.ensures c.clear_words.ensures;
    }
