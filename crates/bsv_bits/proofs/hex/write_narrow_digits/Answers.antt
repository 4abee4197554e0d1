use Rattle.std.proofs.Common.{◌∙◌, ap, arith, ◌/◌}
use Rattle.bsv_bits.proofs.Digits.{turn_written, div-pow_suc_last}
use Rattle.bsv_bits.proofs.hex.write_narrow_digits.Goals as goal

pub loop-turn-preserved : goal.loop-turn-preserved
loop-turn-preserved c =
    let before = c.loop-turn.invariant in
    record {
      written = turn_written c.loop-turn.out c.loop-turn.turn c.loop-turn.left c.args.number (omega arith) before.written before.left c.glyph.result c.glyph.ensures;
      left = ap (λ k. k / 16) before.left ∙ div-pow_suc_last c.args.number c.loop-turn.turn;
    }
