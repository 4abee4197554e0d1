use Rattle.std.proofs.Common.{◌≡◌, ◌+◌, ◌/◌, ◌%◌, ◌^◌, ◌++◌, length, ap, sym, ◌∙◌, arith}
use Rattle.bsv_bits.specs.Constants.{hex_digits}
use Rattle.bsv_bits.proofs.Digits.{hex_digits-both, sixteen}
use Rattle.bsv_bits.proofs.hex.write_digits.Goals as goal

pub returns-then-out-le16 : goal.returns-then-out-le16
returns-then-out-le16 c =
    c.write_narrow_digits.ensures ∙ sixteen (length c.args.out.now) c.args.number (omega arith)

pub returns-else-out-le16 : goal.returns-else-out-le16
returns-else-out-le16 c =
    let front = length c.split_at_mut-front.result.0.now in
    let last : length c.split_at_mut-front.result.1.now ≡ 16 = omega arith in
    let both : length c.args.out.now ≡ front + 16 = omega arith in
    ap (λ digits. digits ++ c.write_narrow_digits-else-out-le16-2.new.out) c.write_narrow_digits-else-out-le16.ensures
    ∙ ap (λ digits. hex_digits front (c.args.number / 2 ^ 64) ++ digits) (c.write_narrow_digits-else-out-le16-2.ensures ∙ ap (λ count. hex_digits count (c.args.number % 2 ^ 64)) last ∙ sixteen 16 c.args.number (omega arith))
    ∙ sym (ap (λ count. hex_digits count c.args.number) both ∙ hex_digits-both front 16 c.args.number)
