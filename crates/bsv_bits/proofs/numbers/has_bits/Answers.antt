use Rattle.std.proofs.Common.{◌<◌, ◌^◌, arith}
use Rattle.std.proofs.lemmas.Bool.Decides.{nat_tests}
use Rattle.bsv_bits.proofs.Modulo.{below_more_bits}
use Rattle.bsv_bits.proofs.numbers.has_bits.Goals as goal

pub returns-then-width-ge64 : goal.returns-then-width-ge64
returns-then-width-ge64 c =
    let narrow : c.args.number < 2 ^ 64 = omega arith in
    let below : c.args.number < 2 ^ c.args.width = below_more_bits c.args.number 64 c.args.width narrow (omega arith) in
    grind (arith, nat_tests)
