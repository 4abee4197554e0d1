use Rattle.std.proofs.Common.{◌+◌, arith}
use Rattle.std.proofs.lemmas.Nat.{shl_whole}
use Rattle.std.proofs.Math.Pow.{pow_mono}
use Rattle.bsv_bits.proofs.Modulo.{joined_below}
use Rattle.bsv_bits.proofs.numbers.joined.Goals as goal

pub overflow_add-result : goal.overflow_add-result
overflow_add-result c =
    rw (shl_whole c.args.high c.args.width c.args.low_width 128 c.requires.first c.requires.width)
    (let p = pow_mono {i = c.args.width + c.args.low_width} {j = 128} c.requires.width in
    omega (arith, joined_below c.args.high c.args.width c.args.low c.args.low_width c.requires.first c.requires.second))

pub returns-clause-value : goal.returns-clause-value
returns-clause-value c =
    rw (shl_whole c.args.high c.args.width c.args.low_width 128 c.requires.first c.requires.width)

pub returns-clause-below : goal.returns-clause-below
returns-clause-below c =
    rw (shl_whole c.args.high c.args.width c.args.low_width 128 c.requires.first c.requires.width)
    (joined_below c.args.high c.args.width c.args.low c.args.low_width c.requires.first c.requires.second)
