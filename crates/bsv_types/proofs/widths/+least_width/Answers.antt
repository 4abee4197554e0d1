use Rattle.std.proofs.Common.{◌≤◌, ◌/◌, arith}
use Rattle.bsv_types.proofs.Least.{least_more, few_bits}
use Rattle.bsv_types.proofs.widths.+least_width.Goals as goal

pub overflow_add-result : goal.overflow_add-result
overflow_add-result t c =
    let few : c.least_width.result ≤ 64 = few_bits c.least_width.result (c.args.number / 2) (omega (arith, c.ranges.number.fits)) c.least_width.ensures in
    omega arith

pub returns-else-number-eq1 : goal.returns-else-number-eq1
returns-else-number-eq1 t c = least_more c.least_width.result c.args.number (omega (arith, c.requires, c.if-number-eq1.false)) c.least_width.ensures
