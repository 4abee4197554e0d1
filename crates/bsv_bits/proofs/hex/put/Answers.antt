use Rattle.std.proofs.Common.{ap, length, arith}
use borrow.Rule.Slice.PartMut.{drop_put}
use Rattle.bsv_bits.proofs.hex.put.Goals as goal

pub returns-clause-rest : goal.returns-clause-rest
returns-clause-rest c =
    drop_put c.args.at _ c.args.out.now c.copy_from_slice.new.self (omega arith) (omega arith)
    (omega (arith, ap length c.copy_from_slice.ensures.after))
