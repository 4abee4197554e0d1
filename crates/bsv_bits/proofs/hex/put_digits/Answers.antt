use Rattle.std.proofs.Common.{arith}
use borrow.Rule.Slice.PartMut.{drop_put}
use Rattle.bsv_bits.proofs.hex.put_digits.Goals as goal

pub returns-clause-rest : goal.returns-clause-rest
returns-clause-rest c =
    drop_put c.args.at _ c.args.out.now c.write_digits.new.out (omega arith) (omega arith) (omega arith)
