use Rattle.std.proofs.Common.{◌-◌, length, arith}
use Rattle.bsv_schedule.proofs.UsersLemmas.{user_read}
use Rattle.bsv_schedule.proofs.relating.uses.is_noted.Goals as goal

pub returns-then-user-method : goal.returns-then-user-method
returns-then-user-method c = λ _.
    user_read c.args.users.now (length c.args.users.now - 1 - c.loop-turn.turn) c.args.element c.args.method _ (omega arith) c.if-user-element.false c.if-user-method.true
