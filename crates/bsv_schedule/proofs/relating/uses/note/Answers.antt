use Rattle.std.proofs.Common.{refl, arith}
use Rattle.bsv_schedule.proofs.UsersLemmas.{agree_more, added_others}
use Rattle.bsv_schedule.proofs.UsesLemmas.{noted_new}
use Rattle.bsv_schedule.proofs.relating.uses.note.Goals as goal

pub returns-clause-noted : goal.returns-clause-noted
returns-clause-noted c = noted_new _ _ c.args.part c.args.method c.in_ok-push.ensures.ok

pub returns-clause-agree : goal.returns-clause-agree
returns-clause-agree c =
    agree_more c.args.users.now.items c.add.new.users.items c.args.element c.args.part c.args.method c.args.uses.now c.push.new.self
    (omega (arith, c.requires.part, c.args.users.now.ok.0)) c.in_ok-add.ensures c.requires.agree (noted_new _ _ c.args.part c.args.method c.in_ok-push.ensures.ok)

pub returns-clause-others : goal.returns-clause-others
returns-clause-others c =
    added_others c.args.users.now.items c.add.new.users.items c.args.part (record { element = c.args.element; method = c.args.method })
    (omega (arith, c.requires.part, c.args.users.now.ok.0)) c.in_ok-add.ensures c.args.element refl
