use Rattle.std.proofs.Common.{◌+◌, map, take}
use Rattle.std.proofs.lemmas.List.{take_more}
use Rattle.std.specs.Prelude.{slice_index_or}
use Rattle.bsv_schedule.specs.relating.Rows.{mark}
use Rattle.bsv_schedule.proofs.MarkLemmas.{user_step}
use Rattle.bsv_schedule.proofs.relating.rows.mark_users.Goals as goal

pub loop-user-preserved : goal.loop-user-preserved
loop-user-preserved c =
    let ks = map (λ p. p.kind) c.args.parts.now in
    let users = c.args.users.now in
    let i = c.loop-user.user-index in
    let user = slice_index_or users i (record { element = 0; method = 0 }) in
    let named = (c.requires.users i (record { element = 0; method = 0 }) c.loop-user-test.true).1 in
    user_step c.args.relation ks c.args.marks.now c.loop-user.marks c.mark_if.new.marks c.args.own (take i users) (take (i + 1) users) user
    (mark c.args.noted.now user.method) (take_more users i (record { element = 0; method = 0 }) c.loop-user-test.true)
    (c.requires.noted user.method named).1 c.loop-user.invariant c.mark_if.ensures
