use Rattle.std.proofs.Common.{refl}
use Rattle.std.proofs.lemmas.Option.{slice_get_read}
use Rattle.bsv_share.proofs.SomeWords.{register_more}
use Rattle.bsv_share.proofs.fold.register_words.Goals as goal

pub loop-register-preserved : goal.loop-register-preserved
loop-register-preserved c =
    let rs = c.args.registers.now in
    let i = c.loop-register.register-index in
    let r = c.register-item.result in
    register_more rs c.loop-register.words.items c.push.new.self.items i r (slice_get_read rs _ i r refl c.loop-register-test.true c.register-item.is)
    c.loop-register.invariant c.in_ok-push.ensures.items
