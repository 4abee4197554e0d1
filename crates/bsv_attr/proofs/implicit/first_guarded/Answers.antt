use Rattle.std.proofs.Common.{refl, rules}
use Rattle.std.proofs.lemmas.Option.{slice_get_read}
use Rattle.bsv_attr.specs.Calling.{call_guarded}
use Rattle.bsv_attr.proofs.Truths.{none_more, none_all}
use Rattle.bsv_attr.proofs.implicit.first_guarded.Goals as goal

pub loop-place-preserved : goal.loop-place-preserved
loop-place-preserved c =
    let cs = c.args.calls.now in
    let one = c.index-calls-place.result in
    none_more (call_guarded c.args.parts.now) cs c.loop-place.place one c.loop-place.invariant (slice_get_read cs _ _ one refl c.loop-place-test.true c.index-calls-place.is) (search rules)

pub returns-clause-first : goal.returns-clause-first
returns-clause-first c = none_all (call_guarded c.args.parts.now) c.args.calls.now c.loop-place.place c.loop-place.invariant c.loop-place-test.false
