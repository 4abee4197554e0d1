use Rattle.std.proofs.Common.{refl, rules}
use Rattle.std.proofs.lemmas.Option.{slice_get_read}
use Rattle.bsv_attr.specs.Calling.{condition_named}
use Rattle.bsv_attr.proofs.Truths.{none_more, none_all}
use Rattle.bsv_attr.proofs.implicit.first_named.Goals as goal

pub loop-place-preserved : goal.loop-place-preserved
loop-place-preserved c =
    let cs = c.args.conditions.now in
    let one = c.index-conditions-place.result in
    none_more condition_named cs c.loop-place.place one c.loop-place.invariant (slice_get_read cs _ _ one refl c.loop-place-test.true c.index-conditions-place.is) (search rules)

pub returns-clause-first : goal.returns-clause-first
returns-clause-first c = none_all condition_named c.args.conditions.now c.loop-place.place c.loop-place.invariant c.loop-place-test.false
