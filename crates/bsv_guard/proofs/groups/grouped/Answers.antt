use Rattle.std.proofs.Common.{◌≡◌, ◌<◌, refl, subst, arith}
use Rattle.std.proofs.lemmas.Option.{slice_get_read, slice_get_within}
use Rattle.bsv_guard.specs.Groups.{added}
use Rattle.bsv_guard.proofs.Grouping.{one_more}
use Rattle.bsv_guard.proofs.groups.grouped.Goals as goal

pub loop-number-preserved : goal.loop-number-preserved
loop-number-preserved c =
    let cs = c.args.calls.now in
    let n = c.loop-number.number in
    let one = c.index-calls-number.result in
    let gs = c.loop-number.found.items in
    one_more cs n one c.max-count.result gs c.add.new.found.items c.loop-number.invariant.count
    (subst (λ m. m < c.max-count.result) c.place.ensures.same c.place.ensures.within)
    (slice_get_read cs _ n one refl c.loop-number-test.true c.index-calls-number.is)
    (subst (λ m. c.add.new.found.items ≡ added gs m n) c.place.ensures.same c.in_ok-add.ensures)
    c.loop-number.invariant.all

pub returns-clause-all : goal.returns-clause-all
returns-clause-all c = λ j one at. c.loop-number.invariant.all j one (omega (arith, slice_get_within c.args.calls.now j one at)) at
