use Rattle.std.proofs.Common.{refl, subst, arith}
use Rattle.std.proofs.lemmas.Option.{slice_get_read, slice_get_within}
use Rattle.bsv_guard.specs.Pairs.{IsFound}
use Rattle.bsv_guard.proofs.Searching.{all_free, found, none_more}
use Rattle.bsv_guard.proofs.search.first_breach.Goals as goal

pub returns-in-Some : goal.returns-in-Some
returns-in-Some c =
    let ks = c.args.kinds.now in
    let cs = c.args.calls.now in
    let one = c.index-calls-earlier.result in
    let b = c.in-Some.breach in
    let h = c.in-Some.ensures in
    subst (λ p. IsFound ks cs p b.first b.second) h.0
    (subst (λ m. IsFound ks cs one.part m b.second) h.1
    (found ks cs c.loop-earlier.earlier one b.second c.loop-earlier.invariant (slice_get_read cs _ _ one refl c.loop-earlier-test.true c.index-calls-earlier.is) h.2))

pub loop-earlier-preserved : goal.loop-earlier-preserved
loop-earlier-preserved c =
    let cs = c.args.calls.now in
    let one = c.index-calls-earlier.result in
    none_more c.args.kinds.now cs c.loop-earlier.earlier one c.loop-earlier.invariant
    (slice_get_read cs _ _ one refl c.loop-earlier-test.true c.index-calls-earlier.is) c.in_default.ensures

pub returns : goal.returns
returns c =
    let cs = c.args.calls.now in
    all_free c.args.kinds.now cs (λ i one at. c.loop-earlier.invariant i one (omega (arith, slice_get_within cs i one at)) at)
