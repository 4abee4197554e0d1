use Rattle.std.proofs.Common.{get_or}
use Rattle.std.proofs.lemmas.Option.{slice_get-get_or}
use Rattle.bsv_share.proofs.Marks.{marks_more}
use Rattle.bsv_share.proofs.order.mark_all.Goals as goal

pub loop-place-preserved : goal.loop-place-preserved
loop-place-preserved c =
    let places = c.args.places.now in
    let i = c.loop-place.place-index in
    marks_more places i (get_or places i 0) c.args.marks.now c.loop-place.marks c.mark.new.marks (slice_get-get_or places i 0 c.loop-place-test.true)
    c.loop-place.invariant c.mark.ensures
