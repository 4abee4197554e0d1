use Rattle.std.proofs.Common.{arith, refl, get_or}
use Rattle.std.proofs.lemmas.Grind.{common_steps}
use Rattle.bsv_graph.proofs.LeastLemmas.{in_read}
use Rattle.bsv_schedule.proofs.PlaceLemmas.{places_more}
use Rattle.bsv_schedule.proofs.stopping.places.places_of.Goals as goal

pub index_mut-requires : goal.index_mut-requires
index_mut-requires c =
    let h = c.requires.below _ (in_read c.args.order.now c.loop-place.place 0 c.loop-place-test.true) in
    omega (arith, h, c.loop-place.invariant.size, c.loop-place.places.ok.0)

pub loop-place-preserved : goal.loop-place-preserved
loop-place-preserved c =
    let h = c.requires.below _ (in_read c.args.order.now c.loop-place.place 0 c.loop-place-test.true) in
    record {
      size = grind (arith, common_steps, c.loop-place.invariant.size);
      placed = places_more c.args.order.now c.loop-place.places.items c.loop-place.place (get_or c.args.order.now c.loop-place.place 0) c.requires.once
          (omega (arith, h, c.loop-place.invariant.size)) c.loop-place-test.true refl c.loop-place.invariant.placed;
    }
