use Rattle.std.proofs.Common.{◌≡◌, ℕ, arith, List, ◌∷◌, []}
use Rattle.std.proofs.lemmas.List.{length-append}
use Rattle.bsv_schedule.specs.relating.Relations.{relating_of}
use Rattle.bsv_schedule.specs.stopping.Stops.{Stops, Picks}
use Rattle.bsv_schedule.specs.stopping.Placed.{HasPlaces}
use Rattle.bsv_schedule.proofs.PlaceLemmas.{lists_more}
use Rattle.bsv_schedule.proofs.stopping.stops.stops_of.Goals as goal

lent : (n m : ℕ) (order places there : List ℕ) → m ≡ n → there ≡ places → HasPlaces m order places → HasPlaces n order there
lent n m order places there e f h = rw (f, ← e) h

pub loop-a-preserved : goal.loop-a-preserved
loop-a-preserved c =
    let r = relating_of c.args.relations.now in
    let n = c.count-count.ensures.count in
    record {
      size = rw c.in_ok-push.ensures.ok (omega (arith, length-append c.loop-a.lists (c.in_ok-stopped_by.field-0 ∷ []), c.loop-a.invariant.size));
      each = rw c.in_ok-push.ensures.ok
          (lists_more (λ k xs. Picks (Stops r c.args.execution.now c.args.urgency.now k) c.args.urgency.now xs) c.loop-a.lists c.loop-a.a
          c.in_ok-stopped_by.field-0 c.loop-a.invariant.size c.loop-a.invariant.each
          (c.in_ok-stopped_by.ensures c.args.execution.now c.args.urgency.now (record {
            executed = lent r.count _ c.args.execution.now _ _ n c.deref.ensures.value c.in_ok-execution_places.ensures;
            urged = lent r.count _ c.args.urgency.now _ _ n c.deref-2.ensures.value c.in_ok-urgency_places.ensures;
          })));
    }
