use Rattle.std.proofs.Common.{rules, refl}
use Rattle.bsv_types.proofs.FirstPlaces.{turned}
use Rattle.bsv_types.proofs.methods.first_places.Goals as goal

pub loop-last-preserved : goal.loop-last-preserved
loop-last-preserved c = λ name.
    turned (λ key. key.items) name _ _ _ _ _ _ _ c.in-Some.last.now c.in_ok-insert.ensures.entries
    (search rules) refl (search rules) (c.loop-last.invariant name)
