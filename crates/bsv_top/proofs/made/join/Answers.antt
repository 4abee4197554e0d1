use Rattle.std.proofs.Common.{◌≡◌, ℕ, ◌+◌, ◌<◌, List, ◌++◌, length, take, get_or, sym, ap, ◌∙◌}
use Rattle.std.specs.Borrow.{Bor}
use Rattle.bsv_io.specs.Writing.{joined}
use Rattle.bsv_io.proofs.Pieces.{flat_map-take_more}
use Rattle.bsv_top.proofs.made.join.Goals as goal

-- one piece more
join_more : (pieces : List (Bor (List ℕ))) (i : ℕ) (d : Bor (List ℕ)) (old new : List ℕ) → i < length pieces → old ≡ joined (take i pieces) → new ≡ old ++ (get_or pieces i d).now
    → new ≡ joined (take (i + 1) pieces)
join_more pieces i d old new below before this =
    this ∙ ap (λ (text : List ℕ). text ++ (get_or pieces i d).now) before ∙ sym (flat_map-take_more (λ (piece : Bor (List ℕ)). piece.now) pieces i d below)

pub loop-piece-preserved : goal.loop-piece-preserved
loop-piece-preserved c =
    join_more c.args.pieces.now c.loop-piece.piece-index _ _ _ c.loop-piece-test.true c.loop-piece.invariant c.in_ok-extend_from_slice.ensures.items
