use Rattle.std.proofs.Common.{◌≡◌, [], map, length}
use Rattle.bsv_mux.specs.AtHand as hand
use Rattle.bsv_mux.specs.Nexts.{nexts}
use Rattle.bsv_mux.proofs.muxing.next_words.Given as goal

abbrev pub invariant-loop-part : goal.invariant-loop-part
invariant-loop-part l =
    nexts (hand.told l.muxing) l.starts l.call_sites l.number l.nodes l.nexts (map (λ p. p.kind) l.rest)
    ≡ nexts (hand.told l.muxing) l.starts l.call_sites 0 l.initial.nodes [] (map (λ p. p.kind) l.parts)

abbrev pub decreases-loop-part : goal.decreases-loop-part
decreases-loop-part l = length l.rest
