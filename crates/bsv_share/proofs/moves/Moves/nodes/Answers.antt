use Rattle.std.proofs.Common.{◌≡◌, ◌∙◌, ℕ, List, length, get_or, subst, arith}
use Rattle.std.proofs.lemmas.Option.{slice_get-get_or}
use Rattle.bsv_share.specs.Moving.{Comes}
use Rattle.bsv_share.proofs.MovedInTurn.{all_moved, moved_more}
use Rattle.bsv_share.proofs.moves.Moves.nodes.Goals as goal

pub loop-old-preserved : goal.loop-old-preserved
loop-old-preserved c =
    let from : List ℕ = c.args.self.from.now in
    let to : List ℕ = c.args.self.to.now in
    let xs = c.args.nodes.now in
    let i = c.loop-old.old-index in
    let old = get_or from i 0 in
    let count : c.len.result ≡ i = c.len.ensures ∙ c.loop-old.invariant.long in
    moved_more from to xs c.loop-old.found c.push.new.self i old c.in_ok-node.node c.loop-old.invariant (slice_get-get_or from i 0 c.loop-old-test.true)
    (subst (λ (n : ℕ). Comes from to xs old n c.in_ok-node.node) count c.in_ok-node.ensures) c.in_ok-push.ensures.ok

pub returns : goal.returns
returns c =
    let from : List ℕ = c.args.self.from.now in
    let count : c.loop-old.old-index ≡ length from = omega arith in
    all_moved from c.args.self.to.now c.args.nodes.now c.loop-old.found c.loop-old.old-index count c.loop-old.invariant
