-- The arguments stand one after the other.
use Rattle.std.proofs.Common.{◌≡◌, ℕ, suc, ◌+◌, ◌-◌, ◌<◌, ◌≤◌, ap, arith}
use Rattle.bsv_design.specs.declared.node.Node.TheVariants as node
use Rattle.bsv_body.specs.declared.state.State.{State}
use Rattle.bsv_body.specs.Flat.{stand}
use Rattle.bsv_body.specs.Opening.{arguments_from}

pub one_more : (place count : ℕ) (s : State) → place < count → arguments_from place (count - place) s ≡ arguments_from (place + 1) (count - (place + 1)) (stand (node.Argument place) s)
unfolding arguments_from
one_more place count s below = let it : count - place ≡ suc (count - (place + 1)) = omega arith in ap (λ n. arguments_from place n s) it

pub no_more : (place count : ℕ) (s : State) → count ≤ place → arguments_from place (count - place) s ≡ s
unfolding arguments_from
no_more place count s done = let it : count - place ≡ 0 = omega arith in ap (λ n. arguments_from place n s) it

pub ruleset openings = (one_more, no_more)
