-- One turn of a loop, and its end.
use Rattle.std.proofs.Common.{◌≡◌, ℕ, ◌+◌, ◌-◌, ◌<◌, ◌≤◌, Ok, Err}
use Rattle.std.specs.Prelude.{if◌then◌else◌}
use Rattle.bsv_lemmas.proofs.Turns.{one_more, no_more}
use Rattle.bsv_fail.specs.Given.{◌>>=◌}
use Rattle.bsv_types.specs.declared.statements.Head.{Head}
use Rattle.bsv_tree.specs.declared.values.Fault.TheVariants as fault
use Rattle.bsv_elab.specs.declared.refused.Refused.TheVariants as refused
use Rattle.bsv_elab.specs.declared.state.State.{State}
use Rattle.bsv_elab.specs.Statics.{Here, Builds, truth_in}
use Rattle.bsv_elab.specs.Making.{Bodies}
use Rattle.bsv_elab.specs.Bodies.{turn, turns}

module _ (bodies : Bodies) (here : Here) (n at : ℕ) (h : Head) (a : Builds) (s : State) where
  pub turns_more : at < n → turns bodies here (n - at) h a s ≡ (truth_in here h.condition s >>= λ t. if t.0 then (turn bodies here h a t.1 >>= turns bodies here (n - (at + 1)) h a) else Ok t.1)
  unfolding turns
  turns_more below = one_more (λ m. turns bodies here m h a s) n at below

  pub turns_end : n ≤ at → turns bodies here (n - at) h a s ≡ (truth_in here h.condition s >>= λ t. if t.0 then Err (refused.Carried (fault.Loop here.within)) else Ok t.1)
  unfolding turns
  turns_end done = no_more (λ m. turns bodies here m h a s) n at done

pub ruleset loops = (turns_more, turns_end)
