-- One turn of a loop, and its end.
use Rattle.std.proofs.Common.{◌≡◌, ℕ, ◌+◌, ◌-◌, ◌<◌, ◌≤◌, List, Ok, Err}
use Rattle.std.specs.Prelude.{if◌then◌else◌}
use Rattle.bsv_lemmas.proofs.Turns.{one_more, no_more}
use Rattle.bsv_fail.specs.Given.{◌>>=◌}
use Rattle.bsv_tree.specs.declared.values.Fault.TheVariants as fault
use Rattle.bsv_tree.specs.declared.values.Local.{Local}
use Rattle.bsv_tree.specs.declared.values.Work.{Work}
use Rattle.bsv_tree.specs.carrying.Calls.{Caller}
use Rattle.bsv_tree.specs.tree.Contexts.{Context}
use Rattle.bsv_tree.specs.carrying.Carrying.{Carry, Acts, goes_on, turn, turns}
use Rattle.bsv_tree.specs.carrying.Working.{at_count}

module _ (call : Caller) (site : Context) (n at : ℕ) (test next : Carry) (k : ℕ) (a : Acts) (vs : List Local) (w : Work) where
  pub turns_more : at < n → turns call site (n - at) test next k a vs w ≡ (goes_on call site test vs w.count >>= λ t. if t.0 then (turn next k a vs (at_count w t.1) >>= λ r. turns call site (n - (at + 1)) test next k a r.0 r.1) else Ok (vs, at_count w t.1))
  unfolding turns
  turns_more below = one_more (λ m. turns call site m test next k a vs w) n at below

  pub turns_end : n ≤ at → turns call site (n - at) test next k a vs w ≡ (goes_on call site test vs w.count >>= λ t. if t.0 then Err (fault.Loop site.within) else Ok (vs, at_count w t.1))
  unfolding turns
  turns_end done = no_more (λ m. turns call site m test next k a vs w) n at done

pub ruleset loops = (turns_more, turns_end)
