use Rattle.std.proofs.Common.{◌<◌, ℕ, List, length, subst, sym}
use Rattle.bsv_flow.specs.Loads.{most_packages}
use Rattle.bsv_flow.specs.declared.refusal.CompileFault.TheVariants as fault
use Rattle.bsv_flow.proofs.Parsed.{same_fault}
use Rattle.bsv_flow.proofs.Queued.{too_many_after}
use Rattle.bsv_flow.proofs.queue.with_imports.Goals as goal

pub returns-then-len-gt-MAX_PACKAGES-clause-refused : goal.returns-then-len-gt-MAX_PACKAGES-clause-refused
returns-then-len-gt-MAX_PACKAGES-clause-refused c =
    λ r e. (
      c.too_many.ensures.refused r (same_fault c.too_many.result (fault.Refused r) e),
      subst (λ (files : List (List ℕ)). most_packages < length files) (sym c.loop-item.invariant.ahead)
          (too_many_after c.args.first.now c.loop-item.queue c.in_ok-queue.queue c.as_slice-item-items.result.now c.loop-item.item-index most_packages c.item-item.result c.loop-item-test.true c.item-item.is c.in_ok-queue.ensures
          (subst (λ n. most_packages < n) c.len.ensures c.if-len-gt-MAX_PACKAGES.true)),
    )
