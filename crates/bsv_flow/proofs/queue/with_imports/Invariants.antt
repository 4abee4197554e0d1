use Rattle.std.proofs.Common.{◌≡◌, ◌≤◌, length, drop}
use Rattle.bsv_flow.specs.Loads.{most_packages}
use Rattle.bsv_flow.specs.LoadOrder.{with_imports, with_items}
use Rattle.bsv_flow.proofs.queue.with_imports.Given as goal

abbrev pub invariant-loop-item : goal.invariant-loop-item
invariant-loop-item l =
    record {
      ahead : with_imports l.first l.fn.queue l.whole ≡ with_items l.first l.queue (drop l.item-index l.item-items);
      few : length l.queue ≤ most_packages;
    }
