use Rattle.std.proofs.Common.{◌≡◌, ◌≤◌, take}
use Rattle.bsv_flow.specs.LoadOrder.{folder}
use Rattle.bsv_flow.proofs.queue.folder.Given as goal

abbrev pub invariant-loop-at : goal.invariant-loop-at
invariant-loop-at l = (l.end ≤ l.at) × (folder (take l.at l.name) ≡ take l.end l.name)
