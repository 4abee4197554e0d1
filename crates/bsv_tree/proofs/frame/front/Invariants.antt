use Rattle.std.proofs.Common.{◌≡◌, ◌+◌, take, length}
use Rattle.bsv_tree.proofs.frame.front.Given as goal

abbrev pub invariant-loop-more : goal.invariant-loop-more
invariant-loop-more g l = record {
  same : take l.count l.fn.items ≡ take l.count l.items;
  left : length l.items + l._more ≡ length l.fn.items;
}
