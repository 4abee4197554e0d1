use Rattle.std.proofs.Common.{◌≡◌, true, take}
use Rattle.std.specs.List.{list_all}
use Rattle.bsv_attr.specs.Calling.{is_countable}
use Rattle.bsv_attr.proofs.asserting.is_countable.Given as goal

abbrev pub invariant-loop-element : goal.invariant-loop-element
invariant-loop-element l = list_all is_countable (take l.element-index l.element-items) ≡ true
