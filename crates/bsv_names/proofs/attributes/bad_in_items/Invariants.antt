use Rattle.std.proofs.Common.{◌≡◌, length}
use Rattle.std.specs.List.{flat_map}
use Rattle.bsv_names.specs.Attributes as spec
use Rattle.bsv_names.proofs.attributes.bad_in_items.Given as goal

abbrev pub decreases-loop-item : goal.decreases-loop-item
decreases-loop-item l = length l.rest

abbrev pub invariant-loop-item : goal.invariant-loop-item
invariant-loop-item l = spec.first_malformed (flat_map (spec.in_item l.number) l.rest) ≡ spec.first_malformed (flat_map (spec.in_item l.number) l.items)
