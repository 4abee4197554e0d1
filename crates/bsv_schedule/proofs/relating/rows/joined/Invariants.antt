use Rattle.std.proofs.Common.{◌≡◌, ◌++◌, vec_len}
use Rattle.std.specs.List.{flat_map}
use Rattle.bsv_schedule.proofs.relating.rows.joined.Given as goal

abbrev pub invariant-loop-blocks : goal.invariant-loop-blocks
invariant-loop-blocks l = flat_map (λ block. block.items) l.initial.blocks.items ≡ l.rows.items ++ flat_map (λ block. block.items) l.blocks.items

abbrev pub decreases-loop-blocks : goal.decreases-loop-blocks
decreases-loop-blocks l = vec_len l.blocks
