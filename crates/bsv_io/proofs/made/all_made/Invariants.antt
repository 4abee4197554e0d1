use Rattle.std.proofs.Common.{◌≡◌, ◌++◌, map, vec_len, Ok}
use Rattle.bsv_io.proofs.made.all_made.Given as goal

abbrev pub invariant-loop-made : goal.invariant-loop-made
invariant-loop-made g l = l.initial.made.items ≡ map Ok l.all.items ++ l.made.items

abbrev pub decreases-loop-made : goal.decreases-loop-made
decreases-loop-made g l = vec_len l.made
