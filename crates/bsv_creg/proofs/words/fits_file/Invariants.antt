use Rattle.std.proofs.Common.{ℕ, ◌<◌}
use Rattle.bsv_prim.specs.Table.{IsWordOf, word_at}
use Rattle.bsv_creg.proofs.words.fits_file.Given as goal

abbrev pub invariant-loop-number : goal.invariant-loop-number
invariant-loop-number l = (k : ℕ) → k < l.number → IsWordOf l.width (word_at l.queue.items k)
