use Rattle.std.proofs.Common.{◌≡◌}
use Rattle.std.specs.Prelude.{replicate}
use Rattle.bsv_bits.specs.Words.{zero_word}
use Rattle.bsv_creg.proofs.words.zeros.Given as goal

abbrev pub invariant-loop-number : goal.invariant-loop-number
invariant-loop-number l =
    l.queue ≡ record { items = replicate l._number (zero_word l.width); depth = l.count }
