use Rattle.std.proofs.Common.{◌≡◌, ◌-◌, ◌/◌, ◌^◌, length, drop}
use Rattle.bsv_bits.specs.Constants.{hex_digits}
use Rattle.bsv_bits.proofs.hex.write_narrow_digits.Given as goal

-- the last digits are written, and what is left has lost them
abbrev pub invariant-loop-turn : goal.invariant-loop-turn
invariant-loop-turn l = record {
  written : drop (length l.out - l.turn) l.out ≡ hex_digits l.turn l.fn.number;
  left : l.left ≡ l.fn.number / 16 ^ l.turn;
}
