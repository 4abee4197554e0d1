-- Integers, which are numbers of 64 bits with a sign (Bluespec reference guide, "Integer").
use Rattle.std.specs.Prelude.{ℕ, ◌+◌, ◌-◌, ◌^◌, nat_lt, Bool, not, ◌&&◌, ℤ, pos, negsuc, ◌+ℤ◌, ◌-ℤ◌, ◌*ℤ◌, int_lt, int_le, Option, Some, None, option_map, if◌then◌else◌}
use Rattle.bsv_bits.specs.Words.{bit, word_neg}
use Rattle.bsv_types.specs.declared.operators.Op.{Op}
use Rattle.bsv_types.specs.declared.operators.Op.TheVariants as op
use Rattle.bsv_types.specs.Kinds.{Kind, int}
use Rattle.bsv_tree.specs.declared.values.Constant.{Constant}
use Rattle.bsv_tree.specs.declared.values.Constant.TheVariants as constant
use Rattle.bsv_design.specs.design.Computing.{word}

-- the number, where it is one of 64 bits
unfoldable pub ranged : ℤ → Option ℤ
ranged n = if int_le (negsuc 9223372036854775807) n && int_le n (pos 9223372036854775807) then Some n else None

abbrev pub same_number : ℤ → ℤ → Bool
same_number m n = int_le m n && int_le n m

abbrev pub says : Bool → Option Constant
says b = Some (constant.Bits (bit b))

-- what an operator gives for two Integers; none where a number leaves its range
abbrev pub number_between : Op → ℤ → ℤ → Option Constant
number_between op.Mul m n = option_map constant.Number (ranged (m *ℤ n))
number_between op.Add m n = option_map constant.Number (ranged (m +ℤ n))
number_between op.Sub m n = option_map constant.Number (ranged (m -ℤ n))
number_between op.Less m n = says (int_lt m n)
number_between op.LessOrSame m n = says (int_le m n)
number_between op.Greater m n = says (int_lt n m)
number_between op.GreaterOrSame m n = says (int_le n m)
number_between op.Same m n = says (same_number m n)
number_between _ m n = says (not (same_number m n))

-- the most bits that a number of at least 0 may have
abbrev pub limit : ℕ → Kind → ℕ
limit width (int w) = width - 1
limit width _ = width

-- a number below 0: so much below -1
unfoldable pub fitted_below : ℕ → ℕ → Option Constant
fitted_below width n = if nat_lt n (2 ^ (width - 1)) then Some (constant.Bits (word_neg (word width (n + 1)))) else None

-- the number as a word of the type, where it fits: one below 0 from half of what the width holds
unfoldable pub fitted : Kind → ℕ → ℤ → Option Constant
fitted k width (pos n) = if nat_lt n (2 ^ limit width k) then Some (constant.Bits (word width n)) else None
fitted k width (negsuc n) = fitted_below width n
