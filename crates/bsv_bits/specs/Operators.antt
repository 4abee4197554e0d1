-- What the operators of two words give (Bluespec reference guide, operators of Bits and Arith;
-- IEEE 1364-2005, 4.1).
use Rattle.std.specs.Prelude.{Bool, true, false}
use Rattle.bsv_bits.specs.Words.{Bits, bit, word_add, word_sub, word_mul, word_and, word_or, word_xor, word_same, word_less, word_shl, word_shr}
use Rattle.bsv_bits.specs.Signed.{word_less_signed, word_sar}
use Rattle.bsv_bits.specs.declared.operator.Operator.{Operator}
use Rattle.bsv_bits.specs.declared.operator.Operator.TheVariants.{Add, Sub, Mul, And, Or, Xor, Same, Less, LessSigned, Shl, Shr, Sar}

-- the operators that compare give one bit, and all others a word of the first operand's width
abbrev pub operate : Operator → Bits → Bits → Bits
operate Add a b = word_add a b
operate Sub a b = word_sub a b
operate Mul a b = word_mul a b
operate And a b = word_and a b
operate Or a b = word_or a b
operate Xor a b = word_xor a b
operate Same a b = bit (word_same a b)
operate Less a b = bit (word_less a b)
operate LessSigned a b = bit (word_less_signed a b)
operate Shl a b = word_shl a b
operate Shr a b = word_shr a b
operate Sar a b = word_sar a b

-- a shift takes an amount of any width, and each other operator two words of one width
abbrev pub is_shift : Operator → Bool
is_shift Shl = true
is_shift Shr = true
is_shift Sar = true
is_shift Add = false
is_shift Sub = false
is_shift Mul = false
is_shift And = false
is_shift Or = false
is_shift Xor = false
is_shift Same = false
is_shift Less = false
is_shift LessSigned = false

-- the operators that compare
abbrev pub compares : Operator → Bool
compares Same = true
compares Less = true
compares LessSigned = true
compares Add = false
compares Sub = false
compares Mul = false
compares And = false
compares Or = false
compares Xor = false
compares Shl = false
compares Shr = false
compares Sar = false
