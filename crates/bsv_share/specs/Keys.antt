-- Nodes as numbers, and the node of such numbers.
use Rattle.std.specs.Prelude.{ℕ}
use Rattle.bsv_bits.specs.declared.operator.Operator.{Operator}
use Rattle.bsv_bits.specs.declared.operator.Operator.TheVariants.{Add, Sub, Mul, And, Or, Xor, Same, Less, LessSigned, Shl, Shr, Sar}
use Rattle.bsv_net.specs.declared.node.NetNode.{NetNode}
use Rattle.bsv_net.specs.declared.node.NetNode.TheVariants as net
use Rattle.bsv_share.specs.declared.key.Key.{Key}

abbrev pub operator_form : Operator → ℕ
operator_form Add = 4
operator_form Sub = 5
operator_form Mul = 6
operator_form And = 7
operator_form Or = 8
operator_form Xor = 9
operator_form Same = 10
operator_form Less = 11
operator_form LessSigned = 12
operator_form Shl = 13
operator_form Shr = 14
operator_form Sar = 15

abbrev pub numbers : ℕ → ℕ → ℕ → ℕ → Key
numbers form first second third = record { form = form; first = first; second = second; third = third; value = 0 }

abbrev pub key_of : NetNode → Key
key_of (net.Input k) = numbers 0 k 0 0
key_of (net.Register k) = numbers 1 k 0 0
key_of (net.Constant w) = record { form = 2; first = w.width; second = 0; third = 0; value = w.value }
key_of (net.Not a) = numbers 3 a 0 0
key_of (net.Two o a b) = numbers (operator_form o) a b 0
key_of (net.Pick t a b) = numbers 16 t a b
key_of (net.Slice a high low) = numbers 17 a high low
key_of (net.Join a b) = numbers 18 a b 0
key_of (net.Extend a width) = numbers 19 a width 0
key_of (net.SignExtend a width) = numbers 20 a width 0
