-- Nodes of equal keys are equal.
use Rattle.std.proofs.Common.{◌≡◌, ◌∙◌, ℕ, refl, sym, ap}
use Rattle.std.specs.Prelude.{◌==◌, if◌then◌else◌}
use Rattle.bsv_bits.specs.declared.operator.Operator.{Operator}
use Rattle.bsv_bits.specs.declared.operator.Operator.TheVariants.{Add, Sub, Mul, And, Or, Xor, Same, Less, LessSigned, Shl, Shr, Sar}
use Rattle.bsv_net.specs.declared.node.NetNode.{NetNode}
use Rattle.bsv_net.specs.declared.node.NetNode.TheVariants as net
use Rattle.bsv_share.specs.declared.key.Key.{Key}
use Rattle.bsv_share.specs.Keys.{key_of}

abbrev operator_of : ℕ → Operator
operator_of n =
    if n == 4 then Add
    else (if n == 5 then Sub
    else (if n == 6 then Mul
    else (if n == 7 then And
    else (if n == 8 then Or
    else (if n == 9 then Xor
    else (if n == 10 then Same
    else (if n == 11 then Less
    else (if n == 12 then LessSigned
    else (if n == 13 then Shl
    else (if n == 14 then Shr
    else Sar))))))))))

abbrev node_of : Key → NetNode
node_of k =
    if k.form == 0 then net.Input k.first
    else (if k.form == 1 then net.Register k.first
    else (if k.form == 2 then net.Constant (record { width = k.first; value = k.value })
    else (if k.form == 3 then net.Not k.first
    else (if k.form == 16 then net.Pick k.first k.second k.third
    else (if k.form == 17 then net.Slice k.first k.second k.third
    else (if k.form == 18 then net.Join k.first k.second
    else (if k.form == 19 then net.Extend k.first k.second
    else (if k.form == 20 then net.SignExtend k.first k.second
    else net.Two (operator_of k.form) k.first k.second))))))))

of_two : (o : Operator) (a b : ℕ) → node_of (key_of (net.Two o a b)) ≡ net.Two o a b
of_two Add a b = refl
of_two Sub a b = refl
of_two Mul a b = refl
of_two And a b = refl
of_two Or a b = refl
of_two Xor a b = refl
of_two Same a b = refl
of_two Less a b = refl
of_two LessSigned a b = refl
of_two Shl a b = refl
of_two Shr a b = refl
of_two Sar a b = refl

of_key : (x : NetNode) → node_of (key_of x) ≡ x
of_key (net.Input k) = refl
of_key (net.Register k) = refl
of_key (net.Constant w) = refl
of_key (net.Not a) = refl
of_key (net.Two o a b) = of_two o a b
of_key (net.Pick t a b) = refl
of_key (net.Slice a high low) = refl
of_key (net.Join a b) = refl
of_key (net.Extend a width) = refl
of_key (net.SignExtend a width) = refl

pub same_node : (x y : NetNode) → key_of x ≡ key_of y → x ≡ y
same_node x y e = sym (of_key x) ∙ ap node_of e ∙ of_key y
