-- When a step stands for a node, after nodes of these widths: it reads words before it of at most 64 bits, their widths
-- fit the form, and its mask has the width of the node.
use Rattle.std.specs.Prelude.{ℕ, ◌≡◌, ◌+◌, ◌-◌, ◌^◌, ◌<◌, ◌≤◌, List, length, slice_index}
use Rattle.bsv_bits.specs.declared.operator.Operator.TheVariants as operator
use Rattle.bsv_net.specs.declared.node.NetNode.{NetNode}
use Rattle.bsv_net.specs.declared.node.NetNode.TheVariants as net
use Rattle.bsv_engine.specs.declared.bitwise.Not.{Not}
use Rattle.bsv_engine.specs.declared.bitwise.And.{And}
use Rattle.bsv_engine.specs.declared.bitwise.Or.{Or}
use Rattle.bsv_engine.specs.declared.bitwise.Xor.{Xor}
use Rattle.bsv_engine.specs.declared.sums.Add.{Add}
use Rattle.bsv_engine.specs.declared.sums.Sub.{Sub}
use Rattle.bsv_engine.specs.declared.sums.Mul.{Mul}
use Rattle.bsv_engine.specs.declared.orders.Same.{Same}
use Rattle.bsv_engine.specs.declared.orders.Less.{Less}
use Rattle.bsv_engine.specs.declared.orders.LessSigned.{LessSigned}
use Rattle.bsv_engine.specs.declared.shifts.Shl.{Shl}
use Rattle.bsv_engine.specs.declared.shifts.Shr.{Shr}
use Rattle.bsv_engine.specs.declared.shifts.Sar.{Sar}
use Rattle.bsv_engine.specs.declared.parts.Known.{Known}
use Rattle.bsv_engine.specs.declared.parts.Pick.{Pick}
use Rattle.bsv_engine.specs.declared.parts.Slice.{Slice}
use Rattle.bsv_engine.specs.declared.parts.Join.{Join}
use Rattle.bsv_engine.specs.declared.parts.Extended.{Extended}
use Rattle.bsv_engine.specs.declared.parts.SignExtended.{SignExtended}
use Rattle.bsv_engine.specs.Numbers.{not_within, and_within, or_within, xor_within, add_within, sub_within, mul_within, same_within, less_within, less_signed_within, shl_within, shr_within, sar_within, known_within, pick_within, slice_within, join_within, extended_within, sign_extended_within}

abbrev pub width_at : List ℕ → ℕ → ℕ
width_at us k = slice_index us k

-- a word of a machine
abbrev pub IsNarrow : List ℕ → ℕ → Type 0
IsNarrow us k = width_at us k ≤ 64

-- two operands of one width
abbrev pub Even : List ℕ → ℕ → ℕ → Type 0
Even us a b = width_at us a ≡ width_at us b

abbrev pub IsMask : ℕ → ℕ → Type 0
IsMask mask width = mask ≡ 2 ^ width - 1

abbrev pub IsSign : ℕ → ℕ → Type 0
IsSign sign width = sign ≡ 2 ^ (width - 1)

abbrev pub not_node : Not → NetNode
not_node x = net.Not x.a

abbrev pub not_right : List ℕ → Not → Type 0
not_right us x = not_within (length us) x × IsNarrow us x.a × IsMask x.mask (width_at us x.a)

abbrev pub and_node : And → NetNode
and_node x = net.Two operator.And x.a x.b

abbrev pub and_right : List ℕ → And → Type 0
and_right us x = and_within (length us) x × IsNarrow us x.a × Even us x.a x.b

abbrev pub or_node : Or → NetNode
or_node x = net.Two operator.Or x.a x.b

abbrev pub or_right : List ℕ → Or → Type 0
or_right us x = or_within (length us) x × IsNarrow us x.a × Even us x.a x.b

abbrev pub xor_node : Xor → NetNode
xor_node x = net.Two operator.Xor x.a x.b

abbrev pub xor_right : List ℕ → Xor → Type 0
xor_right us x = xor_within (length us) x × IsNarrow us x.a × Even us x.a x.b

abbrev pub add_node : Add → NetNode
add_node x = net.Two operator.Add x.a x.b

abbrev pub add_right : List ℕ → Add → Type 0
add_right us x = add_within (length us) x × IsNarrow us x.a × Even us x.a x.b × IsMask x.mask (width_at us x.a)

abbrev pub sub_node : Sub → NetNode
sub_node x = net.Two operator.Sub x.a x.b

abbrev pub sub_right : List ℕ → Sub → Type 0
sub_right us x = sub_within (length us) x × IsNarrow us x.a × Even us x.a x.b × IsMask x.mask (width_at us x.a)

abbrev pub mul_node : Mul → NetNode
mul_node x = net.Two operator.Mul x.a x.b

abbrev pub mul_right : List ℕ → Mul → Type 0
mul_right us x = mul_within (length us) x × IsNarrow us x.a × Even us x.a x.b × IsMask x.mask (width_at us x.a)

abbrev pub same_node : Same → NetNode
same_node x = net.Two operator.Same x.a x.b

abbrev pub same_right : List ℕ → Same → Type 0
same_right us x = same_within (length us) x × IsNarrow us x.a × Even us x.a x.b

abbrev pub less_node : Less → NetNode
less_node x = net.Two operator.Less x.a x.b

abbrev pub less_right : List ℕ → Less → Type 0
less_right us x = less_within (length us) x × IsNarrow us x.a × Even us x.a x.b

abbrev pub less_signed_node : LessSigned → NetNode
less_signed_node x = net.Two operator.LessSigned x.a x.b

abbrev pub less_signed_right : List ℕ → LessSigned → Type 0
less_signed_right us x = less_signed_within (length us) x × IsNarrow us x.a × Even us x.a x.b × IsSign x.sign (width_at us x.a)

abbrev pub shl_node : Shl → NetNode
shl_node x = net.Two operator.Shl x.a x.b

abbrev pub shl_right : List ℕ → Shl → Type 0
shl_right us x = shl_within (length us) x × IsNarrow us x.a × IsNarrow us x.b × IsMask x.mask (width_at us x.a)

abbrev pub shr_node : Shr → NetNode
shr_node x = net.Two operator.Shr x.a x.b

abbrev pub shr_right : List ℕ → Shr → Type 0
shr_right us x = shr_within (length us) x × IsNarrow us x.a × IsNarrow us x.b

abbrev pub sar_node : Sar → NetNode
sar_node x = net.Two operator.Sar x.a x.b

abbrev pub sar_right : List ℕ → Sar → Type 0
sar_right us x = sar_within (length us) x × IsNarrow us x.a × IsNarrow us x.b × IsMask x.mask (width_at us x.a) × IsSign x.sign (width_at us x.a)

abbrev pub known_node : Known → NetNode
known_node x = net.Constant (record { width = x.width; value = x.value })

abbrev pub known_right : List ℕ → Known → Type 0
known_right us x = known_within (length us) x × x.value < 2 ^ 64

abbrev pub pick_node : Pick → NetNode
pick_node x = net.Pick x.test x.a x.b

abbrev pub pick_right : List ℕ → Pick → Type 0
pick_right us x = pick_within (length us) x × (width_at us x.test ≡ 1) × IsNarrow us x.a × Even us x.a x.b

abbrev pub slice_node : Slice → NetNode
slice_node x = net.Slice x.a x.high x.low

abbrev pub slice_right : List ℕ → Slice → Type 0
slice_right us x = slice_within (length us) x × IsNarrow us x.a × (x.low ≤ x.high) × (x.high < width_at us x.a) × IsMask x.mask (x.high - x.low + 1)

abbrev pub join_node : Join → NetNode
join_node x = net.Join x.a x.b

abbrev pub join_right : List ℕ → Join → Type 0
join_right us x = join_within (length us) x × (x.low ≡ width_at us x.b) × (width_at us x.a + width_at us x.b ≤ 64)

abbrev pub extended_node : Extended → NetNode
extended_node x = net.Extend x.a x.width

abbrev pub extended_right : List ℕ → Extended → Type 0
extended_right us x = extended_within (length us) x × (width_at us x.a ≤ x.width) × (x.width ≤ 64)

abbrev pub sign_extended_node : SignExtended → NetNode
sign_extended_node x = net.SignExtend x.a x.width

abbrev pub sign_extended_right : List ℕ → SignExtended → Type 0
sign_extended_right us x = sign_extended_within (length us) x × (width_at us x.a ≤ x.width) × (x.width ≤ 64) × IsSign x.sign (width_at us x.a) × (x.fill ≡ 2 ^ x.width - 2 ^ width_at us x.a)
