-- What is promised of a net that gives the same as another one with fewer nodes: it gives the same words in each clock, and of
-- its nodes none could be left out by itself.
use Rattle.std.specs.Prelude.{◌≡◌, ℕ, ◌<◌, ◌≤◌, Bool, true, false, List, [], ◌∷◌, length, slice_get, Option, Some, None}
use Rattle.std.specs.List.{list_all}
use Rattle.bsv_bits.specs.Words.{Bits}
use Rattle.bsv_design.specs.declared.schedule.Schedule.{Schedule}
use Rattle.bsv_design.specs.scheme.Schemes.{Scheme}
use Rattle.bsv_graph.specs.Orders.{In}
use Rattle.bsv_guard.specs.Fitting.{HaveWidths}
use Rattle.bsv_net.specs.declared.net.Net.{Net}
use Rattle.bsv_net.specs.declared.net_data.NetData.{NetData}
use Rattle.bsv_net.specs.declared.node.NetNode.{NetNode}
use Rattle.bsv_net.specs.declared.node.NetNode.TheVariants as net
use Rattle.bsv_net.specs.Nets.{register_widths}
use Rattle.bsv_net.specs.ShowsByNet.{NetCarries, gives}

-- ---- what a net gives

-- for all words of the registers and the inputs that have the widths of the first net, both give the same words: the next word of
-- each register, which elements fire and are ready, and what they give
abbrev pub GivesSame : NetData → NetData → Type 0
GivesSame c d =
    (inputs registers : List Bits) → HaveWidths c.inputs inputs → HaveWidths (register_widths c.registers) registers
    → gives d registers inputs ≡ gives c registers inputs

-- an entry of the results names a node where it did, and else it is the number of nodes
abbrev pub StaysNamed : NetData → NetData → ℕ → Option ℕ → Type 0
StaysNamed c d k None = ⊥
StaysNamed c d k (Some j) = (k < length c.nodes → j < length d.nodes) × (length c.nodes ≤ k → j ≡ length d.nodes)

abbrev pub NamesSame : NetData → NetData → Type 0
NamesSame c d = (n k : ℕ) → slice_get c.results n ≡ Some k → StaysNamed c d k (slice_get d.results n)

-- whatever scheme the first net carries, the second one does
abbrev pub CarriesSame : Net → Net → Type 0
CarriesSame m n =
    (aggressive : Bool) (S : Scheme) (made : Schedule) → NetCarries aggressive S made m → NetCarries aggressive S made n

-- ---- its nodes

-- the nodes that a node reads
abbrev pub operands : NetNode → List ℕ
operands (net.Input k) = []
operands (net.Register k) = []
operands (net.Constant w) = []
operands (net.Not a) = a ∷ []
operands (net.Two o a b) = a ∷ b ∷ []
operands (net.Pick t a b) = t ∷ a ∷ b ∷ []
operands (net.Slice a high low) = a ∷ []
operands (net.Join a b) = a ∷ b ∷ []
operands (net.Extend a width) = a ∷ []
operands (net.SignExtend a width) = a ∷ []

abbrev pub is_constant : Option NetNode → Bool
is_constant (Some (net.Constant w)) = true
is_constant _ = false

-- no operator has constants alone for operands
abbrev pub IsFolded : List NetNode → Type 0
IsFolded xs =
    (k : ℕ) (x : NetNode) → slice_get xs k ≡ Some x → 0 < length (operands x)
    → list_all (λ a. is_constant (slice_get xs a)) (operands x) ≡ false

-- no two nodes are equal
abbrev pub IsDistinct : List NetNode → Type 0
IsDistinct xs = (i k : ℕ) (x : NetNode) → slice_get xs i ≡ Some x → slice_get xs k ≡ Some x → i ≡ k

-- the node is named by what the net gives
pub data IsOutput (c : NetData) (k : ℕ) : Type 0 where
  next : In c.nexts k → IsOutput c k
  fire : In c.fires k → IsOutput c k
  ready : In c.readies k → IsOutput c k
  result : In c.results k → IsOutput c k

-- the node is an output, or is read by a node that is reached
pub data IsReached (c : NetData) : ℕ → Type 0 where
  output : {k : ℕ} → IsOutput c k → IsReached c k
  operand : {n k : ℕ} {x : NetNode} → IsReached c n → slice_get c.nodes n ≡ Some x → In (operands x) k → IsReached c k

abbrev pub IsNeeded : NetData → Type 0
IsNeeded c = (k : ℕ) → k < length c.nodes → IsReached c k
