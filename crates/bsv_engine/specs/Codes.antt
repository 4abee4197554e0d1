-- What an engine is made of: the inputs by their widths, the registers and the nodes of a net, and how it keeps their words.
use Rattle.std.specs.Prelude.{◌≡◌, ℕ, nat_le, List, [], ◌∷◌, if◌then◌else◌}
use Rattle.bsv_bits.specs.Words.{Bits}
use Rattle.bsv_prim.specs.declared.primitive.RegisterInfo.{RegisterInfo}
use Rattle.bsv_design.specs.design.Computing.{word}
use Rattle.bsv_net.specs.declared.node.NetNode.{NetNode}
use Rattle.bsv_net.specs.declared.net_data.NetData.{NetData}
use Rattle.bsv_net.specs.Nets.{IsNet}

pub record Code : Type 0 where
  pub inputs : List ℕ
  pub registers : List RegisterInfo
  pub nodes : List NetNode

-- the inputs, the registers and the nodes of a net in order
pub record IsOfNet (c : Code) : Type 0 where
  pub net : NetData
  pub right : IsNet net
  pub inputs : net.inputs ≡ c.inputs
  pub registers : net.registers ≡ c.registers
  pub nodes : net.nodes ≡ c.nodes

-- ---- how words are kept

-- a word of at most 64 bits is kept as the first number, and a wider one as the second
abbrev pub kept : ℕ → ℕ → ℕ → Bits
kept width narrow wide = word width (if nat_le width 64 then narrow else wide)

abbrev pub all_kept : List ℕ → List ℕ → List ℕ → List Bits
all_kept (u ∷ us) (n ∷ ns) (v ∷ vs) = kept u n v ∷ all_kept us ns vs
all_kept us ns vs = []
