-- Nodes that are folded one after the other: each is a constant, or has the word of an earlier one, or is there once.
use Rattle.std.specs.Prelude.{◌≡◌, ◌⊎◌, ℕ, List, [], ◌∷◌, ◌++◌, slice_get, Some, MatchOption}
use Rattle.bsv_bits.specs.Words.{Bits}
use Rattle.bsv_design.specs.design.Bodies.{at}
use Rattle.bsv_guard.specs.Fitting.{HaveWidths}
use Rattle.bsv_net.specs.declared.net_data.NetData.{NetData}
use Rattle.bsv_net.specs.declared.node.NetNode.{NetNode}
use Rattle.bsv_net.specs.declared.node.NetNode.TheVariants as net
use Rattle.bsv_net.specs.Nets.{register_widths, words}
use Rattle.bsv_net.specs.Placing.{node_at}
use Rattle.bsv_share.specs.Operands.{first_operand, renamed}
use Rattle.bsv_share.specs.Outputs.{with_nodes}
use Rattle.bsv_share.specs.Simplifying.{constant_word, same_word}

abbrev pub IsNew : List NetNode → NetNode → Type 0
IsNew xs x = (k : ℕ) → slice_get xs k ≡ Some x → ⊥

-- the node is at this place, where it comes last if it was not there
pub record Added (xs : List NetNode) (x : NetNode) (ys : List NetNode) (place : ℕ) : Type 0 where
  pub grows : (ys ≡ xs) ⊎ ((ys ≡ xs ++ x ∷ []) × IsNew xs x)
  pub there : slice_get ys place ≡ Some x

-- at this place is a node that has the word of this one, whose first operand has this width
abbrev pub Placed : List NetNode → ℕ → NetNode → List NetNode → ℕ → Type 0
Placed xs width x ys place =
    MatchOption (constant_word xs x)
    (MatchOption (same_word xs width x) (Added xs x ys place) (λ same. (ys ≡ xs) × (place ≡ same)))
    (λ w. Added xs (net.Constant w) ys place)

-- nodes are folded in turn, where the old nodes have these words in some clock
pub data Folds (vs : List Bits) : List NetNode → List NetNode → List ℕ → Type 0 where
  none : Folds vs [] [] []
  more : {xs more_xs ys zs : List NetNode} {places more_places : List ℕ} (x : NetNode) (place : ℕ) → Folds vs xs ys places
      → more_xs ≡ xs ++ x ∷ [] → more_places ≡ places ++ place ∷ []
      → Placed ys (at vs (first_operand x)).width (renamed (node_at places) x) zs place
      → Folds vs more_xs zs more_places

-- the words of the nodes of a net in some clock
pub record AreSomeWords (c : NetData) (vs : List Bits) : Type 0 where
  pub inputs : List Bits
  pub registers : List Bits
  pub inputs_fit : HaveWidths c.inputs inputs
  pub registers_fit : HaveWidths (register_widths c.registers) registers
  pub are : vs ≡ words c.nodes inputs registers

-- the net of the folded nodes
pub record IsFoldOf (c d : NetData) : Type 0 where
  pub words : List Bits
  pub some : AreSomeWords c words
  pub nodes : List NetNode
  pub places : List ℕ
  pub folds : Folds words c.nodes nodes places
  pub is : d ≡ with_nodes c nodes places
