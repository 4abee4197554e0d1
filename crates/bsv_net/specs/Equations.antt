-- What the words of a net are to each other: each is what its operator gives for the words of its operands. This is all
-- that is used of them above.
use Rattle.std.specs.Prelude.{◌≡◌, ℕ, List, [], ◌++◌, length, slice_get, Some, if◌then◌else◌}
use Rattle.bsv_bits.specs.Operators.{operate}
use Rattle.bsv_bits.specs.Signed.{word_sign_extend}
use Rattle.bsv_bits.specs.Words.{Bits, word_not, word_slice, word_concat, word_extend}
use Rattle.bsv_prim.specs.Signals.{is_one}
use Rattle.bsv_prim.specs.Table.{IsWordOf}
use Rattle.bsv_design.specs.design.Bodies.{at, of_parts, word_over}
use Rattle.bsv_design.specs.scheme.Relations.{no_answers}
use Rattle.bsv_net.specs.declared.node.NetNode.{NetNode}
use Rattle.bsv_net.specs.declared.node.NetNode.TheVariants as net
use Rattle.bsv_net.specs.Nets.{as_node}

-- the word of each node, by its place
abbrev pub Values : Type 0
Values = ℕ → Bits

module _ (inputs registers : List Bits) (V : Values) where
  -- what the operator of a node gives, as words alone are computed
  abbrev pub operated : NetNode → Bits
  operated (net.Input k) = at inputs k
  operated (net.Register k) = at registers k
  operated (net.Constant w) = w
  operated (net.Not a) = word_not (V a)
  operated (net.Two o a b) = operate o (V a) (V b)
  operated (net.Pick t a b) = (if is_one (V t) then V a else V b)
  operated (net.Slice a high low) = word_slice (V a) high low
  operated (net.Join a b) = word_concat (V a) (V b)
  operated (net.Extend a width) = word_extend (V a) width
  operated (net.SignExtend a width) = word_sign_extend (V a) width

  -- and as flat bodies compute
  abbrev pub computed : NetNode → Bits
  computed (net.Input k) = at inputs k
  computed (net.Register k) = at registers k
  computed x = word_over (of_parts no_answers) (inputs ++ registers) [] V (as_node (length inputs) x)

  -- the words satisfy the nodes, as a solution does its equations
  pub record Satisfies (nodes : List NetNode) (widths : List ℕ) : Type 0 where
    pub operates : (k : ℕ) (x : NetNode) → slice_get nodes k ≡ Some x → V k ≡ operated x
    pub computes : (k : ℕ) (x : NetNode) → slice_get nodes k ≡ Some x → V k ≡ computed x
    pub fits : (k w : ℕ) → slice_get widths k ≡ Some w → IsWordOf w (V k)
