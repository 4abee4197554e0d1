-- Where the inputs and the registers of a design are in its net: the first nodes are the inputs, then come the registers,
-- and then a bit that is 0 and one that is 1.
use Rattle.std.specs.Prelude.{ℕ, ◌+◌, true, false, cond, List, [], ◌∷◌, ◌++◌, map, length}
use Rattle.bsv_bits.specs.Words.{bit}
use Rattle.bsv_design.specs.declared.element.Element.{Element}
use Rattle.bsv_design.specs.declared.kind.Kind.{Kind}
use Rattle.bsv_design.specs.parts.Kinds.{kind_table}
use Rattle.bsv_design.specs.design.Roles.{is_rule}
use Rattle.bsv_graph.specs.Edges.{numbers_below}
use Rattle.bsv_net.specs.declared.node.NetNode.{NetNode}
use Rattle.bsv_net.specs.declared.node.NetNode.TheVariants as net

-- how many inputs an element has: a method one for each argument, and one that tells whether it is asked
abbrev pub input_count : Element → ℕ
input_count e = cond (is_rule e.role) 0 (length e.arguments + 1)

-- of each element the first of its inputs
unfoldable pub input_starts : ℕ → List Element → List ℕ
input_starts at [] = []
input_starts at (e ∷ es) = at ∷ input_starts (at + input_count e) es

-- of each part the first of its registers
unfoldable pub register_starts : ℕ → List Kind → List ℕ
register_starts at [] = []
register_starts at (k ∷ ks) = at ∷ register_starts (at + (kind_table k).registers) ks

-- the first nodes
abbrev pub first_nodes : ℕ → ℕ → List NetNode
first_nodes inputs registers =
    map net.Input (numbers_below inputs) ++ (map net.Register (numbers_below registers)
    ++ (net.Constant (bit false) ∷ net.Constant (bit true) ∷ []))
