-- What the nodes of a net are: words, computed of the registers, of the inputs and of the nodes before them (IEEE 1364-2005,
-- "continuous assignments"). A net is a flat body without calls, whose arguments are the inputs and then the registers;
-- so its words and its widths are those of such a body.
use Rattle.std.specs.Prelude.{◌≡◌, ℕ, ◌+◌, ◌^◌, nat_le, nat_lt, Bool, true, false, ◌&&◌, IsTrue, List, [], ◌∷◌, ◌++◌, map, length, slice_get, Option, Some}
use Rattle.std.specs.List.{list_all}
use Rattle.bsv_bits.specs.Words.{Bits}
use Rattle.bsv_prim.specs.declared.primitive.RegisterInfo.{RegisterInfo}
use Rattle.bsv_design.specs.declared.element.Port.{Port}
use Rattle.bsv_design.specs.declared.node.Node.{Node}
use Rattle.bsv_design.specs.declared.node.Node.TheVariants as node
use Rattle.bsv_design.specs.design.Bodies.{node_word, values}
use Rattle.bsv_design.specs.scheme.Relations.{no_answers}
use Rattle.bsv_design.specs.design.Widths.{has_width, widths_from}
use Rattle.bsv_net.specs.declared.node.NetNode.{NetNode}
use Rattle.bsv_net.specs.declared.node.NetNode.TheVariants as net
use Rattle.bsv_net.specs.declared.node.Site.{Site}
use Rattle.bsv_net.specs.declared.net_data.NetData.{NetData}

-- ---- as a flat body

-- the node of a flat body, after so many arguments that are inputs
abbrev pub as_node : ℕ → NetNode → Node
as_node inputs (net.Input k) = node.Argument k
as_node inputs (net.Register k) = node.Argument (inputs + k)
as_node inputs (net.Constant w) = node.Constant w
as_node inputs (net.Not a) = node.Not a
as_node inputs (net.Two o a b) = node.Two o a b
as_node inputs (net.Pick t a b) = node.Pick t a b
as_node inputs (net.Slice a high low) = node.Slice a high low
as_node inputs (net.Join a b) = node.Join a b
as_node inputs (net.Extend a width) = node.Extend a width
as_node inputs (net.SignExtend a width) = node.SignExtend a width

abbrev pub as_nodes : ℕ → List NetNode → List Node
as_nodes inputs xs = map (as_node inputs) xs

-- an argument of so many bits
abbrev pub port : ℕ → Port
port width = record { name = []; width = width }

abbrev pub register_widths : List RegisterInfo → List ℕ
register_widths rs = map (λ r. r.width) rs

abbrev pub ports : List ℕ → List RegisterInfo → List Port
ports inputs registers = map port (inputs ++ register_widths registers)

-- ---- words

-- the word of a node after nodes of these words, where the inputs and the registers have these
abbrev pub word : List Bits → List Bits → List Bits → NetNode → Bits
word inputs registers ws x = node_word no_answers (inputs ++ registers) [] ws (as_node (length inputs) x)

-- the words of nodes
unfoldable pub words : List NetNode → List Bits → List Bits → List Bits
words xs inputs registers = values no_answers (inputs ++ registers) [] [] (as_nodes (length inputs) xs)

-- ---- what holds of every net

-- inputs and registers are named by their places
abbrev pub is_within : ℕ → ℕ → NetNode → Bool
is_within inputs registers (net.Input k) = nat_lt k inputs
is_within inputs registers (net.Register k) = nat_lt k registers
is_within inputs registers _ = true

abbrev pub are_within : NetData → Bool
are_within c = list_all (is_within (length c.inputs) (length c.registers)) c.nodes

-- the widths of all nodes: each uses earlier nodes alone, and its operands have the widths that its operator needs
abbrev pub node_widths : NetData → Option (List ℕ)
node_widths c = widths_from (ports c.inputs c.registers) [] [] [] (as_nodes (length c.inputs) c.nodes)

-- a word has 1 to 128 bits
abbrev pub width_fits : ℕ → Bool
width_fits width = nat_le 1 width && nat_le width 128

-- there is one next word for each register, of its width
abbrev pub nexts_fit : List ℕ → List ℕ → List RegisterInfo → Bool
nexts_fit us [] [] = true
nexts_fit us (n ∷ ns) (r ∷ rs) = has_width (slice_get us n) r.width && nexts_fit us ns rs
nexts_fit us _ _ = false

abbrev pub is_bit : List ℕ → ℕ → Bool
is_bit us n = has_width (slice_get us n) 1

-- a node that there is, or their number, which names none
abbrev pub names : List ℕ → ℕ → Bool
names us n = nat_le n (length us)

abbrev pub is_node : List ℕ → ℕ → Bool
is_node us n = nat_lt n (length us)

abbrev pub is_site : List ℕ → Site → Bool
is_site us s = is_bit us s.taken && list_all (is_node us) s.args

-- numbers of 32 bits name nodes, and inputs and registers together
abbrev pub is_few : NetData → Bool
is_few c = nat_lt (length c.nodes) (2 ^ 32) && nat_lt (length c.inputs + length c.registers) (2 ^ 32)

-- what is beside nodes of these widths has those that it needs
abbrev pub is_in_order : List ℕ → NetData → Bool
is_in_order us c =
    list_all width_fits c.inputs
    && nexts_fit us c.nexts c.registers
    -- what tells of firing and of readiness has one bit
    && list_all (is_bit us) c.fires && list_all (is_bit us) c.readies
    && list_all (names us) c.results && list_all (list_all (is_site us)) c.sites

pub record IsNet (c : NetData) : Type 0 where
  pub few : IsTrue (is_few c)
  pub within : IsTrue (are_within c)
  pub widths : List ℕ
  pub nodes : node_widths c ≡ Some widths
  pub in_order : IsTrue (is_in_order widths c)
