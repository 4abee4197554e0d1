-- How the nodes of a net are written as lines of a module. A line is a wire with a number and its assignment. What is known
-- of a node is the atom that has its word: an input, a register or a constant as it is, and else the wire of a line.
use Rattle.std.specs.Prelude.{ℕ, ◌+◌, ◌-◌, nat_lt, false, if◌then◌else◌, List, [], ◌∷◌, ◌++◌, length, slice_get, Option, Some, None}
use Rattle.bsv_bits.specs.declared.operator.Operator.{Operator}
use Rattle.bsv_bits.specs.declared.operator.Operator.TheVariants as operator
use Rattle.bsv_bits.specs.Words.{Bits, bit, word_not}
use Rattle.bsv_prim.specs.declared.primitive.RegisterInfo.{RegisterInfo}
use Rattle.bsv_design.specs.design.Computing.{word, sliced}
use Rattle.bsv_design.specs.design.Widths.{gives_bit}
use Rattle.bsv_net.specs.declared.node.NetNode.{NetNode}
use Rattle.bsv_net.specs.declared.node.NetNode.TheVariants as net
use Rattle.bsv_vtext.specs.declared.tree.Assign.{Assign}
use Rattle.bsv_vtext.specs.declared.tree.Atom.{Atom}
use Rattle.bsv_vtext.specs.declared.tree.Atom.TheVariants as atom
use Rattle.bsv_vtext.specs.declared.tree.Side.{Side}
use Rattle.bsv_vtext.specs.declared.tree.Side.TheVariants as side
use Rattle.bsv_vtext.specs.declared.tree.Target.TheVariants as target
use Rattle.bsv_vtext.specs.declared.tree.VOperator.TheVariants as voperator
use Rattle.bsv_vtext.specs.declared.tree.VWire.{VWire}
use Rattle.bsv_vgen.specs.declared.known.Known.{Known}
use Rattle.bsv_vgen.specs.Names.{numbered_wire}

-- the wires, and the assignments
pub record Written : Type 0 where
  pub wires : List VWire
  pub assigns : List Assign

-- what is written, and what is known of nodes
pub record Nodes : Type 0 where
  pub written : Written
  pub known : List Known

-- and of one node
pub record Step : Type 0 where
  pub written : Written
  pub known : Known

-- ---- what is known

-- one bit that is 0
abbrev pub nothing : Known
nothing = record { atom = atom.Constant (bit false); width = 1 }

abbrev pub or_nothing : Option Known → Known
or_nothing None = nothing
or_nothing (Some k) = k

abbrev pub known_at : List Known → ℕ → Known
known_at ks n = or_nothing (slice_get ks n)

abbrev pub constant : Bits → Known
constant w = record { atom = atom.Constant w; width = w.width }

-- ---- lines

-- one more wire with its assignment
abbrev pub with_wire : Written → VWire → Side → Written
with_wire w wire s = record {
  wires = w.wires ++ wire ∷ [];
  assigns = w.assigns ++ record { target = target.Wire (length w.wires); side = s } ∷ [];
}

-- one more line
abbrev pub with_line : Written → ℕ → Side → Written
with_line w width s = with_wire w (numbered_wire (length w.wires) width) s

-- one more line, whose wire has the word
abbrev pub line : Written → ℕ → Side → Step
line w width s = record { written = with_line w width s; known = record { atom = atom.Wire (length w.wires); width = width } }

-- ---- nodes

-- how an operator is written
abbrev pub two_side : Operator → Atom → Atom → Side
two_side operator.Add a b = side.Two voperator.Add a b
two_side operator.Sub a b = side.Two voperator.Sub a b
two_side operator.Mul a b = side.Two voperator.Mul a b
two_side operator.And a b = side.Two voperator.And a b
two_side operator.Or a b = side.Two voperator.Or a b
two_side operator.Xor a b = side.Two voperator.Xor a b
two_side operator.Same a b = side.Two voperator.Same a b
two_side operator.Less a b = side.Two voperator.Less a b
two_side operator.LessSigned a b = side.LessSigned a b
two_side operator.Shl a b = side.Two voperator.Shl a b
two_side operator.Shr a b = side.Two voperator.Shr a b
two_side operator.Sar a b = side.ShiftSigned a b

abbrev pub two_width : Operator → ℕ → ℕ
two_width o width = if gives_bit o then 1 else width

-- a part of a constant is a constant
abbrev pub slice : Written → Atom → ℕ → ℕ → Step
slice w (atom.Constant x) high low = record { written = w; known = constant (sliced x high low) }
slice w a high low = line w (high - low + 1) (side.Slice a high low)

abbrev pub join : Written → Known → Known → Step
join w a b = line w (a.width + b.width) (side.Join (a.atom ∷ b.atom ∷ []))

abbrev pub zeros : ℕ → Bits
zeros width = word width 0

-- zeros above
abbrev pub extend : Written → Known → ℕ → Step
extend w a width =
    if nat_lt a.width width then join w (constant (zeros (width - a.width))) a else record { written = w; known = a }

-- whether the number is negative
abbrev pub negative : Written → Known → Step
negative w a = line w 1 (side.LessSigned a.atom (atom.Constant (zeros a.width)))

-- so many bits, all of them 1 where the first one is
abbrev pub filling : Step → ℕ → Step
filling s more = line s.written more (side.Pick s.known.atom (atom.Constant (word_not (zeros more))) (atom.Constant (zeros more)))

abbrev pub join_above : Step → Known → Step
join_above s a = join s.written s.known a

-- copies of the most significant bit above
abbrev pub sign_extend : Written → Known → ℕ → Step
sign_extend w a width =
    if nat_lt a.width width then join_above (filling (negative w a) (width - a.width)) a else record { written = w; known = a }

-- the register of this place
abbrev pub register : Option RegisterInfo → ℕ → Known
register None k = nothing
register (Some r) k = record { atom = atom.Register k; width = r.width }

module _ (inputs : List Known) (registers : List RegisterInfo) where
  -- one node, where this is known of the nodes before it
  abbrev pub node : List Known → Written → NetNode → Step
  node ks w (net.Input k) = record { written = w; known = known_at inputs k }
  node ks w (net.Register k) = record { written = w; known = register (slice_get registers k) k }
  node ks w (net.Constant x) = record { written = w; known = constant x }
  node ks w (net.Not a) = line w (known_at ks a).width (side.Not (known_at ks a).atom)
  node ks w (net.Two o a b) = line w (two_width o (known_at ks a).width) (two_side o (known_at ks a).atom (known_at ks b).atom)
  node ks w (net.Pick t a b) = line w (known_at ks a).width (side.Pick (known_at ks t).atom (known_at ks a).atom (known_at ks b).atom)
  node ks w (net.Slice a high low) = slice w (known_at ks a).atom high low
  node ks w (net.Join a b) = join w (known_at ks a) (known_at ks b)
  node ks w (net.Extend a width) = extend w (known_at ks a) width
  node ks w (net.SignExtend a width) = sign_extend w (known_at ks a) width

  -- all nodes
  unfoldable pub nodes : List Known → Written → List NetNode → Nodes
  nodes ks w [] = record { written = w; known = ks }
  nodes ks w (x ∷ xs) = nodes (ks ++ (node ks w x).known ∷ []) (node ks w x).written xs
