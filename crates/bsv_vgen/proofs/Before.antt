-- What was written before a node, and before nodes, is the front of the module where the whole is.
use Rattle.std.proofs.Common.{ℕ, ◌+◌, ◌-◌, Bool, true, false, List, [], ◌∷◌, ◌++◌, length}
use Rattle.std.specs.Prelude.{nat_lt, if◌then◌else◌}
use Rattle.bsv_bits.specs.Words.{word_not}
use Rattle.bsv_prim.specs.declared.primitive.RegisterInfo.{RegisterInfo}
use Rattle.bsv_net.specs.declared.node.NetNode.{NetNode}
use Rattle.bsv_net.specs.declared.node.NetNode.TheVariants as net
use Rattle.bsv_vtext.specs.declared.tree.Atom.{Atom}
use Rattle.bsv_vtext.specs.declared.tree.Atom.TheVariants as atom
use Rattle.bsv_vtext.specs.declared.tree.Side.{Side}
use Rattle.bsv_vtext.specs.declared.tree.Side.TheVariants as side
use Rattle.bsv_vtext.specs.Signals.{VModuleData}
use Rattle.bsv_vgen.specs.declared.known.Known.{Known}
use Rattle.bsv_vgen.specs.Lines.{Written, Step, constant, with_line, slice, join, zeros, negative, filling, join_above, known_at, two_side, two_width, node, nodes}
use Rattle.bsv_vgen.specs.Names.{numbered_wire}
use Rattle.bsv_vgen.proofs.Fronts.{Reaches, reaches_before}

module _ (m : VModuleData) where
  line_before : (w : Written) (u : ℕ) (s : Side) → Reaches m (with_line w u s) → Reaches m w
  line_before w u s r = reaches_before m w (numbered_wire (length w.wires) u) s r

  slice_before : (w : Written) (a : Atom) (high low : ℕ) → Reaches m (slice w a high low).written → Reaches m w
  slice_before w (atom.Enable k) high low r = line_before w (high - low + 1) (side.Slice (atom.Enable k) high low) r
  slice_before w (atom.Argument k i) high low r = line_before w (high - low + 1) (side.Slice (atom.Argument k i) high low) r
  slice_before w (atom.Register k) high low r = line_before w (high - low + 1) (side.Slice (atom.Register k) high low) r
  slice_before w (atom.Wire k) high low r = line_before w (high - low + 1) (side.Slice (atom.Wire k) high low) r
  slice_before w (atom.Constant x) high low r = r

  pub join_before : (w : Written) (a b : Known) → Reaches m (join w a b).written → Reaches m w
  join_before w a b r = line_before w (a.width + b.width) (side.Join (a.atom ∷ b.atom ∷ [])) r

  abbrev extension : Written → Known → ℕ → Bool → Step
  extension w a width b = if b then join w (constant (zeros (width - a.width))) a else record { written = w; known = a }

  extend_before : (w : Written) (a : Known) (width : ℕ) (b : Bool) → Reaches m (extension w a width b).written → Reaches m w
  extend_before w a width true r = join_before w (constant (zeros (width - a.width))) a r
  extend_before w a width false r = r

  abbrev above : Written → Known → ℕ → Step
  above w a width = filling (negative w a) (width - a.width)

  pub filling_before : (s : Step) (more : ℕ) → Reaches m (filling s more).written → Reaches m s.written
  filling_before s more r = line_before s.written more (side.Pick s.known.atom (atom.Constant (word_not (zeros more))) (atom.Constant (zeros more))) r

  pub negative_before : (w : Written) (a : Known) → Reaches m (negative w a).written → Reaches m w
  negative_before w a r = line_before w 1 (side.LessSigned a.atom (atom.Constant (zeros a.width))) r

  abbrev sign_extension : Written → Known → ℕ → Bool → Step
  sign_extension w a width b = if b then join_above (above w a width) a else record { written = w; known = a }

  sign_extend_before : (w : Written) (a : Known) (width : ℕ) (b : Bool) → Reaches m (sign_extension w a width b).written → Reaches m w
  sign_extend_before w a width true r =
      negative_before w a (filling_before (negative w a) (width - a.width) (join_before (above w a width).written (above w a width).known a r))
  sign_extend_before w a width false r = r

  module _ (inputs : List Known) (registers : List RegisterInfo) where
    pub node_before : (ks : List Known) (w : Written) (x : NetNode) → Reaches m (node inputs registers ks w x).written → Reaches m w
    node_before ks w (net.Input k) r = r
    node_before ks w (net.Register k) r = r
    node_before ks w (net.Constant x) r = r
    node_before ks w (net.Not a) r = line_before w (known_at ks a).width (side.Not (known_at ks a).atom) r
    node_before ks w (net.Two o a b) r = line_before w (two_width o (known_at ks a).width) (two_side o (known_at ks a).atom (known_at ks b).atom) r
    node_before ks w (net.Pick t a b) r = line_before w (known_at ks a).width (side.Pick (known_at ks t).atom (known_at ks a).atom (known_at ks b).atom) r
    node_before ks w (net.Slice a high low) r = slice_before w (known_at ks a).atom high low r
    node_before ks w (net.Join a b) r = join_before w (known_at ks a) (known_at ks b) r
    node_before ks w (net.Extend a width) r = extend_before w (known_at ks a) width (nat_lt (known_at ks a).width width) r
    node_before ks w (net.SignExtend a width) r = sign_extend_before w (known_at ks a) width (nat_lt (known_at ks a).width width) r

    pub reaches_first : (xs : List NetNode) (ks : List Known) (w : Written) → Reaches m (nodes inputs registers ks w xs).written → Reaches m w
    unfolding nodes
    reaches_first [] ks w r = r
    reaches_first (x ∷ xs) ks w r =
        node_before ks w x (reaches_first xs (ks ++ (node inputs registers ks w x).known ∷ []) (node inputs registers ks w x).written r)
