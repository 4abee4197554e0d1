-- What each line keeps, the lines of all nodes keep: there is one assignment for each wire, and the wires are numbered by
-- their places.
use Rattle.std.proofs.Common.{◌≡◌, ◌∙◌, ℕ, suc, ◌+◌, ◌-◌, Bool, true, false, List, [], ◌∷◌, ◌++◌, length, map, refl, sym, ap, arith, length-append}
use Rattle.std.specs.Prelude.{nat_lt, if◌then◌else◌}
use Rattle.std.proofs.lemmas.List.{map-append}
use Rattle.bsv_bits.specs.Words.{word_not}
use Rattle.bsv_prim.specs.declared.primitive.RegisterInfo.{RegisterInfo}
use Rattle.bsv_net.specs.declared.node.NetNode.{NetNode}
use Rattle.bsv_net.specs.declared.node.NetNode.TheVariants as net
use Rattle.bsv_vtext.specs.declared.tree.Assign.{Assign}
use Rattle.bsv_vtext.specs.declared.tree.Atom.{Atom}
use Rattle.bsv_vtext.specs.declared.tree.Atom.TheVariants as atom
use Rattle.bsv_vtext.specs.declared.tree.Side.{Side}
use Rattle.bsv_vtext.specs.declared.tree.Side.TheVariants as side
use Rattle.bsv_vtext.specs.declared.tree.Target.TheVariants as target
use Rattle.bsv_vtext.specs.declared.tree.VWire.{VWire}
use Rattle.bsv_vgen.specs.declared.known.Known.{Known}
use Rattle.bsv_vgen.specs.Lines.{Written, constant, with_line, slice, join, zeros, negative, filling, join_above, known_at, two_side, two_width, node, nodes}
use Rattle.bsv_vgen.specs.Modules.{nothing_written}
use Rattle.bsv_vgen.specs.Names.{numbered_wire, numbered_from}

module _ (P : Written → Type 0) (more : (w : Written) (u : ℕ) (s : Side) → P w → P (with_line w u s)) where
  slice_keeps : (w : Written) (a : Atom) (high low : ℕ) → P w → P (slice w a high low).written
  slice_keeps w (atom.Enable k) high low h = more w (high - low + 1) (side.Slice (atom.Enable k) high low) h
  slice_keeps w (atom.Argument k i) high low h = more w (high - low + 1) (side.Slice (atom.Argument k i) high low) h
  slice_keeps w (atom.Register k) high low h = more w (high - low + 1) (side.Slice (atom.Register k) high low) h
  slice_keeps w (atom.Wire k) high low h = more w (high - low + 1) (side.Slice (atom.Wire k) high low) h
  slice_keeps w (atom.Constant x) high low h = h

  join_keeps : (w : Written) (a b : Known) → P w → P (join w a b).written
  join_keeps w a b h = more w (a.width + b.width) (side.Join (a.atom ∷ b.atom ∷ [])) h

  extend_keeps : (w : Written) (a : Known) (width : ℕ) (b : Bool) → P w
      → P (if b then join w (constant (zeros (width - a.width))) a else record { written = w; known = a }).written
  extend_keeps w a width true h = join_keeps w (constant (zeros (width - a.width))) a h
  extend_keeps w a width false h = h

  filling_keeps : (w : Written) (a : Known) (extra : ℕ) → P w → P (filling (negative w a) extra).written
  filling_keeps w a extra h =
      more (negative w a).written extra (side.Pick (negative w a).known.atom (atom.Constant (word_not (zeros extra))) (atom.Constant (zeros extra)))
      (more w 1 (side.LessSigned a.atom (atom.Constant (zeros a.width))) h)

  sign_extend_keeps : (w : Written) (a : Known) (width : ℕ) (b : Bool) → P w
      → P (if b then join_above (filling (negative w a) (width - a.width)) a else record { written = w; known = a }).written
  sign_extend_keeps w a width true h =
      join_keeps (filling (negative w a) (width - a.width)).written (filling (negative w a) (width - a.width)).known a (filling_keeps w a (width - a.width) h)
  sign_extend_keeps w a width false h = h

  module _ (inputs : List Known) (registers : List RegisterInfo) where
    node_keeps : (ks : List Known) (w : Written) (x : NetNode) → P w → P (node inputs registers ks w x).written
    node_keeps ks w (net.Input k) h = h
    node_keeps ks w (net.Register k) h = h
    node_keeps ks w (net.Constant x) h = h
    node_keeps ks w (net.Not a) h = more w (known_at ks a).width (side.Not (known_at ks a).atom) h
    node_keeps ks w (net.Two o a b) h = more w (two_width o (known_at ks a).width) (two_side o (known_at ks a).atom (known_at ks b).atom) h
    node_keeps ks w (net.Pick t a b) h = more w (known_at ks a).width (side.Pick (known_at ks t).atom (known_at ks a).atom (known_at ks b).atom) h
    node_keeps ks w (net.Slice a high low) h = slice_keeps w (known_at ks a).atom high low h
    node_keeps ks w (net.Join a b) h = join_keeps w (known_at ks a) (known_at ks b) h
    node_keeps ks w (net.Extend a width) h = extend_keeps w (known_at ks a) width (nat_lt (known_at ks a).width width) h
    node_keeps ks w (net.SignExtend a width) h = sign_extend_keeps w (known_at ks a) width (nat_lt (known_at ks a).width width) h

    pub nodes_keep : (xs : List NetNode) (ks : List Known) (w : Written) → P w → P (nodes inputs registers ks w xs).written
    unfolding nodes
    nodes_keep [] ks w h = h
    nodes_keep (x ∷ xs) ks w h =
        nodes_keep xs (ks ++ (node inputs registers ks w x).known ∷ []) (node inputs registers ks w x).written (node_keeps ks w x h)

-- ---- numbers

abbrev pub widths_of : List VWire → List ℕ
widths_of ws = map (λ w. w.width) ws

numbered_more : (k : ℕ) (us : List ℕ) (u : ℕ) → numbered_from k (us ++ u ∷ []) ≡ numbered_from k us ++ numbered_wire (k + length us) u ∷ []
numbered_more k [] u = ap (λ (n : ℕ). numbered_wire n u ∷ []) (let e : k ≡ k + 0 = omega arith in e)
numbered_more k (v ∷ us) u =
    ap (λ (ws : List VWire). numbered_wire k v ∷ ws)
    (numbered_more (k + 1) us u ∙ ap (λ (n : ℕ). numbered_from (k + 1) us ++ numbered_wire n u ∷ []) (let e : k + 1 + length us ≡ k + suc (length us) = omega arith in e))

widths_count : (ws : List VWire) → length (widths_of ws) ≡ length ws
widths_count [] = refl
widths_count (w ∷ ws) = ap suc (widths_count ws)

-- there is one assignment for each wire, and wires are numbered by their places
pub record IsNumbered (w : Written) : Type 0 where
  pub as_many : length w.assigns ≡ length w.wires
  pub numbered : w.wires ≡ numbered_from 0 (widths_of w.wires)

line_numbered : (w : Written) (u : ℕ) (s : Side) → IsNumbered w → IsNumbered (with_line w u s)
line_numbered w u s h =
    let n : ℕ = length w.wires in
    let x : Assign = record { target = target.Wire n; side = s } in
    let same : 0 + length (widths_of w.wires) ≡ n = (let e = widths_count w.wires in omega (arith, e)) in
    record {
      as_many = omega (arith, h.as_many, length-append w.assigns (x ∷ []), length-append w.wires (numbered_wire n u ∷ []));
      numbered =
          ap (λ (ws : List VWire). ws ++ numbered_wire n u ∷ []) h.numbered
          ∙ ap (λ (k : ℕ). numbered_from 0 (widths_of w.wires) ++ numbered_wire k u ∷ []) (sym same)
          ∙ sym (numbered_more 0 (widths_of w.wires) u)
          ∙ ap (numbered_from 0) (sym (map-append (λ (v : VWire). v.width) w.wires (numbered_wire n u ∷ [])));
    }

pub nodes_numbered : (inputs : List Known) (registers : List RegisterInfo) (xs : List NetNode) → IsNumbered (nodes inputs registers [] nothing_written xs).written
nodes_numbered inputs registers xs = nodes_keep IsNumbered line_numbered inputs registers xs [] nothing_written (record { as_many = refl; numbered = refl })
