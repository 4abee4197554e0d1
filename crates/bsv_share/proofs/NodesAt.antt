-- Each node of a net has a width, and reads earlier nodes alone.
use Rattle.std.proofs.Common.{◌≡◌, ◌∙◌, ℕ, zero, suc, ◌+◌, ◌<◌, Bool, false, List, [], ◌∷◌, ◌++◌, length, length-append, Option, Some, None, refl, sym, ap, subst, arith, append_assoc, append-nil}
use Rattle.std.specs.Prelude.{◌==◌, ◌&&◌, slice_get, if◌then◌else◌}
use Rattle.std.specs.List.{AllByRecursion}
use Rattle.std.proofs.lemmas.Bool.{and_parts, eqb-true}
use Rattle.std.proofs.lemmas.Option.{same_Some}
use Rattle.bsv_lemmas.proofs.Places.{at_right, mapped_at}
use Rattle.bsv_bits.specs.Operators.{is_shift}
use Rattle.bsv_bits.specs.Words.{Bits}
use Rattle.bsv_bits.specs.declared.operator.Operator.{Operator}
use Rattle.bsv_design.specs.declared.element.Port.{Port}
use Rattle.bsv_design.specs.declared.node.Node.{Node}
use Rattle.bsv_design.specs.design.Bodies.{at}
use Rattle.bsv_design.specs.design.Widths.{gives_bit, if_width, node_width, pick_width, two_width, widths_from}
use Rattle.bsv_guard.specs.Fitting.{HaveWidths}
use Rattle.bsv_guard.proofs.BodyFits.{word_there}
use Rattle.bsv_guard.proofs.Nodes.{chained, where_width}
use Rattle.bsv_net.specs.declared.net_data.NetData.{NetData}
use Rattle.bsv_net.specs.declared.node.NetNode.{NetNode}
use Rattle.bsv_net.specs.declared.node.NetNode.TheVariants as net
use Rattle.bsv_net.specs.Equations.{Values}
use Rattle.bsv_net.specs.Nets.{IsNet, as_node, as_nodes, ports}
use Rattle.bsv_net.proofs.Operands.{Below, is_below, width_kept}
use Rattle.bsv_share.specs.Sharing.{operands}

module _ (ps : List Port) where
  widths_grown : (ns : List Node) (us ends : List ℕ) → widths_from ps [] [] us ns ≡ Some ends → (more : List ℕ) × (ends ≡ us ++ more)
  unfolding widths_from
  widths_grown [] us ends e = ([], (let same : us ≡ ends = same_Some us ends e in sym same ∙ sym (append-nil us)))
  widths_grown (x ∷ ns) us ends e =
      let c = chained (node_width ps [] [] us x) (λ w. widths_from ps [] [] (us ++ w ∷ []) ns) ends e in
      let g = widths_grown ns (us ++ c.width ∷ []) ends c.rest in
      (c.width ∷ g.0, g.1 ∙ append_assoc us (c.width ∷ []) g.0)

  pub record NodeAt (ends : List ℕ) (k : ℕ) (x : Node) : Type 0 where
    pub width : ℕ
    pub has : node_width ps [] [] ends x ≡ Some width
    pub below : Below k x
    pub own : slice_get ends k ≡ Some width

  nodes_from : (ns : List Node) (us ends : List ℕ) → widths_from ps [] [] us ns ≡ Some ends → (k : ℕ) (x : Node) → slice_get ns k ≡ Some x → NodeAt ends (length us + k) x
  unfolding widths_from
  nodes_from [] us ends e k x there = absurd (let n : ⊥ = cc in n)
  nodes_from (y ∷ ns) us ends e zero x there =
      let same : y ≡ x = same_Some y x there in
      let c = chained (node_width ps [] [] us y) (λ w. widths_from ps [] [] (us ++ w ∷ []) ns) ends e in
      let g = widths_grown ns (us ++ c.width ∷ []) ends c.rest in
      let whole : ends ≡ us ++ (c.width ∷ g.0) = g.1 ∙ append_assoc us (c.width ∷ []) g.0 in
      let below = is_below us ps y c.width c.first in
      let place : length us ≡ length us + 0 = omega arith in
      let found : NodeAt ends (length us + 0) y = record {
        width = c.width;
        has = ap (λ (ws : List ℕ). node_width ps [] [] ws y) whole ∙ (width_kept us ps (c.width ∷ g.0) y below ∙ c.first);
        below = subst (λ (n : ℕ). Below n y) place below;
        own = ap (λ (ws : List ℕ). slice_get ws (length us + 0)) whole ∙ at_right us (c.width ∷ g.0) 0;
      } in
      subst (NodeAt ends (length us + 0)) same found
  nodes_from (y ∷ ns) us ends e (suc k) x there =
      let c = chained (node_width ps [] [] us y) (λ w. widths_from ps [] [] (us ++ w ∷ []) ns) ends e in
      let place : length (us ++ c.width ∷ []) + k ≡ length us + suc k = omega (arith, length-append us (c.width ∷ [])) in
      subst (λ (j : ℕ). NodeAt ends j x) place (nodes_from ns (us ++ c.width ∷ []) ends c.rest k x there)

  pub nodes_at : (ns : List Node) (ends : List ℕ) → widths_from ps [] [] [] ns ≡ Some ends → (k : ℕ) (x : Node) → slice_get ns k ≡ Some x → NodeAt ends k x
  nodes_at ns ends e k x there =
      let place : length {A = ℕ} [] + k ≡ k = omega arith in
      subst (λ (j : ℕ). NodeAt ends j x) place (nodes_from ns [] ends e k x there)

-- a node reads earlier nodes
pub reads_below : (inputs k : ℕ) (x : NetNode) → Below k (as_node inputs x) → AllByRecursion (λ a. a < k) (operands x)
reads_below n k (net.Input i) h = tt
reads_below n k (net.Register i) h = tt
reads_below n k (net.Constant w) h = tt
reads_below n k (net.Not a) h = (h, tt)
reads_below n k (net.Two o a b) h = (h.0, (h.1, tt))
reads_below n k (net.Pick t a b) h = (h.0, (h.1, (h.2, tt)))
reads_below n k (net.Slice a high low) h = (h, tt)
reads_below n k (net.Join a b) h = (h.0, (h.1, tt))
reads_below n k (net.Extend a width) h = (h, tt)
reads_below n k (net.SignExtend a width) h = (h, tt)

-- the operands have the widths that operators of two words, and picks, need
abbrev pub Sizes : Values → NetNode → Type 0
Sizes V (net.Two o a b) = is_shift o ≡ false → (V a).width ≡ (V b).width
Sizes V (net.Pick t a b) = ((V t).width ≡ 1) × ((V a).width ≡ (V b).width)
Sizes V _ = Unit {0}

module _ (us : List ℕ) (vs : List Bits) (have : HaveWidths us vs) where
  operand : (a u : ℕ) → slice_get us a ≡ Some u → (at vs a).width ≡ u
  operand a u e = (word_there us vs have a u e).same_width

  two_same : (o : Operator) (a b v : ℕ) (p q : Option ℕ) → slice_get us a ≡ p → slice_get us b ≡ q → two_width o p q ≡ Some v → is_shift o ≡ false → (at vs a).width ≡ (at vs b).width
  two_same o a b v None q i j e no_shift = absurd (let n : ⊥ = cc in n)
  two_same o a b v (Some u) None i j e no_shift = absurd (let n : ⊥ = cc in n)
  two_same o a b v (Some u) (Some w) i j e no_shift =
      let f : if_width (u == w) (if gives_bit o then 1 else u) ≡ Some v = ap (λ (t : Bool). if t then Some u else if_width (u == w) (if gives_bit o then 1 else u)) (sym no_shift) ∙ e in
      let same = eqb-true u w (where_width (u == w) (if gives_bit o then 1 else u) v f).0 in
      operand a u i ∙ same ∙ sym (operand b w j)

  pick_same : (t a b v : ℕ) (p q r : Option ℕ) → slice_get us t ≡ p → slice_get us a ≡ q → slice_get us b ≡ r → pick_width p q r ≡ Some v
      → ((at vs t).width ≡ 1) × ((at vs a).width ≡ (at vs b).width)
  pick_same t a b v None q r i j k e = absurd (let n : ⊥ = cc in n)
  pick_same t a b v (Some x) None r i j k e = absurd (let n : ⊥ = cc in n)
  pick_same t a b v (Some x) (Some y) None i j k e = absurd (let n : ⊥ = cc in n)
  pick_same t a b v (Some x) (Some y) (Some z) i j k e =
      let parts = and_parts (x == 1) (y == z) (where_width ((x == 1) && (y == z)) y v e).0 in
      (operand t x i ∙ eqb-true x 1 parts.0, operand a y j ∙ (eqb-true y z parts.1 ∙ sym (operand b z k)))

  pub sizes_of : (ps : List Port) (n : ℕ) (x : NetNode) (v : ℕ) → node_width ps [] [] us (as_node n x) ≡ Some v → Sizes (at vs) x
  sizes_of ps n (net.Input k) v e = tt
  sizes_of ps n (net.Register k) v e = tt
  sizes_of ps n (net.Constant w) v e = tt
  sizes_of ps n (net.Not a) v e = tt
  sizes_of ps n (net.Two o a b) v e = two_same o a b v (slice_get us a) (slice_get us b) refl refl e
  sizes_of ps n (net.Pick t a b) v e = pick_same t a b v (slice_get us t) (slice_get us a) (slice_get us b) refl refl refl e
  sizes_of ps n (net.Slice a high low) v e = tt
  sizes_of ps n (net.Join a b) v e = tt
  sizes_of ps n (net.Extend a width) v e = tt
  sizes_of ps n (net.SignExtend a width) v e = tt

-- of a net
pub node_of : (c : NetData) (right : IsNet c) (k : ℕ) (x : NetNode) → slice_get c.nodes k ≡ Some x → NodeAt (ports c.inputs c.registers) right.widths k (as_node (length c.inputs) x)
node_of c right k x there =
    nodes_at (ports c.inputs c.registers) (as_nodes (length c.inputs) c.nodes) right.widths right.nodes k (as_node (length c.inputs) x)
    (mapped_at (as_node (length c.inputs)) c.nodes k x there)
