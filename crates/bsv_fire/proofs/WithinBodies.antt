-- Each node of a body in the net is one of the whole net, where those of its arguments, its registers and its methods are.
use Rattle.std.proofs.Common.{◌≡◌, ◌<◌, ◌+◌, ℕ, Bool, true, false, not, ◌&&◌, cond, List, [], ◌∷◌, ◌++◌, Option, Some, None, refl, length, map}
use Rattle.std.specs.Prelude.{◌==◌, nat_lt, slice_get, option_map, if◌then◌else◌}
use Rattle.std.proofs.lemmas.Bool.{ltb-true}
use Rattle.std.proofs.lemmas.Option.{slice_get_within}
use Rattle.bsv_prim.specs.Shape.{Shape, Given, IsCalled, ArgumentOf, Fixed, Inverted, Both, Chosen, Cut, Joined, Extended}
use Rattle.bsv_prim.specs.Table.{Table}
use Rattle.bsv_prim.specs.Widths.{HasWidth}
use Rattle.bsv_design.specs.declared.element.Call.{Call}
use Rattle.bsv_design.specs.declared.element.Port.{Port}
use Rattle.bsv_design.specs.declared.kind.Kind.{Kind}
use Rattle.bsv_design.specs.declared.node.Node.{Node}
use Rattle.bsv_design.specs.declared.node.Node.TheVariants as node
use Rattle.bsv_design.specs.design.Widths.{node_width, widths_from}
use Rattle.bsv_design.specs.parts.Kinds.{kind_laws, kind_table}
use Rattle.bsv_guard.proofs.Nodes.{chained}
use Rattle.bsv_net.specs.declared.node.NetNode.{NetNode}
use Rattle.bsv_net.specs.declared.node.NetNode.TheVariants as net
use Rattle.bsv_net.specs.AtHand.{args_in}
use Rattle.bsv_net.specs.Placing.{Placed, Wires, node_at, piece}
use Rattle.bsv_net.proofs.Grows.{Grows, grows_trans}
use Rattle.bsv_fire.specs.Bodies.{Ports, body, body_node, result, result_in, result_of, wires_of}
use Rattle.bsv_fire.specs.Grounds.{Base}
use Rattle.bsv_fire.proofs.BodiesGrow.{body_grows}
use Rattle.bsv_fire.proofs.Frame.{placed_port}
use Rattle.bsv_fire.proofs.WithinPorts.{PortWithin, Within, added_within, nodes_at_within, one_more}

has_argument : (o : Option Port) (ports : List Port) (k w : ℕ) → slice_get ports k ≡ o → option_map (λ (p : Port). p.width) o ≡ Some w → k < length ports
has_argument None ports k w e h = absurd (let n : ⊥ = cc in n)
has_argument (Some p) ports k w e h = slice_get_within ports k p e

module _ (full : List NetNode) (some : 0 < length full) where
  -- ---- a piece

  record WiresWithin (t : Table) (w : Wires) : Type 0 where
    registers : (n : ℕ) → n < t.registers → w.registers + n < length full
    called : (m : ℕ) → w.called m < length full
    argument : (m k : ℕ) → w.argument m k < length full

  piece_within : (t : Table) (w : Wires) → WiresWithin t w → (ns : List NetNode) (shape : Shape) (width : ℕ) → HasWidth t shape width → Grows (piece w ns shape).nodes full
      → (piece w ns shape).place < length full
  unfolding piece
  piece_within t w h ns (Given n) width fits g = h.registers n fits.0
  piece_within t w h ns (IsCalled m) width fits g = h.called m
  piece_within t w h ns (ArgumentOf m k) width fits g = h.argument m k
  piece_within t w h ns (Fixed x) width fits g = added_within full some ns (net.Constant x) g
  piece_within t w h ns (Inverted a) width fits g = let p = piece w ns a in added_within full some p.nodes (net.Not p.place) g
  piece_within t w h ns (Both o a b) width fits g =
      let p = piece w ns a in
      let q = piece w p.nodes b in
      added_within full some q.nodes (net.Two o p.place q.place) g
  piece_within t w h ns (Chosen c a b) width fits g =
      let p = piece w ns c in
      let q = piece w p.nodes a in
      let r = piece w q.nodes b in
      added_within full some r.nodes (net.Pick p.place q.place r.place) g
  piece_within t w h ns (Cut a high low) width fits g = let p = piece w ns a in added_within full some p.nodes (net.Slice p.place high low) g
  piece_within t w h ns (Joined a b) width fits g =
      let p = piece w ns a in
      let q = piece w p.nodes b in
      added_within full some q.nodes (net.Join p.place q.place) g
  piece_within t w h ns (Extended a wide) width fits g = let p = piece w ns a in added_within full some p.nodes (net.Extend p.place wide) g

  -- ---- what a call gives

  pub record BaseWithin (g : Base) : Type 0 where
    pub none : g.none < length full
    pub registers : (i : ℕ) (k : Kind) → slice_get g.kinds i ≡ Some k → (n : ℕ) → n < (kind_table k).registers → node_at g.registers i + n < length full

  abbrev pub PortsWithin : Ports → Type 0
  PortsWithin ports = (i m : ℕ) → PortWithin full some (placed_port ports i m)

  module _ (g : Base) (base : BaseWithin g) (ports : Ports) (stand : PortsWithin ports) where
    wires_within : (i own : ℕ) (args : List ℕ) (k : Kind) → slice_get g.kinds i ≡ Some k → Within full some args → WiresWithin (kind_table k) (wires_of g ports i own args)
    wires_within i own args k there h = record {
      registers = base.registers i k there;
      called = λ m. (stand i m).called;
      argument = λ m n. argument m n (m == own);
    }
      where
        argument : (m n : ℕ) (b : Bool) → (if b then node_at args n else node_at (args_in (placed_port ports i m)) n) < length full
        argument m n true = h n
        argument m n false = (stand i m).args n

    result_within : (i m : ℕ) (args : List ℕ) (ns : List NetNode) → Within full some args → Grows (result g ports i m args ns).nodes full → (result g ports i m args ns).place < length full
    unfolding result
    result_within i m args ns h = of (slice_get g.kinds i) refl
      where
        placed : Kind → Bool → Placed
        placed k b = cond b (piece (wires_of g ports i m args) ns ((kind_table k).result_piece m)) (record { nodes = ns; place = g.none })

        cases : (k : Kind) → slice_get g.kinds i ≡ Some k → (a b : Bool) → nat_lt m (kind_table k).methods ≡ a → (kind_table k).is_action m ≡ b
            → Grows (placed k (a && not b)).nodes full → (placed k (a && not b)).place < length full
        cases k there true false l r grows =
            piece_within (kind_table k) (wires_of g ports i m args) (wires_within i m args k there h) ns ((kind_table k).result_piece m) ((kind_table k).result_width m)
            ((kind_laws k).widths.result_piece m (ltb-true m (kind_table k).methods l) r) grows
        cases k there true true l r grows = base.none
        cases k there false b l r grows = base.none

        of : (o : Option Kind) → slice_get g.kinds i ≡ o → Grows (result_in g ports o i m args ns).nodes full → (result_in g ports o i m args ns).place < length full
        of None there grows = base.none
        of (Some k) there grows = cases k there (nat_lt m (kind_table k).methods) ((kind_table k).is_action m) refl refl grows

    result_of_within : (places : List ℕ) (o : Option Call) (ns : List NetNode) → Within full some places → Grows (result_of g ports places o ns).nodes full
        → (result_of g ports places o ns).place < length full
    result_of_within places None ns h grows = base.none
    result_of_within places (Some c) ns h grows = result_within c.part c.method (map (node_at places) c.args) ns (nodes_at_within full some places c.args h) grows

    -- ---- a body

    module _ (start : ℕ) (cs : List Call) (arguments : List Port) (ks : List Kind) (given : (k : ℕ) → k < length arguments → start + k < length full) where
      node_within : (us places : List ℕ) (ns : List NetNode) (x : Node) (w : ℕ) → node_width arguments ks cs us x ≡ Some w → Within full some places
          → Grows (body_node g ports start cs places ns x).nodes full → (body_node g ports start cs places ns x).place < length full
      node_within us places ns (node.Constant v) w e h grows = added_within full some ns (net.Constant v) grows
      node_within us places ns (node.Argument k) w e h grows = given k (has_argument (slice_get arguments k) arguments k w refl e)
      node_within us places ns (node.Result c) w e h grows = result_of_within places (slice_get cs c) ns h grows
      node_within us places ns (node.Not a) w e h grows = added_within full some ns (net.Not (node_at places a)) grows
      node_within us places ns (node.Two o a b) w e h grows = added_within full some ns (net.Two o (node_at places a) (node_at places b)) grows
      node_within us places ns (node.Pick t a b) w e h grows = added_within full some ns (net.Pick (node_at places t) (node_at places a) (node_at places b)) grows
      node_within us places ns (node.Slice a high low) w e h grows = added_within full some ns (net.Slice (node_at places a) high low) grows
      node_within us places ns (node.Join a b) w e h grows = added_within full some ns (net.Join (node_at places a) (node_at places b)) grows
      node_within us places ns (node.Extend a width) w e h grows = added_within full some ns (net.Extend (node_at places a) width) grows
      node_within us places ns (node.SignExtend a width) w e h grows = added_within full some ns (net.SignExtend (node_at places a) width) grows

      pub body_within : (xs : List Node) (us ends places : List ℕ) (ns : List NetNode) → widths_from arguments ks cs us xs ≡ Some ends → Within full some places
          → Grows (body g ports start cs places ns xs).nodes full → Within full some (body g ports start cs places ns xs).places
      unfolding body widths_from
      body_within [] us ends places ns e h grows = h
      body_within (x ∷ xs) us ends places ns e h grows =
          let c = chained (node_width arguments ks cs us x) (λ w. widths_from arguments ks cs (us ++ w ∷ []) xs) ends e in
          let p = body_node g ports start cs places ns x in
          let here = node_within us places ns x c.width c.first h (grows_trans (body_grows g ports start cs (places ++ p.place ∷ []) p.nodes xs) grows) in
          body_within xs (us ++ c.width ∷ []) ends (places ++ p.place ∷ []) p.nodes c.rest (one_more full some places p.place h here) grows
