-- What is placed for an element comes after the nodes that were there.
use Rattle.std.proofs.Common.{ℕ, Bool, true, false, cond, ◌&&◌, not, List, [], ◌∷◌, ◌++◌, map, Option, Some, None}
use Rattle.std.specs.Prelude.{slice_get, nat_lt}
use Rattle.bsv_bits.specs.declared.operator.Operator.TheVariants.{And}
use Rattle.bsv_design.specs.declared.element.Call.{Call}
use Rattle.bsv_design.specs.declared.kind.Kind.{Kind}
use Rattle.bsv_design.specs.declared.node.Node.{Node}
use Rattle.bsv_design.specs.declared.node.Node.TheVariants as node
use Rattle.bsv_design.specs.declared.schedule.Need.{Need}
use Rattle.bsv_design.specs.parts.Kinds.{kind_table}
use Rattle.bsv_net.specs.declared.node.NetNode.{NetNode}
use Rattle.bsv_net.specs.declared.node.NetNode.TheVariants as net
use Rattle.bsv_net.specs.Placing.{Placed, both, node_at, piece}
use Rattle.bsv_net.proofs.Grows.{Grows, grows_refl, grows_trans, grows_add, piece_grows}
use Rattle.bsv_fire.specs.Bodies.{Ports, wires_of, guard, guard_in, guard_of, guards, result, result_in, result_of, body_node, body, all_from, all_of}
use Rattle.bsv_fire.specs.Grounds.{Base}

grows_where : (b : Bool) (p q : Placed) (ns : List NetNode) → Grows ns p.nodes → Grows ns q.nodes → Grows ns (cond b p q).nodes
grows_where true p q ns h k = h
grows_where false p q ns h k = k

module _ (g : Base) (ports : Ports) where
  pub guard_grows : (i m : ℕ) (ns : List NetNode) → Grows ns (guard g ports i m ns).nodes
  unfolding guard
  guard_grows i m ns = of (slice_get g.kinds i)
    where
      of : (o : Option Kind) → Grows ns (guard_in g ports o i m ns).nodes
      of None = grows_refl ns
      of (Some k) =
          grows_where (nat_lt m (kind_table k).methods) (piece (wires_of g ports i m []) ns ((kind_table k).guard_piece m)) (record { nodes = ns; place = g.none }) ns
          (piece_grows (wires_of g ports i m []) ns ((kind_table k).guard_piece m)) (grows_refl ns)

  pub guard_of_grows : (o : Option Call) (ns : List NetNode) → Grows ns (guard_of g ports o ns).nodes
  guard_of_grows None ns = grows_refl ns
  guard_of_grows (Some c) ns = guard_grows c.part c.method ns

  pub guards_grow : (cs : List Call) (ns : List NetNode) (so_far : List ℕ) (xs : List Need) → Grows ns (guards g ports cs ns so_far xs).nodes
  unfolding guards
  guards_grow cs ns so_far [] = grows_refl ns
  guards_grow cs ns so_far (x ∷ xs) =
      let p = guard_of g ports (slice_get cs x.call) ns in
      grows_trans (guard_of_grows (slice_get cs x.call) ns) (guards_grow cs p.nodes (so_far ++ p.place ∷ []) xs)

  pub result_grows : (i m : ℕ) (args : List ℕ) (ns : List NetNode) → Grows ns (result g ports i m args ns).nodes
  unfolding result
  result_grows i m args ns = of (slice_get g.kinds i)
    where
      of : (o : Option Kind) → Grows ns (result_in g ports o i m args ns).nodes
      of None = grows_refl ns
      of (Some k) =
          grows_where (nat_lt m (kind_table k).methods && not ((kind_table k).is_action m)) (piece (wires_of g ports i m args) ns ((kind_table k).result_piece m)) (record { nodes = ns; place = g.none }) ns
          (piece_grows (wires_of g ports i m args) ns ((kind_table k).result_piece m)) (grows_refl ns)

  pub result_of_grows : (places : List ℕ) (o : Option Call) (ns : List NetNode) → Grows ns (result_of g ports places o ns).nodes
  result_of_grows places None ns = grows_refl ns
  result_of_grows places (Some c) ns = result_grows c.part c.method (map (node_at places) c.args) ns

  pub body_node_grows : (start : ℕ) (cs : List Call) (places : List ℕ) (ns : List NetNode) (x : Node) → Grows ns (body_node g ports start cs places ns x).nodes
  body_node_grows start cs places ns (node.Constant w) = grows_add ns (net.Constant w)
  body_node_grows start cs places ns (node.Argument k) = grows_refl ns
  body_node_grows start cs places ns (node.Result c) = result_of_grows places (slice_get cs c) ns
  body_node_grows start cs places ns (node.Not a) = grows_add ns (net.Not (node_at places a))
  body_node_grows start cs places ns (node.Two o a b) = grows_add ns (net.Two o (node_at places a) (node_at places b))
  body_node_grows start cs places ns (node.Pick t a b) = grows_add ns (net.Pick (node_at places t) (node_at places a) (node_at places b))
  body_node_grows start cs places ns (node.Slice a high low) = grows_add ns (net.Slice (node_at places a) high low)
  body_node_grows start cs places ns (node.Join a b) = grows_add ns (net.Join (node_at places a) (node_at places b))
  body_node_grows start cs places ns (node.Extend a width) = grows_add ns (net.Extend (node_at places a) width)
  body_node_grows start cs places ns (node.SignExtend a width) = grows_add ns (net.SignExtend (node_at places a) width)

  pub body_grows : (start : ℕ) (cs : List Call) (places : List ℕ) (ns : List NetNode) (xs : List Node) → Grows ns (body g ports start cs places ns xs).nodes
  unfolding body
  body_grows start cs places ns [] = grows_refl ns
  body_grows start cs places ns (x ∷ xs) =
      let p = body_node g ports start cs places ns x in
      grows_trans (body_node_grows start cs places ns x) (body_grows start cs (places ++ p.place ∷ []) p.nodes xs)

-- ---- bits

pub all_from_grows : (ns : List NetNode) (a : ℕ) (bs : List ℕ) → Grows ns (all_from ns a bs).nodes
unfolding all_from
all_from_grows ns a [] = grows_refl ns
all_from_grows ns a (b ∷ bs) = grows_trans (grows_add ns (net.Two And a b)) (all_from_grows (both ns a b).nodes (both ns a b).place bs)

pub all_of_grows : (one : ℕ) (ns : List NetNode) (bs : List ℕ) → Grows ns (all_of one ns bs).nodes
all_of_grows one ns [] = grows_refl ns
all_of_grows one ns (a ∷ others) = all_from_grows ns a others
