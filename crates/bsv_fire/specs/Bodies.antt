-- The nodes of an element in the net: those of its flat body, in which a call of a method that gives a value is the
-- result's piece of that method, with the call's own arguments.
use Rattle.std.specs.Prelude.{ℕ, ◌+◌, nat_lt, not, ◌&&◌, cond, List, [], ◌∷◌, ◌++◌, map, slice_get, Option, Some, None}
use Rattle.bsv_design.specs.declared.element.Call.{Call}
use Rattle.bsv_design.specs.declared.element.Condition.{Condition}
use Rattle.bsv_design.specs.declared.kind.Kind.{Kind}
use Rattle.bsv_design.specs.declared.node.Node.{Node}
use Rattle.bsv_design.specs.declared.node.Node.TheVariants as node
use Rattle.bsv_design.specs.declared.schedule.Need.{Need}
use Rattle.bsv_design.specs.parts.Kinds.{kind_table}
use Rattle.bsv_net.specs.declared.node.NetNode.{NetNode}
use Rattle.bsv_net.specs.declared.node.NetNode.TheVariants as net
use Rattle.bsv_net.specs.declared.node.Site.{Site}
use Rattle.bsv_net.specs.declared.wires.MethodPort.{MethodPort}
use Rattle.bsv_net.specs.AtHand.{wires_with}
use Rattle.bsv_net.specs.Placing.{Placed, Wires, add, both, node_at, piece}
use Rattle.bsv_ports.specs.CallSites.{or_none}
use Rattle.bsv_fire.specs.Grounds.{Base}
use Rattle.bsv_ports.specs.Ports.{PlacedAll}

-- of each part, of each of its methods, its nodes where they are placed
abbrev pub Ports : Type 0
Ports = List (List (Option MethodPort))

module _ (g : Base) (ports : Ports) where
  -- where the pieces of a part find them
  abbrev pub wires_of : ℕ → ℕ → List ℕ → Wires
  wires_of i own args = wires_with (node_at g.registers i) (or_none (slice_get ports i)) own args

  -- ---- guards

  abbrev pub guard_in : Option Kind → ℕ → ℕ → List NetNode → Placed
  guard_in None i m ns = record { nodes = ns; place = g.none }
  guard_in (Some k) i m ns =
      cond (nat_lt m (kind_table k).methods) (piece (wires_of i m []) ns ((kind_table k).guard_piece m)) (record { nodes = ns; place = g.none })

  -- the bit that is 1 where the guard of the method holds
  unfoldable pub guard : ℕ → ℕ → List NetNode → Placed
  guard i m ns = guard_in (slice_get g.kinds i) i m ns

  abbrev pub guard_of : Option Call → List NetNode → Placed
  guard_of None ns = record { nodes = ns; place = g.none }
  guard_of (Some c) ns = guard c.part c.method ns

  -- those of the calls that need one
  unfoldable pub guards : List Call → List NetNode → List ℕ → List Need → PlacedAll
  guards cs ns so_far [] = record { nodes = ns; places = so_far }
  guards cs ns so_far (x ∷ xs) =
      guards cs (guard_of (slice_get cs x.call) ns).nodes (so_far ++ (guard_of (slice_get cs x.call) ns).place ∷ []) xs

  -- ---- nodes

  abbrev pub result_in : Option Kind → ℕ → ℕ → List ℕ → List NetNode → Placed
  result_in None i m args ns = record { nodes = ns; place = g.none }
  result_in (Some k) i m args ns =
      cond (nat_lt m (kind_table k).methods && not ((kind_table k).is_action m))
      (piece (wires_of i m args) ns ((kind_table k).result_piece m)) (record { nodes = ns; place = g.none })

  -- the word that a method gives for the words of these nodes
  unfoldable pub result : ℕ → ℕ → List ℕ → List NetNode → Placed
  result i m args ns = result_in (slice_get g.kinds i) i m args ns

  abbrev pub result_of : List ℕ → Option Call → List NetNode → Placed
  result_of places None ns = record { nodes = ns; place = g.none }
  result_of places (Some c) ns = result c.part c.method (map (node_at places) c.args) ns

  -- a node of a body, whose nodes so far have these places. Its arguments are the inputs from this one on
  abbrev pub body_node : ℕ → List Call → List ℕ → List NetNode → Node → Placed
  body_node start cs places ns (node.Constant w) = add ns (net.Constant w)
  body_node start cs places ns (node.Argument k) = record { nodes = ns; place = start + k }
  body_node start cs places ns (node.Result c) = result_of places (slice_get cs c) ns
  body_node start cs places ns (node.Not a) = add ns (net.Not (node_at places a))
  body_node start cs places ns (node.Two o a b) = add ns (net.Two o (node_at places a) (node_at places b))
  body_node start cs places ns (node.Pick t a b) = add ns (net.Pick (node_at places t) (node_at places a) (node_at places b))
  body_node start cs places ns (node.Slice a high low) = add ns (net.Slice (node_at places a) high low)
  body_node start cs places ns (node.Join a b) = add ns (net.Join (node_at places a) (node_at places b))
  body_node start cs places ns (node.Extend a width) = add ns (net.Extend (node_at places a) width)
  body_node start cs places ns (node.SignExtend a width) = add ns (net.SignExtend (node_at places a) width)

  -- the nodes of a body, with their places
  unfoldable pub body : ℕ → List Call → List ℕ → List NetNode → List Node → PlacedAll
  body start cs places ns [] = record { nodes = ns; places = places }
  body start cs places ns (x ∷ xs) =
      body start cs (places ++ (body_node start cs places ns x).place ∷ []) (body_node start cs places ns x).nodes xs

-- ---- bits

-- the bit that is 1 where all of these are, after one
unfoldable pub all_from : List NetNode → ℕ → List ℕ → Placed
all_from ns a [] = record { nodes = ns; place = a }
all_from ns a (b ∷ bs) = all_from (both ns a b).nodes (both ns a b).place bs

-- where there is none of them, the node that is 1
abbrev pub all_of : ℕ → List NetNode → List ℕ → Placed
all_of one ns [] = record { nodes = ns; place = one }
all_of one ns (a ∷ others) = all_from ns a others

-- ---- sites

abbrev pub site : List ℕ → Call → Site
site places c = record { taken = node_at places c.taken; args = map (node_at places) c.args }

abbrev pub sites : List ℕ → List Call → List Site
sites places cs = map (site places) cs

abbrev pub truths : List ℕ → List Condition → List ℕ
truths places cs = map (λ c. node_at places c.truth) cs
