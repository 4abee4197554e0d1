-- How nodes are placed in a net: each after those that are there. What is placed is the nodes after it, and the place
-- of the node that has its word.
use Rattle.std.specs.Prelude.{ℕ, ◌+◌, List, [], ◌∷◌, ◌++◌, length, slice_get, Option, Some, None}
use Rattle.bsv_bits.specs.declared.operator.Operator.{Operator}
use Rattle.bsv_bits.specs.declared.operator.Operator.TheVariants.{And, Or}
use Rattle.bsv_prim.specs.Shape.{Shape, Given, IsCalled, ArgumentOf, Fixed, Inverted, Both, Chosen, Cut, Joined, Extended}
use Rattle.bsv_net.specs.declared.node.NetNode.{NetNode}
use Rattle.bsv_net.specs.declared.node.NetNode.TheVariants as net

-- the nodes, and a place among them
pub record Placed : Type 0 where
  pub nodes : List NetNode
  pub place : ℕ

abbrev pub add : List NetNode → NetNode → Placed
add ns x = record { nodes = ns ++ x ∷ []; place = length ns }

abbrev pub both : List NetNode → ℕ → ℕ → Placed
both ns a b = add ns (net.Two And a b)

abbrev pub either : List NetNode → ℕ → ℕ → Placed
either ns a b = add ns (net.Two Or a b)

abbrev pub negated : List NetNode → ℕ → Placed
negated ns a = add ns (net.Not a)

-- the node of this place in a list, or the first node where there is none
abbrev pub or_first : Option ℕ → ℕ
or_first None = 0
or_first (Some n) = n

abbrev pub node_at : List ℕ → ℕ → ℕ
node_at ns k = or_first (slice_get ns k)

-- ---- pieces of a part

-- where a piece of a part finds its words
pub record Wires : Type 0 where
  -- the node of the first register of the part; the others come after it
  pub registers : ℕ
  -- of each method the node that is 1 where it is called, and those of its arguments
  pub called : ℕ → ℕ
  pub argument : ℕ → ℕ → ℕ

abbrev pub inverted : Placed → Placed
inverted p = add p.nodes (net.Not p.place)

abbrev pub two : Operator → Placed → (List NetNode → Placed) → Placed
two o p f = of (f p.nodes) where
  of : Placed → Placed
  of q = add q.nodes (net.Two o p.place q.place)

abbrev pub joined : Placed → (List NetNode → Placed) → Placed
joined p f = of (f p.nodes) where
  of : Placed → Placed
  of q = add q.nodes (net.Join p.place q.place)

abbrev pub picked : Placed → (List NetNode → Placed) → (List NetNode → Placed) → Placed
picked p f g = behind (f p.nodes) where
  of : Placed → Placed → Placed
  of q r = add r.nodes (net.Pick p.place q.place r.place)

  behind : Placed → Placed
  behind q = of q (g q.nodes)

abbrev pub sliced : Placed → ℕ → ℕ → Placed
sliced p high low = add p.nodes (net.Slice p.place high low)

abbrev pub extended : Placed → ℕ → Placed
extended p width = add p.nodes (net.Extend p.place width)

-- a piece, from the inside to the outside. Registers and calls have their nodes already
unfoldable pub piece : Wires → List NetNode → Shape → Placed
piece w ns (Given n) = record { nodes = ns; place = w.registers + n }
piece w ns (IsCalled m) = record { nodes = ns; place = w.called m }
piece w ns (ArgumentOf m k) = record { nodes = ns; place = w.argument m k }
piece w ns (Fixed x) = add ns (net.Constant x)
piece w ns (Inverted a) = inverted (piece w ns a)
piece w ns (Both o a b) = two o (piece w ns a) (λ ms. piece w ms b)
piece w ns (Chosen c a b) = picked (piece w ns c) (λ ms. piece w ms a) (λ ms. piece w ms b)
piece w ns (Cut a high low) = sliced (piece w ns a) high low
piece w ns (Joined a b) = joined (piece w ns a) (λ ms. piece w ms b)
piece w ns (Extended a width) = extended (piece w ns a) width
