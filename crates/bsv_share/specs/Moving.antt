-- Nodes in another order: which node comes to each place, and the place to which each node goes.
use Rattle.std.specs.Prelude.{◌≡◌, ℕ, ◌==◌, nat_lt, Bool, true, false, not, ◌&&◌, ◌||◌, List, length, slice_get, Option, Some, None}
use Rattle.std.specs.List.{list_all}
use Rattle.bsv_net.specs.declared.net_data.NetData.{NetData}
use Rattle.bsv_net.specs.declared.node.NetNode.{NetNode}
use Rattle.bsv_net.specs.declared.node.NetNode.TheVariants as net
use Rattle.bsv_net.specs.Placing.{node_at}
use Rattle.bsv_share.specs.Operands.{renamed}
use Rattle.bsv_share.specs.Outputs.{with_nodes}

abbrev pub is_number : Option ℕ → ℕ → Bool
is_number None n = false
is_number (Some m) n = m == n

module _ (from to : List ℕ) where
  abbrev pub comes_to : ℕ → ℕ → Bool
  comes_to n place = is_number (slice_get from place) n

  abbrev pub before_as : ℕ → ℕ → Option ℕ → Bool
  before_as n count None = false
  before_as n count (Some place) = nat_lt place count && comes_to n place

  -- the node goes to a place before this one
  abbrev pub goes_before : ℕ → ℕ → Bool
  goes_before count n = before_as n count (slice_get to n)

  -- all nodes that a node reads do
  abbrev pub reads_before : ℕ → NetNode → Bool
  reads_before count (net.Input k) = true
  reads_before count (net.Register k) = true
  reads_before count (net.Constant w) = true
  reads_before count (net.Not a) = goes_before count a
  reads_before count (net.Two o a b) = goes_before count a && goes_before count b
  reads_before count (net.Pick t a b) = goes_before count t && goes_before count a && goes_before count b
  reads_before count (net.Slice a high low) = goes_before count a
  reads_before count (net.Join a b) = goes_before count a && goes_before count b
  reads_before count (net.Extend a width) = goes_before count a
  reads_before count (net.SignExtend a width) = goes_before count a

  -- a number that names no node, or the place of one that goes before this one
  abbrev pub keeps : ℕ → ℕ → Bool
  keeps count n = not (nat_lt n (length to)) || goes_before count n

  -- the node of this old place comes to this one
  pub record Comes (xs : List NetNode) (old place : ℕ) (y : NetNode) : Type 0 where
    pub node : NetNode
    pub there : slice_get xs old ≡ Some node
    pub goes : slice_get to old ≡ Some place
    pub reads : reads_before place node ≡ true
    pub is : y ≡ renamed (node_at to) node

  pub record AreMoved (xs ys : List NetNode) : Type 0 where
    pub long : length ys ≡ length from
    pub each : (k old : ℕ) → slice_get from k ≡ Some old → (y : NetNode) × (slice_get ys k ≡ Some y) × Comes xs old k y

-- the net of these nodes in this order
pub record IsMoveOf (from : List ℕ) (c d : NetData) : Type 0 where
  pub to : List ℕ
  pub all : length to ≡ length c.nodes
  pub nodes : List NetNode
  pub moved : AreMoved from to c.nodes nodes
  pub nexts : list_all (keeps from to (length from)) c.nexts ≡ true
  pub fires : list_all (keeps from to (length from)) c.fires ≡ true
  pub readies : list_all (keeps from to (length from)) c.readies ≡ true
  pub results : list_all (keeps from to (length from)) c.results ≡ true
  pub is : d ≡ with_nodes c nodes to
