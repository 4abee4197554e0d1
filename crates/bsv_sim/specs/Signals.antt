-- What the words of the nodes of a net tell of the elements.
use Rattle.std.specs.Prelude.{ℕ, nat_lt, Bool, true, false, not, ◌&&◌, List, slice_get, Option, Some, None, unwrap_or, if◌then◌else◌}
use Rattle.bsv_bits.specs.Words.{Bits}
use Rattle.bsv_design.specs.design.Bodies.{at}
use Rattle.bsv_design.specs.design.Words.{is_one}

-- the words of the nodes, and the nodes that tell of each element
pub record Signals : Type 0 where
  pub words : List Bits
  pub fires : List ℕ
  pub readies : List ℕ
  pub results : List ℕ
  pub nodes : ℕ

abbrev pub one_at : List Bits → Option ℕ → Bool
one_at vs None = false
one_at vs (Some k) = is_one (at vs k)

-- the node has a word, unless it is the number of nodes, which names none
abbrev pub word_of : List Bits → ℕ → Option ℕ → Option Bits
word_of vs nodes None = None
word_of vs nodes (Some k) = (if nat_lt k nodes then Some (at vs k) else None)

module _ (r : Signals) where
  abbrev pub fires : ℕ → Bool
  fires n = one_at r.words (slice_get r.fires n)

  abbrev pub is_ready : ℕ → Bool
  is_ready n = one_at r.words (slice_get r.readies n)

  -- what it gives, where its entry names a node
  abbrev pub word : ℕ → Option Bits
  word n = word_of r.words r.nodes (slice_get r.results n)

  -- it is a method that is asked and not ready
  abbrev pub is_blocked : List Bool → ℕ → Bool
  is_blocked asked n = unwrap_or (slice_get asked n) false && not (is_ready n)

  -- it is ready and does not fire, as a rule or a method that is asked. Methods are those with an entry
  abbrev pub is_stopped : List Bool → ℕ → Bool
  is_stopped asked n = (unwrap_or (slice_get asked n) true && is_ready n) && not (fires n)
