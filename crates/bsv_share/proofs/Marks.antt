-- Nodes that are marked are reached.
use Rattle.std.proofs.Common.{◌≡◌, ◌∙◌, ◌⊎◌, inl, inr, ◌+◌, ℕ, Bool, true, List, [], ◌∷◌, ◌++◌, take, map, Some, All, sym, ap, subst}
use Rattle.std.specs.Prelude.{slice_get}
use Rattle.std.specs.List.Sorted.{IsPermutation}
use Rattle.std.proofs.lemmas.List.Sorted.{All-permutation}
use Rattle.std.proofs.lemmas.Option.{get_or_from_slice_get, slice_get_within}
use Rattle.bsv_guard.proofs.Lists.{item_of}
use Rattle.bsv_share.specs.declared.order.Rank.{Rank}
use Rattle.bsv_lemmas.proofs.Places.{take_one}
use Rattle.bsv_graph.specs.Orders.{In}
use Rattle.bsv_graph.proofs.LeastLemmas.{in_left}
use Rattle.bsv_net.specs.declared.net_data.NetData.{NetData}
use Rattle.bsv_net.specs.declared.node.NetNode.{NetNode}
use Rattle.bsv_share.specs.Ordering.{AllReached, MarksOnly, NoneMarked, PlacesReached, is_marked}
use Rattle.bsv_share.specs.Sharing.{IsReached, next, fire, ready, result, output, operand, operands}

in_last : (xs : List ℕ) (x k : ℕ) → k ≡ x → In (xs ++ x ∷ []) k
in_last [] x k e = inl e
in_last (y ∷ xs) x k e = inr (in_last xs x k e)

-- one place more
pub marks_more : (places : List ℕ) (i place : ℕ) (old before after : List Bool) → slice_get places i ≡ Some place → MarksOnly (In (take i places)) old before
    → MarksOnly (λ k. k ≡ place) before after → MarksOnly (In (take (i + 1) places)) old after
marks_more places i place old before after there first second k h = of (second k h)
  where
    grown : In (take i places ++ place ∷ []) k → In (take (i + 1) places) k
    grown = subst (λ (ns : List ℕ). In ns k) (sym (take_one places i place there))

    by_first : (is_marked old k ≡ true) ⊎ In (take i places) k → (is_marked old k ≡ true) ⊎ In (take (i + 1) places) k
    by_first (inl e) = inl e
    by_first (inr m) = inr (grown (in_left (take i places) (place ∷ []) k m))

    of : (is_marked before k ≡ true) ⊎ (k ≡ place) → (is_marked old k ≡ true) ⊎ In (take (i + 1) places) k
    of (inl e) = by_first (first k e)
    of (inr e) = inr (grown (in_last (take i places) place k e))

module _ (c : NetData) where
  -- marked nodes stay reached, where those that are marked are
  pub reached_more : (P : ℕ → Type 0) (old new : List Bool) → AllReached c old → ((k : ℕ) → P k → IsReached c k) → MarksOnly P old new → AllReached c new
  reached_more P old new reached each marks k h = of (marks k h)
    where
      of : (is_marked old k ≡ true) ⊎ P k → IsReached c k
      of (inl e) = reached k e
      of (inr p) = each k p

  pub none_reached : (marks : List Bool) → NoneMarked marks → AllReached c marks
  none_reached marks none k h = let e = none k in let n : ⊥ = cc in absurd n

  pub outputs_reached : (a b d e f : List Bool) → NoneMarked a → MarksOnly (In c.nexts) a b → MarksOnly (In c.fires) b d → MarksOnly (In c.readies) d e → MarksOnly (In c.results) e f
      → AllReached c f
  outputs_reached a b d e f none one two three four =
      reached_more (In c.results) e f
      (reached_more (In c.readies) d e
      (reached_more (In c.fires) b d
      (reached_more (In c.nexts) a b (none_reached a none) (λ k h. output (next h)) one)
      (λ k h. output (fire h)) two)
      (λ k h. output (ready h)) three)
      (λ k h. output (result h)) four

  -- and those that a marked node reads
  pub reads_reached : (old new : List Bool) (place : ℕ) (x : NetNode) → AllReached c old → is_marked old place ≡ true → slice_get c.nodes place ≡ Some x
      → MarksOnly (In (operands x)) old new → AllReached c new
  reads_reached old new place x reached marked there marks = reached_more (In (operands x)) old new reached (λ k h. operand (reached place marked) there h) marks

-- of ranks whose nodes are marked, in any order
pub places_reached : (c : NetData) (marks : List Bool) (ranks sorted : List Rank) (places : List ℕ) → AllReached c marks → All (λ (r : Rank). is_marked marks r.place ≡ true) ranks
    → IsPermutation ranks sorted → places ≡ map (λ (r : Rank). r.place) sorted → PlacesReached c places
places_reached c marks ranks sorted places reached all permuted is k n there =
    let f = item_of (λ (r : Rank). r.place) sorted k n (ap (λ (ns : List ℕ). slice_get ns k) (sym is) ∙ there) in
    let every = All-permutation (λ (r : Rank). is_marked marks r.place ≡ true) ranks sorted permuted all in
    let marked = every k f.item (slice_get_within sorted k f.item f.is) in
    let same = get_or_from_slice_get sorted k f.item f.item f.is in
    reached n (ap (is_marked marks) (sym f.gives) ∙ subst (λ (r : Rank). is_marked marks r.place ≡ true) same marked)
