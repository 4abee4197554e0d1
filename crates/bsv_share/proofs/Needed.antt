-- Where all nodes that are moved are reached, each node of the net in the new order is.
use Rattle.std.proofs.Common.{◌≡◌, ◌∙◌, inl, inr, ◌<◌, ℕ, Bool, true, not, ◌||◌, List, [], ◌∷◌, Some, map, length, sym, ap, subst, arith}
use Rattle.std.specs.Prelude.{slice_get, nat_lt}
use Rattle.std.specs.List.{AllByRecursion, list_all}
use Rattle.std.proofs.lemmas.Bool.{and_parts, lt-ltb}
use Rattle.std.proofs.lemmas.Option.{same_Some, slice_get_within}
use Rattle.bsv_lemmas.proofs.Places.{item_there}
use Rattle.bsv_graph.specs.Orders.{In}
use Rattle.bsv_net.specs.declared.net_data.NetData.{NetData}
use Rattle.bsv_net.specs.declared.node.NetNode.{NetNode}
use Rattle.bsv_net.specs.Placing.{node_at}
use Rattle.bsv_share.specs.Moving.{AreMoved, IsMoveOf, goes_before, keeps}
use Rattle.bsv_share.specs.Operands.{renamed}
use Rattle.bsv_share.specs.Ordering.{PlacesReached}
use Rattle.bsv_share.specs.Outputs.{or_none, place_or, with_nodes}
use Rattle.bsv_share.specs.Sharing.{IsNeeded, IsOutput, IsReached, next, fire, ready, result, output, operand, operands}
use Rattle.bsv_share.proofs.MovedNet.{Goes, at_place, each_goes, goes_there}
use Rattle.bsv_share.proofs.Renaming.{operands_renamed}

in_mapped : (f : ℕ → ℕ) (ns : List ℕ) (k : ℕ) → In ns k → In (map f ns) (f k)
in_mapped f [] k h = absurd h
in_mapped f (n ∷ ns) k (inl e) = inl (ap f e)
in_mapped f (n ∷ ns) k (inr h) = inr (in_mapped f ns k h)

of_all : (P : ℕ → Type 0) (ns : List ℕ) (k : ℕ) → AllByRecursion P ns → In ns k → P k
of_all P [] k h i = absurd i
of_all P (n ∷ ns) k h (inl e) = subst P (sym e) h.0
of_all P (n ∷ ns) k h (inr i) = of_all P ns k h.1 i

passes_in : (p : ℕ → Bool) (ns : List ℕ) (k : ℕ) → list_all p ns ≡ true → In ns k → p k ≡ true
passes_in p [] k h i = absurd i
passes_in p (n ∷ ns) k h (inl e) = ap p e ∙ (and_parts (p n) (list_all p ns) h).0
passes_in p (n ∷ ns) k h (inr i) = passes_in p ns k (and_parts (p n) (list_all p ns) h).1 i

module _ (from to : List ℕ) (c : NetData) (nodes : List NetNode) (moved : AreMoved from to c.nodes nodes) (all : length to ≡ length c.nodes)
    (nexts : list_all (keeps from to (length from)) c.nexts ≡ true) (fires : list_all (keeps from to (length from)) c.fires ≡ true)
    (readies : list_all (keeps from to (length from)) c.readies ≡ true) (results : list_all (keeps from to (length from)) c.results ≡ true) where
  abbrev d : NetData
  d = with_nodes c nodes to

  abbrev put : ℕ → ℕ
  put k = place_or to (length nodes) k

  -- a node that is reached where it goes
  record Reached (k : ℕ) : Type 0 where
    place : ℕ
    goes : slice_get to k ≡ Some place
    comes : slice_get from place ≡ Some k
    reached : IsReached d place

  kept_goes : (k : ℕ) → k < length c.nodes → keeps from to (length from) k ≡ true → Goes from to (length from) k
  kept_goes k l h =
      let inside : nat_lt k (length to) ≡ true = lt-ltb k (length to) (omega (arith, l, all)) in
      goes_there from to (length from) k (sym (ap (λ (b : Bool). not b || goes_before from to (length from) k) inside) ∙ h)

  -- an output goes to an output
  kept_output : (k : ℕ) → k < length c.nodes → keeps from to (length from) k ≡ true → IsOutput d (put k) → Reached k
  kept_output k l h is =
      let g = kept_goes k l h in
      record {
        place = g.place;
        goes = g.goes;
        comes = g.comes;
        reached = subst (IsReached d) (ap (or_none (length nodes)) g.goes) (output is);
      }

  output_reached : (k : ℕ) → k < length c.nodes → IsOutput c k → Reached k
  output_reached k l (next i) = kept_output k l (passes_in (keeps from to (length from)) c.nexts k nexts i) (next (in_mapped put c.nexts k i))
  output_reached k l (fire i) = kept_output k l (passes_in (keeps from to (length from)) c.fires k fires i) (fire (in_mapped put c.fires k i))
  output_reached k l (ready i) = kept_output k l (passes_in (keeps from to (length from)) c.readies k readies i) (ready (in_mapped put c.readies k i))
  output_reached k l (result i) = kept_output k l (passes_in (keeps from to (length from)) c.results k results i) (result (in_mapped put c.results k i))

  operand_reached : (n k : ℕ) (x : NetNode) → Reached n → slice_get c.nodes n ≡ Some x → In (operands x) k → Reached k
  operand_reached n k x r there i =
      let m = moved.each r.place n r.comes in
      let z = m.2.node in
      let same : z ≡ x = same_Some z x (sym m.2.there ∙ there) in
      let j : In (operands z) k = subst (λ (y : NetNode). In (operands y) k) (sym same) i in
      let g = of_all (Goes from to r.place) (operands z) k (each_goes from to (Goes from to r.place) r.place (λ a h. h) z m.2.reads) j in
      let at_new : slice_get nodes r.place ≡ Some (renamed (node_at to) z) = m.1 ∙ ap Some m.2.is in
      let read : In (operands (renamed (node_at to) z)) (node_at to k) =
      subst (λ (ns : List ℕ). In ns (node_at to k)) (sym (operands_renamed (node_at to) z)) (in_mapped (node_at to) (operands z) k j) in
      record {
        place = g.place;
        goes = g.goes;
        comes = g.comes;
        reached = subst (IsReached d) g.is (operand r.reached at_new read);
      }

  reached_moved : {k : ℕ} → IsReached c k → k < length c.nodes → Reached k
  reached_moved {k} (output is) l = output_reached k l is
  reached_moved {k} (operand {n = n} {x = x} r there i) l = operand_reached n k x (reached_moved r (slice_get_within c.nodes n x there)) there i

  pub all_needed : PlacesReached c from → IsNeeded d
  all_needed reached k l =
      let h = at_place from to c.nodes nodes moved k (item_there nodes k l).0 (item_there nodes k l).1 in
      let r = reached_moved (reached k h.old h.from_old) (slice_get_within c.nodes h.old h.comes.node h.comes.there) in
      subst (IsReached d) (same_Some r.place k (sym r.goes ∙ h.comes.goes)) r.reached

pub needed_net : (from : List ℕ) (c d : NetData) → IsMoveOf from c d → PlacesReached c from → IsNeeded d
needed_net from c d h reached =
    subst IsNeeded (sym h.is) (all_needed from h.to c h.nodes h.moved h.all h.nexts h.fires h.readies h.results reached)
