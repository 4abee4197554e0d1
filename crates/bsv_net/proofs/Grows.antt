-- Nodes stay where they are when more are placed after them.
use Rattle.std.proofs.Common.{◌≡◌, ◌∙◌, ℕ, ◌+◌, ◌≤◌, List, [], ◌∷◌, ◌++◌, length, Some, refl, sym, ap, arith, append_assoc, append-nil, length-append}
use Rattle.std.specs.Prelude.{slice_get}
use Rattle.std.proofs.lemmas.Option.{slice_get_within}
use Rattle.bsv_lemmas.proofs.Places.{at_left, at_right}
use Rattle.bsv_prim.specs.Shape.{Shape, Given, IsCalled, ArgumentOf, Fixed, Inverted, Both, Chosen, Cut, Joined, Extended}
use Rattle.bsv_net.specs.declared.node.NetNode.{NetNode}
use Rattle.bsv_net.specs.declared.node.NetNode.TheVariants as net
use Rattle.bsv_net.specs.Placing.{Wires, add, piece}

-- the new nodes are the old ones with others after
pub record Grows (old new : List NetNode) : Type 0 where
  pub more : List NetNode
  pub is : new ≡ old ++ more

pub grows_refl : (ns : List NetNode) → Grows ns ns
grows_refl ns = record { more = []; is = sym (append-nil ns) }

pub grows_trans : {xs ys zs : List NetNode} → Grows xs ys → Grows ys zs → Grows xs zs
grows_trans {xs} {ys} {zs} g h =
    record { more = g.more ++ h.more; is = h.is ∙ ap (λ (ns : List NetNode). ns ++ h.more) g.is ∙ append_assoc xs g.more h.more }

pub grows_add : (ns : List NetNode) (x : NetNode) → Grows ns (add ns x).nodes
grows_add ns x = record { more = x ∷ []; is = refl }

-- what grew to the whole did so before its last node
pub grows_before : (ns : List NetNode) (x : NetNode) {full : List NetNode} → Grows (add ns x).nodes full → Grows ns full
grows_before ns x g = grows_trans (grows_add ns x) g

pub length_grows : {old new : List NetNode} → Grows old new → length old ≤ length new
length_grows {old} {new} g = let e = ap length g.is in omega (arith, length-append old g.more)

pub kept : {old new : List NetNode} → Grows old new → (k : ℕ) (x : NetNode) → slice_get old k ≡ Some x → slice_get new k ≡ Some x
kept {old} {new} g k x e = ap (λ (ns : List NetNode). slice_get ns k) g.is ∙ at_left old g.more k (slice_get_within old k x e) ∙ e

-- a node that was added is at the place that it was given
pub added_there : (ns : List NetNode) (x : NetNode) {full : List NetNode} → Grows (ns ++ x ∷ []) full → slice_get full (length ns) ≡ Some x
added_there ns x g =
    let place : length ns + 0 ≡ length ns = omega arith in
    kept g (length ns) x (ap (slice_get (ns ++ x ∷ [])) (sym place) ∙ at_right ns (x ∷ []) 0)

pub piece_grows : (w : Wires) (ns : List NetNode) (shape : Shape) → Grows ns (piece w ns shape).nodes
unfolding piece
piece_grows w ns (Given n) = grows_refl ns
piece_grows w ns (IsCalled m) = grows_refl ns
piece_grows w ns (ArgumentOf m k) = grows_refl ns
piece_grows w ns (Fixed x) = grows_add ns (net.Constant x)
piece_grows w ns (Inverted a) = let p = piece w ns a in grows_trans (piece_grows w ns a) (grows_add p.nodes (net.Not p.place))
piece_grows w ns (Both o a b) =
    let p = piece w ns a in
    let q = piece w p.nodes b in
    grows_trans (piece_grows w ns a) (grows_trans (piece_grows w p.nodes b) (grows_add q.nodes (net.Two o p.place q.place)))
piece_grows w ns (Chosen c a b) =
    let p = piece w ns c in
    let q = piece w p.nodes a in
    let r = piece w q.nodes b in
    grows_trans (piece_grows w ns c)
    (grows_trans (piece_grows w p.nodes a) (grows_trans (piece_grows w q.nodes b) (grows_add r.nodes (net.Pick p.place q.place r.place))))
piece_grows w ns (Cut a high low) = let p = piece w ns a in grows_trans (piece_grows w ns a) (grows_add p.nodes (net.Slice p.place high low))
piece_grows w ns (Joined a b) =
    let p = piece w ns a in
    let q = piece w p.nodes b in
    grows_trans (piece_grows w ns a) (grows_trans (piece_grows w p.nodes b) (grows_add q.nodes (net.Join p.place q.place)))
piece_grows w ns (Extended a width) = let p = piece w ns a in grows_trans (piece_grows w ns a) (grows_add p.nodes (net.Extend p.place width))
