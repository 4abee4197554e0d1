-- The node of a piece has the piece's word, where the registers and the calls of its part have their nodes.
use Rattle.std.proofs.Common.{◌≡◌, ◌∙◌, ℕ, ◌+◌, ◌<◌, List, length, ap, ap₂}
use Rattle.std.specs.Prelude.{if◌then◌else◌}
use Rattle.bsv_bits.specs.Operators.{operate}
use Rattle.bsv_bits.specs.Words.{Bits, bit, word_not, word_slice, word_concat, word_extend}
use Rattle.bsv_prim.specs.Shape.{Shape, Given, IsCalled, ArgumentOf, Fixed, Inverted, Both, Chosen, Cut, Joined, Extended}
use Rattle.bsv_prim.specs.Signals.{Signals, is_one, word_of}
use Rattle.bsv_prim.specs.Speaks.{SpeaksOf}
use Rattle.bsv_prim.specs.Table.{Table}
use Rattle.bsv_prim.specs.Widths.{HasWidth}
use Rattle.bsv_net.specs.declared.node.NetNode.{NetNode}
use Rattle.bsv_net.specs.declared.node.NetNode.TheVariants as net
use Rattle.bsv_net.specs.Equations.{Values, Satisfies}
use Rattle.bsv_net.specs.Placing.{Wires, piece}
use Rattle.bsv_net.proofs.Grows.{Grows, grows_trans, grows_before, added_there, piece_grows}

-- the nodes of the wires have the words of the signals, of the registers of a part and of the methods of which is spoken
pub record Carries (t : Table) (Calls Arguments : ℕ → Type 0) (V : Values) (w : Wires) (v : Signals) : Type 0 where
  pub registers : (n : ℕ) → n < t.registers → V (w.registers + n) ≡ v.register n
  pub called : (m : ℕ) → m < t.methods → Calls m → V (w.called m) ≡ bit (v.called m)
  pub argument : (m k : ℕ) → m < t.methods → k < t.arity m → Arguments m → V (w.argument m k) ≡ v.argument m k

pub speaks_of_all : (shape : Shape) → SpeaksOf (λ m. Unit {0}) (λ m. Unit {0}) shape
speaks_of_all (Given n) = tt
speaks_of_all (IsCalled m) = tt
speaks_of_all (ArgumentOf m k) = tt
speaks_of_all (Fixed x) = tt
speaks_of_all (Inverted a) = speaks_of_all a
speaks_of_all (Both o a b) = (speaks_of_all a, speaks_of_all b)
speaks_of_all (Chosen c a b) = (speaks_of_all c, speaks_of_all a, speaks_of_all b)
speaks_of_all (Cut a high low) = speaks_of_all a
speaks_of_all (Joined a b) = (speaks_of_all a, speaks_of_all b)
speaks_of_all (Extended a width) = speaks_of_all a

pub if_one : (c d a p b q : Bits) → c ≡ d → a ≡ p → b ≡ q → (if is_one c then a else b) ≡ (if is_one d then p else q)
if_one c d a p b q e f g = ap₂ (λ (x y : Bits). if is_one x then y else b) e f ∙ ap (λ (y : Bits). if is_one d then p else y) g

module _ (t : Table) (Calls Arguments : ℕ → Type 0) (inputs registers : List Bits) (V : Values) (full : List NetNode) (widths : List ℕ) (s : Satisfies inputs registers V full widths) (w : Wires) (v : Signals) (h : Carries t Calls Arguments V w v) where
  pub piece_means : (ns : List NetNode) (shape : Shape) (width : ℕ) → HasWidth t shape width → SpeaksOf Calls Arguments shape → Grows (piece w ns shape).nodes full
      → V (piece w ns shape).place ≡ word_of v shape
  unfolding piece
  piece_means ns (Given n) width fits speaks g = h.registers n fits.0
  piece_means ns (IsCalled m) width fits speaks g = h.called m fits.0 speaks
  piece_means ns (ArgumentOf m k) width fits speaks g = h.argument m k fits.0 fits.1 speaks
  piece_means ns (Fixed x) width fits speaks g = s.operates (length ns) (net.Constant x) (added_there ns (net.Constant x) g)
  piece_means ns (Inverted a) width fits speaks g =
      let p = piece w ns a in
      let x = net.Not p.place in
      s.operates (length p.nodes) x (added_there p.nodes x g) ∙ ap word_not (piece_means ns a width fits speaks (grows_before p.nodes x g))
  piece_means ns (Both o a b) width fits speaks g =
      let p = piece w ns a in
      let q = piece w p.nodes b in
      let x = net.Two o p.place q.place in
      let behind = grows_before q.nodes x g in
      s.operates (length q.nodes) x (added_there q.nodes x g)
      ∙ ap₂ (operate o) (piece_means ns a fits.0 fits.2 speaks.0 (grows_trans (piece_grows w p.nodes b) behind)) (piece_means p.nodes b fits.1 fits.3 speaks.1 behind)
  piece_means ns (Chosen c a b) width fits speaks g =
      let p = piece w ns c in
      let q = piece w p.nodes a in
      let r = piece w q.nodes b in
      let x = net.Pick p.place q.place r.place in
      let third = grows_before r.nodes x g in
      let second = grows_trans (piece_grows w q.nodes b) third in
      let first = grows_trans (piece_grows w p.nodes a) second in
      s.operates (length r.nodes) x (added_there r.nodes x g)
      ∙ if_one (V p.place) (word_of v c) (V q.place) (word_of v a) (V r.place) (word_of v b) (piece_means ns c 1 fits.0 speaks.0 first) (piece_means p.nodes a width fits.1 speaks.1 second)
      (piece_means q.nodes b width fits.2 speaks.2 third)
  piece_means ns (Cut a high low) width fits speaks g =
      let p = piece w ns a in
      let x = net.Slice p.place high low in
      s.operates (length p.nodes) x (added_there p.nodes x g) ∙ ap (λ (y : Bits). word_slice y high low) (piece_means ns a fits.0 fits.1 speaks (grows_before p.nodes x g))
  piece_means ns (Joined a b) width fits speaks g =
      let p = piece w ns a in
      let q = piece w p.nodes b in
      let x = net.Join p.place q.place in
      let behind = grows_before q.nodes x g in
      s.operates (length q.nodes) x (added_there q.nodes x g)
      ∙ ap₂ word_concat (piece_means ns a fits.0 fits.2 speaks.0 (grows_trans (piece_grows w p.nodes b) behind)) (piece_means p.nodes b fits.1 fits.3 speaks.1 behind)
  piece_means ns (Extended a wide) width fits speaks g =
      let p = piece w ns a in
      let x = net.Extend p.place wide in
      s.operates (length p.nodes) x (added_there p.nodes x g) ∙ ap (λ (y : Bits). word_extend y wide) (piece_means ns a fits.0 fits.1 speaks (grows_before p.nodes x g))
