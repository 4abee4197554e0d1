-- Nodes that are folded have the words of the nodes that they stand for.
use Rattle.std.proofs.Common.{◌≡◌, ◌∙◌, ◌⊎◌, inl, inr, ℕ, ◌<◌, List, [], ◌∷◌, ◌++◌, length, Option, Some, None, refl, sym, ap, subst, arith}
use Rattle.std.specs.Prelude.{slice_get, MatchOption}
use Rattle.std.specs.List.{AllByRecursion}
use Rattle.std.proofs.lemmas.Option.{slice_get_within}
use Rattle.bsv_lemmas.proofs.Places.{at_end, at_left}
use Rattle.bsv_bits.specs.Words.{Bits}
use Rattle.bsv_design.specs.design.Bodies.{at}
use Rattle.bsv_net.specs.declared.node.NetNode.{NetNode}
use Rattle.bsv_net.specs.declared.node.NetNode.TheVariants as net
use Rattle.bsv_net.specs.Equations.{Values, computed, operated}
use Rattle.bsv_net.specs.Placing.{node_at}
use Rattle.bsv_share.specs.Folding.{Added, Folds, Placed, none, more}
use Rattle.bsv_share.specs.Operands.{first_operand, renamed}
use Rattle.bsv_share.specs.Sharing.{operands}
use Rattle.bsv_share.specs.Simplifying.{constant_word, same_word}
use Rattle.bsv_share.proofs.Folded.{Kept, ReadsEarlier, earlier, grown, kept, last_place, last_reads, place_there, reads_there}
use Rattle.bsv_share.proofs.NodesAt.{Sizes}
use Rattle.bsv_share.proofs.Renaming.{Agree, computes_same, operates_same, sizes_same}
use Rattle.bsv_share.proofs.Rules.{Solved, constant_word_is, same_word_is}

-- the words of the old nodes, in the clock that is looked at and in the one that tells the widths
pub record Old (inputs registers vs : List Bits) (U : Values) (xs : List NetNode) : Type 0 where
  pub operates : (k : ℕ) (x : NetNode) → slice_get xs k ≡ Some x → U k ≡ operated inputs registers U x
  pub computes : (k : ℕ) (x : NetNode) → slice_get xs k ≡ Some x → U k ≡ computed inputs registers U x
  pub sizes : (k : ℕ) (x : NetNode) → slice_get xs k ≡ Some x → Sizes U x
  pub widths : (k : ℕ) → (U k).width ≡ (at vs k).width

-- the first of the nodes that a node reads stands for the first one that it read
first_is : (V U : Values) (f : ℕ → ℕ) (x : NetNode) → Agree V U f x → 0 < length (operands (renamed f x)) → V (first_operand (renamed f x)) ≡ U (first_operand x)
first_is V U f (net.Input k) h l = absurd (omega arith)
first_is V U f (net.Register k) h l = absurd (omega arith)
first_is V U f (net.Constant w) h l = absurd (omega arith)
first_is V U f (net.Not a) h l = h.0
first_is V U f (net.Two o a b) h l = h.0
first_is V U f (net.Pick t a b) h l = h.0
first_is V U f (net.Slice a high low) h l = h.0
first_is V U f (net.Join a b) h l = h.0
first_is V U f (net.Extend a width) h l = h.0
first_is V U f (net.SignExtend a width) h l = h.0

module _ (inputs registers vs : List Bits) (U V : Values) where
  solved_before : (xs ys rest : List NetNode) → ys ≡ xs ++ rest → Solved inputs registers V ys → Solved inputs registers V xs
  solved_before xs ys rest e s = record {
    operates = λ k x there. s.operates k x (here k x there);
    computes = λ k x there. s.computes k x (here k x there);
    words = s.words;
  }
    where
      here : (k : ℕ) (x : NetNode) → slice_get xs k ≡ Some x → slice_get ys k ≡ Some x
      here k x there = ap (λ (ns : List NetNode). slice_get ns k) e ∙ (at_left xs rest k (slice_get_within xs k x there) ∙ there)

  old_before : (xs all : List NetNode) (x : NetNode) → all ≡ xs ++ x ∷ [] → Old inputs registers vs U all → Old inputs registers vs U xs
  old_before xs all x e o = record {
    operates = λ k y there. o.operates k y (here k y there);
    computes = λ k y there. o.computes k y (here k y there);
    sizes = λ k y there. o.sizes k y (here k y there);
    widths = o.widths;
  }
    where
      here : (k : ℕ) (y : NetNode) → slice_get xs k ≡ Some y → slice_get all k ≡ Some y
      here k y there = ap (λ (ns : List NetNode). slice_get ns k) e ∙ (at_left xs (x ∷ []) k (slice_get_within xs k y there) ∙ there)

  abbrev Follow : List ℕ → Type 0
  Follow places = (k p : ℕ) → slice_get places k ≡ Some p → V p ≡ U k

  agree_all : (places : List ℕ) → Follow places → (ns : List ℕ) → AllByRecursion (λ a. a < length places) ns → AllByRecursion (λ a. V (node_at places a) ≡ U a) ns
  agree_all places follow [] h = tt
  agree_all places follow (a ∷ ns) h =
      let f = place_there places a h.0 in
      (ap V f.2 ∙ follow a f.0 f.1, agree_all places follow ns h.1)

  -- a node that is placed has the word of the one for which it stands
  placed_word : (ys zs : List NetNode) (places : List ℕ) (x : NetNode) (place : ℕ) (u : Bits) → Solved inputs registers V ys → Solved inputs registers V zs
      → Agree V U (node_at places) x → Sizes U x → (U (first_operand x)).width ≡ (at vs (first_operand x)).width
      → u ≡ operated inputs registers U x → u ≡ computed inputs registers U x
      → Placed ys (at vs (first_operand x)).width (renamed (node_at places) x) zs place → V place ≡ u
  placed_word ys zs places x place u before after agree sizes wide operates computes h =
      of (constant_word ys (renamed (node_at places) x)) (same_word ys (at vs (first_operand x)).width (renamed (node_at places) x)) refl refl h
    where
      of : (o : Option Bits) (q : Option ℕ) → constant_word ys (renamed (node_at places) x) ≡ o → same_word ys (at vs (first_operand x)).width (renamed (node_at places) x) ≡ q
          → MatchOption o (MatchOption q (Added ys (renamed (node_at places) x) zs place) (λ same. (zs ≡ ys) × (place ≡ same))) (λ w. Added ys (net.Constant w) zs place)
          → V place ≡ u
      of (Some w) q e f added =
          after.computes place (net.Constant w) added.there
          ∙ (sym (constant_word_is inputs registers V ys before (renamed (node_at places) x) w e)
          ∙ (computes_same inputs registers V U (node_at places) x agree ∙ sym computes))
      of None None e f added =
          after.operates place (renamed (node_at places) x) added.there ∙ (operates_same inputs registers V U (node_at places) x agree ∙ sym operates)
      of None (Some p) e f same =
          ap V same.1
          ∙ (same_word_is inputs registers V ys before (at vs (first_operand x)).width (renamed (node_at places) x) p
          (sizes_same inputs registers V U (node_at places) x agree sizes)
          (λ l. ap (λ (w : Bits). w.width) (first_is V U (node_at places) x agree l) ∙ wide) f
          ∙ (operates_same inputs registers V U (node_at places) x agree ∙ sym operates))

  -- one node more
  follow_last : (xs all ys zs : List NetNode) (places more_places : List ℕ) (x : NetNode) (place : ℕ) → all ≡ xs ++ x ∷ [] → more_places ≡ places ++ place ∷ []
      → Placed ys (at vs (first_operand x)).width (renamed (node_at places) x) zs place → Kept xs ys places → AllByRecursion (λ a. a < length xs) (operands x)
      → Old inputs registers vs U all → Solved inputs registers V ys → Solved inputs registers V zs → Follow places → Follow more_places
  follow_last xs all ys zs places more_places x place e f placed before reads o solved s follow k p there =
      of (last_place places place k p (ap (λ (ps : List ℕ). slice_get ps k) (sym f) ∙ there))
    where
      last : slice_get all (length xs) ≡ Some x
      last = ap (λ (ns : List NetNode). slice_get ns (length xs)) e ∙ at_end xs x

      agree : Agree V U (node_at places) x
      agree = agree_all places follow (operands x) (subst (λ (n : ℕ). AllByRecursion (λ a. a < n) (operands x)) (sym before.long) reads)

      of : (slice_get places k ≡ Some p) ⊎ ((k ≡ length places) × (p ≡ place)) → V p ≡ U k
      of (inl i) = follow k p i
      of (inr i) =
          ap V i.1
          ∙ (placed_word ys zs places x place (U (length xs)) solved s agree (o.sizes (length xs) x last) (o.widths (first_operand x))
          (o.operates (length xs) x last) (o.computes (length xs) x last) placed
          ∙ ap U (sym (i.0 ∙ before.long)))

  -- each old node has the word of the node at its place
  pub follows : {xs ys : List NetNode} {places : List ℕ} → Folds vs xs ys places → ReadsEarlier xs → Old inputs registers vs U xs → Solved inputs registers V ys → Follow places
  follows none h o s = λ k p e. absurd (let n : ⊥ = cc in n)
  follows (more {xs = xs} {more_xs = all} {ys = ys} {zs = zs} {places = places} {more_places = more_places} x place folds e f placed) h o s =
      let before_reads = earlier vs xs all x e h in
      let before = kept vs folds before_reads in
      let reads = last_reads vs xs all x e h in
      let g = grown ys zs (at vs (first_operand x)).width (renamed (node_at places) x) place before.sound (reads_there vs xs ys places x before reads) placed in
      let solved = solved_before ys zs g.more g.is s in
      let follow = follows folds before_reads (old_before xs all x e o) solved in
      follow_last xs all ys zs places more_places x place e f placed before reads o solved s follow
